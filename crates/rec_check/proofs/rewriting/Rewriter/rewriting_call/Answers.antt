use Rattle.std.proofs.Common.{arith, map, subst, sym, ◌≡◌, ◌++◌}
use Rattle.std.proofs.lemmas.List.Elements.{All-drop}
use Rattle.std.specs.Prelude.{All, Option, List, ℕ, take}
use Rattle.rec_syntax.specs.Syntax.{Term, head}
use Rattle.rec_sorts.specs.Numbering.{AreLetters, IsMeaning, Named, name_of, named, named_by}
use Rattle.rec_sorts.specs.declared.letters.Letter.{Letter}
use Rattle.rec_sorts.specs.declared.letters.Meaning.TheVariants.{Symbol}
use Rattle.rec_check.specs.Rewriting.{IsFirstWord, rewritten_by}
use Rattle.rec_check.proofs.RewritingLemmas.{first_next, if_ok_so, last_letters, no_rule, none_start}
use Rattle.rec_check.proofs.rewriting.Rewriter.rewriting_call.Goals as goal

pub returns-then-index-before-clause-first : goal.returns-then-index-before-clause-first
returns-then-index-before-clause-first c = λ ms t e is.
    let s = c.args.self.now in
    let y = s.checked.now.spec in
    let h = c.requires.rules in
    let first = c.index.result.now in
    no_rule y t first c.args.before c.requires.before c.if-index-before.true
    (none_start y h.kept h.heads h.are_heads c.args.symbol 0 first c.requires.symbol t is
    (first_next s h c.args.symbol first c.requires.symbol c.index.ensures) (λ i d lt there. absurd (omega (arith, lt))))

pub returns-clause-first : goal.returns-clause-first
returns-clause-first c =
    let y = c.args.self.now.checked.now.spec in
    let terms = c.args.terms.letters.now in
    let n = c.before_last.result in
    if_ok_so c.rewriting_term.result (λ (found : Option ℕ). (t : Term) → AreLetters y c.split_at.result.1.letters.now t
    → (head t).bytes ≡ name_of y (Symbol c.args.symbol) → IsFirstWord y found (rewritten_by y (take c.args.before y.rules) t))
    (λ (found : Option ℕ). (ms : List Named) (t : Term) → map (named_by y) terms ≡ ms ++ named t → (head t).bytes ≡ name_of y (Symbol c.args.symbol)
    → IsFirstWord y found (rewritten_by y (take c.args.before y.rules) t))
    (λ found h ms t e is. h t (subst (λ ls. AreLetters y ls t) (sym c.split_at.ensures.back)
    (last_letters y ms t terms n c.requires.meant e (c.before_last.ensures.split y ms t e))) is) c.rewriting_term.ensures.first

pub rewriting_term-requires-clause-meant : goal.rewriting_term-requires-clause-meant
rewriting_term-requires-clause-meant c =
    let y = c.args.self.now.checked.now.spec in
    subst (λ ls. All (λ l. IsMeaning y l.meaning) ls) (sym c.split_at.ensures.back)
    (All-drop (λ (l : Letter). IsMeaning y l.meaning) c.before_last.result c.args.terms.letters.now c.requires.meant)
