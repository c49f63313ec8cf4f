use Rattle.std.proofs.Common.{map, subst, sym, ◌≡◌, ◌++◌, []}
use Rattle.std.specs.Prelude.{All, List, Option, ℕ, get_or, take}
use Rattle.rec_syntax.specs.Syntax.{Term}
use Rattle.rec_sorts.specs.Numbering.{IsMeaning, Named, named, named_by}
use Rattle.rec_match.proofs.SkipLemmas as skip
use Rattle.rec_check.specs.Rewriting.{IsFirstWord, rewritten_by}
use Rattle.rec_check.proofs.RewritingLemmas.{if_ok_so}
use Rattle.rec_check.proofs.rewriting.Rewriter.rewriting_left.Goals as goal

pub rewriting-requires-clause-meant : goal.rewriting-requires-clause-meant
rewriting-requires-clause-meant c =
    let y = c.args.self.now.checked.now.spec in
    subst (λ ls. All (λ l. IsMeaning y l.meaning) ls) (sym c.deref-2.ensures.value) (c.letters.ensures skip.no_rule).0.0

pub returns-clause-first : goal.returns-clause-first
returns-clause-first c = λ r.
    let y = c.args.self.now.checked.now.spec in
    let before = take c.args.rule y.rules in
    let t = (get_or y.rules c.args.rule r).left in
    let letters = c.deref-2.result.now in
    if_ok_so c.rewriting.result (λ (found : Option ℕ). (ms : List Named) (t : Term) → map (named_by y) letters ≡ ms ++ named t
    → IsFirstWord y found (rewritten_by y before t)) (λ (found : Option ℕ). IsFirstWord y found (rewritten_by y before t))
    (λ found h. h [] t (subst (λ ls. map (named_by y) ls ≡ named t) (sym c.deref-2.ensures.value) (c.letters.ensures r).0.1)) c.rewriting.ensures.first
