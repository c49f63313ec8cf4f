use Rattle.std.proofs.Common.{ap, map, rules, subst, ◌∙◌, ◌≡◌, ◌++◌}
use Rattle.std.specs.Prelude.{Option, List, ℕ, take}
use Rattle.rec_syntax.specs.Syntax.{Term, head}
use Rattle.rec_sorts.specs.Numbering.{IsMeaning, Named, name_of, named, named_by}
use Rattle.rec_sorts.specs.declared.letters.Meaning.TheVariants.{Symbol}
use Rattle.rec_check.specs.Rewriting.{IsFirstWord, rewritten_by}
use Rattle.rec_check.proofs.RewritingLemmas.{if_ok_so, last_is, no_last, none_variable}
use Rattle.rec_check.proofs.TrialLemmas.{All-last, AreMeant}
use Rattle.rec_check.proofs.rewriting.Rewriter.rewriting.Goals as goal

pub returns-in_default-clause-first : goal.returns-in_default-clause-first
returns-in_default-clause-first c = λ ms t e. absurd (no_last c.args.self.now.checked.now.spec ms t c.args.terms.letters.now (search rules) e)

pub rewriting_call-requires-clause-symbol : goal.rewriting_call-requires-clause-symbol
rewriting_call-requires-clause-symbol c =
    let y = c.args.self.now.checked.now.spec in
    subst (IsMeaning y) c.in-Symbol.is (All-last y c.in-Some._others.now c.in-Some.last.now (subst (AreMeant y) c.in-Some.ensures.cases.0 c.requires.meant))

pub returns-in-Symbol-clause-first : goal.returns-in-Symbol-clause-first
returns-in-Symbol-clause-first c =
    let y = c.args.self.now.checked.now.spec in
    let terms = c.args.terms.letters.now in
    if_ok_so c.rewriting_call.result
    (λ (found : Option ℕ). (ms : List Named) (t : Term) → map (named_by y) terms ≡ ms ++ named t
    → (head t).bytes ≡ name_of y (Symbol c.in-Symbol.symbol) → IsFirstWord y found (rewritten_by y (take c.args.before y.rules) t))
    (λ (found : Option ℕ). (ms : List Named) (t : Term) → map (named_by y) terms ≡ ms ++ named t
    → IsFirstWord y found (rewritten_by y (take c.args.before y.rules) t))
    (λ found h ms t e. h ms t e (last_is y ms t c.in-Some._others.now terms c.in-Some.last.now c.in-Some.ensures.cases.0 e
    ∙ ap (name_of y) c.in-Symbol.is)) c.rewriting_call.ensures.first

pub returns-in-Variable-clause-first : goal.returns-in-Variable-clause-first
returns-in-Variable-clause-first c = λ ms t e.
    let y = c.args.self.now.checked.now.spec in
    let h = c.requires.rules in
    let last = c.in-Some.last.now in
    none_variable y h.kept h.heads h.are_heads c.in-Variable.field-0
    (subst (IsMeaning y) c.in-Variable.is (All-last y c.in-Some._others.now last (subst (AreMeant y) c.in-Some.ensures.cases.0 c.requires.meant))) t
    (last_is y ms t c.in-Some._others.now c.args.terms.letters.now last c.in-Some.ensures.cases.0 e ∙ ap (name_of y) c.in-Variable.is) c.args.before
    c.requires.before
