use Rattle.std.proofs.Common.{◌≡◌, ℕ, [], ◌∷◌, Some, sym, ap, subst}
use Rattle.rec_sorts.specs.TermRules.{broken_by_elements}
use Rattle.psilt_core.specs.Banks.{BankState, IsSpecified, store_of}
use Rattle.psilt_core.specs.Evaluating.{HasTree}
use Rattle.psilt_core.proofs.EvaluatingLemmas.{given_is, broken_is}
use Rattle.psilt_core.proofs.work.Work.check_given.Goals as goal

pub returns-in-Ok-check-clause-answer : goal.returns-in-Ok-check-clause-answer
returns-in-Ok-check-clause-answer c = given_is c.args.self.now.bank c.list_anyway.new.bank c.args.t c.in-Ok.list (ap (λ (b : BankState). b.specified) c.list_anyway.ensures.same)
    c.requires.held c.list_anyway.ensures.given c.in-Ok.ensures.list c.in-Ok-check.ensures.kept

pub returns-in-Err-Rule-clause-answer : goal.returns-in-Err-Rule-clause-answer
returns-in-Err-Rule-clause-answer c =
    let broken = rw c.in-Err-Rule.field-0-is at c.in-Err-Rule.ensures.broken in let b = c.args.self.now.bank in
    subst (λ (k : ℕ). IsSpecified b (λ y. HasTree (store_of b) c.args.t (λ u. broken_by_elements y (u ∷ []) ≡ Some k))) (sym c.from-self.ensures)
    (broken_is b c.list_anyway.new.bank c.args.t c.in-Ok.list (ap (λ (b : BankState). b.specified) c.list_anyway.ensures.same) c.requires.held c.list_anyway.ensures.given
    c.in-Ok.ensures.list c.in-Err-Rule.number broken)
