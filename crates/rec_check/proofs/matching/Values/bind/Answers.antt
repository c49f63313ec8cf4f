use Rattle.std.proofs.Common.{sym, ap, ◌∙◌}
use Rattle.std.specs.Prelude.{option_map}
use Rattle.rec_check.proofs.TrialLemmas.{binds_again, binds_new}
use Rattle.rec_check.proofs.matching.Values.bind.Goals as goal

pub returns-in-Some : goal.returns-in-Some
returns-in-Some c =
    binds_again c.args.variable c.args.part.now c.in-Some.value.now c.args.self.now c.same_letters.result
    (sym c.value.ensures ∙ ap (option_map (λ p. p.now)) c.in-Some.is) c.same_letters.ensures.same c.same_letters.ensures.other

pub returns-in_ok-give-in-None : goal.returns-in_ok-give-in-None
returns-in_ok-give-in-None c = binds_new c.args.variable c.args.part.now c.args.self.now c.give.new.self
    (sym c.value.ensures ∙ ap (option_map (λ p. p.now)) c.in-None.is) c.in_ok-give-in-None.ensures
