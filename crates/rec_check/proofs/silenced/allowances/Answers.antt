use Rattle.std.proofs.Common.{ap, sym, ◌∙◌, ◌||◌}
use Rattle.std.proofs.lemmas.List.{nil_from_length}
use Rattle.rec_check.specs.Inner.Allowances.{allowed, has_allowance}
use Rattle.rec_check.proofs.SilencedLemmas.{or-false}
use Rattle.rec_check.proofs.silenced.allowances.Goals as goal

pub loop-first-preserved : goal.loop-first-preserved
loop-first-preserved c = λ phrase.
    c.in_ok-rest.ensures.known phrase
    ∙ ap (λ xs. allowed c.loop-first.names phrase || has_allowance xs phrase) (sym c.in-Some.ensures.cases.0)
    ∙ c.loop-first.invariant phrase

pub returns : goal.returns
returns c = λ phrase.
    sym (or-false (allowed c.loop-first.names phrase))
    ∙ ap (λ xs. allowed c.loop-first.names phrase || has_allowance xs phrase)
    (sym (nil_from_length c.loop-first.rest.now c.in_default.ensures.cases))
    ∙ c.loop-first.invariant phrase
