use Rattle.std.proofs.Common.{◌≡◌, drop, false}
use Rattle.rec_sorts.specs.Least.{earlier}
use Rattle.rec_sorts.specs.Reading.{unbound_among}
use Rattle.rec_sorts.proofs.sections.first_variable.Given as goal

abbrev pub invariant-loop-placed : goal.invariant-loop-placed
invariant-loop-placed l = earlier l.least (unbound_among (λ _. false) (drop l.placed-index l.letters)) ≡ unbound_among (λ _. false) l.letters
