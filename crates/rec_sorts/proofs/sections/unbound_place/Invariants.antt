use Rattle.std.proofs.Common.{◌≡◌, drop}
use Rattle.rec_sorts.specs.Least.{earlier}
use Rattle.rec_sorts.specs.Reading.{binds_variable, unbound_among}
use Rattle.rec_sorts.proofs.sections.unbound_place.Given as goal

abbrev pub invariant-loop-placed : goal.invariant-loop-placed
invariant-loop-placed l = earlier l.least (unbound_among (binds_variable l.bound.letters.now) (drop l.placed-index l.letters)) ≡ unbound_among
    (binds_variable l.bound.letters.now) l.letters
