use Rattle.std.proofs.Common.{◌≡◌, drop}
use Rattle.rec_sorts.specs.Reading.{binds_variable}
use Rattle.rec_sorts.proofs.bound.binds.Given as goal

abbrev pub invariant-loop-placed : goal.invariant-loop-placed
invariant-loop-placed l = binds_variable (drop l.placed-index l.letters) l.variable ≡ binds_variable l.letters l.variable
