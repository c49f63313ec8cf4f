use Rattle.std.proofs.Common.{◌≡◌, ℕ, take}
use Rattle.std.specs.Prelude.{nat_eq}
use Rattle.std.specs.HashSet.{contains}
use Rattle.rec_sorts.specs.Reading.{binds_variable}
use Rattle.rec_sorts.proofs.bound.variables.Given as goal

abbrev pub invariant-loop-placed : goal.invariant-loop-placed
invariant-loop-placed l = (v : ℕ) → contains nat_eq l.variables v ≡ binds_variable (take l.placed-index l.letters) v
