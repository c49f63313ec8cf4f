use Rattle.std.proofs.Common.{◌≡◌, ◌+◌, drop}
use Rattle.rec_sorts.specs.SortFaults.{first_place}
use Rattle.rec_sorts.proofs.checked.first_broken.Given as goal

abbrev pub invariant-loop-i : goal.invariant-loop-i
invariant-loop-i l = first_place (l.i + 1) (drop l.i l.places) ≡ first_place 1 l.places
