use Rattle.std.proofs.Common.{◌≡◌, take, map, length}
use Rattle.rec_sorts.proofs.checked.lengths.Given as goal

abbrev pub invariant-loop-vector : goal.invariant-loop-vector
invariant-loop-vector l = l.lengths.items ≡ map (λ sorts. length sorts.items) (take l.vector-index l.vectors)
