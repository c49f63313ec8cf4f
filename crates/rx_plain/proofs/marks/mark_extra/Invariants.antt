use Rattle.std.proofs.Common.{map, take}
use Rattle.rx_plain.specs.Marks.{Marks}
use Rattle.rx_plain.proofs.marks.mark_extra.Given as goal

abbrev pub invariant-loop-t : goal.invariant-loop-t
invariant-loop-t l = Marks l.fn.slots l.slots (map (λ t. t.0) (take l.t-index l.extra))
