use Rattle.std.proofs.Common.{◌≡◌, ◌+◌, false}
use Rattle.std.specs.Prelude.{if◌then◌else◌}
use Rattle.rx_plain.specs.Marks.{Keeps, OnlyLinked, MarksAreClosed, unmarked}
use Rattle.rx_plain.proofs.marks.spread.Given as goal

abbrev pub invariant-loop-fresh : goal.invariant-loop-fresh
invariant-loop-fresh l = record {
  keeps : Keeps l.fn.slots l.slots;
  only : OnlyLinked l.fn.slots l.slots;
  closed : l.fresh ≡ false → MarksAreClosed l.slots;
}

abbrev pub decreases-loop-fresh : goal.decreases-loop-fresh
decreases-loop-fresh l = unmarked l.slots + (if l.fresh then 1 else 0)
