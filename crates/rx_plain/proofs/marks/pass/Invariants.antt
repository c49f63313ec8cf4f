use Rattle.rx_plain.specs.Marks.{Keeps, OnlyLinked, Progress}
use Rattle.rx_plain.proofs.marks.pass.Given as goal

abbrev pub invariant-loop-place : goal.invariant-loop-place
invariant-loop-place l = record {
  keeps : Keeps l.fn.slots l.slots;
  only : OnlyLinked l.fn.slots l.slots;
  progress : Progress l.fresh l.fn.slots l.slots l.place;
}
