use Rattle.std.proofs.Common.{nat_eq, take}
use Rattle.indexmap.specs.IndexMap.{get}
use Rattle.rec_sorts.specs.Linked.{NumbersOf}
use Rattle.rec_sorts.proofs.links.numbers_of.Given as goal

abbrev pub invariant-loop-i : goal.invariant-loop-i
invariant-loop-i l = NumbersOf (take l.i l.symbols) (λ s. get nat_eq l.numbers s)
