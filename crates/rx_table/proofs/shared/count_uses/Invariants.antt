use Rattle.std.proofs.Common.{take}
use Rattle.rx_table.specs.Inner.Shared.{AreCounts}
use Rattle.rx_table.proofs.shared.count_uses.Given as goal

-- the indices so far were counted
abbrev pub invariant-loop-index : goal.invariant-loop-index
invariant-loop-index l = AreCounts l.count (take l.index-index l.inside) l.uses.items
