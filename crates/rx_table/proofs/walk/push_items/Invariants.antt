use Rattle.std.proofs.Common.{length}
use Rattle.rx_table.proofs.WalkLemmas.{Taken, items_at}
use Rattle.rx_table.proofs.walk.push_items.Given as goal

-- the first items were pushed, and `rest` has the others
abbrev pub invariant-loop-items : goal.invariant-loop-items
invariant-loop-items g l = Taken (g.B.TermBank.store l.bank) l.fn.list l.rest l.fn.items.items l.items.items

abbrev pub decreases-loop-items : goal.decreases-loop-items
decreases-loop-items g l = length (items_at (g.B.TermBank.store l.bank) l.rest)
