use Rattle.std.proofs.Common.{length}
use Rattle.rx_table.proofs.WalkLemmas.{Entering}
use Rattle.rx_table.proofs.walk.enter.Given as goal

-- the last of the trees inside are entered next, after the tree is left
abbrev pub invariant-loop-next : goal.invariant-loop-next
invariant-loop-next g l = Entering (g.B.TermBank.store l.bank) l.fn.t l.fn.start l.inside.items l.fn.visits.items l.visits.items

abbrev pub decreases-loop-next : goal.decreases-loop-next
decreases-loop-next g l = length l.inside.items
