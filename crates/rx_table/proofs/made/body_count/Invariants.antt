use Rattle.std.proofs.Common.{length}
use Rattle.rx_term.specs.Walks.{held_tree}
use Rattle.rx_table.proofs.WalkLemmas.{items_at}
use Rattle.rx_table.proofs.MadeLemmas.{Counting}
use Rattle.rx_table.proofs.made.body_count.Given as goal

-- the first annotations were counted, and `rest` has the others
abbrev pub invariant-loop-left : goal.invariant-loop-left
invariant-loop-left g l =
    let w = g.B.TermBank.store l.bank in
    Counting w (held_tree w l.fn.t) l.rest l.left

abbrev pub decreases-loop-left : goal.decreases-loop-left
decreases-loop-left g l = length (items_at (g.B.TermBank.store l.bank) l.rest)
