use Rattle.std.proofs.Common.{◌≤◌, length, drop}
use Rattle.rx_term.specs.Store.{tree_at}
use Rattle.rx_term.specs.Steps.{Grows}
use Rattle.rx_term.specs.Walks.{Lists}
use Rattle.rx_term.proofs.build.list.Given as goal

abbrev pub invariant-loop-left : goal.invariant-loop-left
invariant-loop-left g l = record {
  within : l.left ≤ length l.items;
  grows : Grows (g.B.TermBank.store l.fn.bank) (g.B.TermBank.store l.bank);
  lists : Lists (g.B.TermBank.store l.fn.bank) (drop l.left l.items) (tree_at (g.B.TermBank.store l.bank) l.list);
}

abbrev pub decreases-loop-left : goal.decreases-loop-left
decreases-loop-left g l = l.left
