use Rattle.std.proofs.Common.{◌≤◌, length, take}
use Rattle.rx_table.proofs.MadeLemmas.{Making}
use Rattle.rx_table.proofs.made.make_list.Given as goal

-- the last items are in the list
abbrev pub invariant-loop-end : goal.invariant-loop-end
invariant-loop-end g l = record {
  made : Making (g.C.TermBank.store l.fn.to) l.items (take l.end l.items) (g.C.TermBank.store l.to) l.list;
  within : l.end ≤ length l.items;
}

abbrev pub decreases-loop-end : goal.decreases-loop-end
decreases-loop-end g l = l.end
