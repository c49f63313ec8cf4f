use Rattle.std.proofs.Common.{◌≡◌}
use Rattle.rx_term.specs.Store.{tree_at}
use Rattle.rx_shared.specs.State.{store_of}
use Rattle.psilt_core.specs.Answers.{item_in, IsPlaceIn}
use Rattle.psilt_core.proofs.reading.item.Given as goal

abbrev pub invariant-loop-left : goal.invariant-loop-left
invariant-loop-left l = record {
  there : IsPlaceIn l.left (tree_at (store_of l.bank) l.list);
  same : item_in l.left (tree_at (store_of l.bank) l.list) ≡ item_in l.fn.i (tree_at (store_of l.bank) l.fn.list);
}

abbrev pub decreases-loop-left : goal.decreases-loop-left
decreases-loop-left l = l.left
