use Rattle.std.proofs.Common.{◌≡◌, List, drop, Some}
use Rattle.rx_term.specs.Tree.{Tree, list_of}
use Rattle.rx_term.specs.Store.{tree_at}
use Rattle.rx_term.specs.Steps.{Grows}
use Rattle.rx_text.specs.Nodes.{newest}
use Rattle.rx_text.specs.Held.{Holds}
use Rattle.rx_text.proofs.build.take_list.Given as goal

-- the list of the newest trees, and the references of the others
abbrev pub invariant-loop-index : goal.invariant-loop-index
invariant-loop-index g l = record {
  list : (trees : List Tree) → Holds (g.B.TermBank.store l.fn.bank) l.fn.made.items trees
      → tree_at (g.B.TermBank.store l.bank) l.list ≡ Some (list_of (newest l._index trees));
  left : (trees : List Tree) → Holds (g.B.TermBank.store l.fn.bank) l.fn.made.items trees
      → Holds (g.B.TermBank.store l.bank) l.made.items (drop l._index trees);
  grows : Grows (g.B.TermBank.store l.fn.bank) (g.B.TermBank.store l.bank);
}
