use Rattle.std.proofs.Common.{◌≡◌, Some, drop}
use Rattle.rx_term.specs.Store.{tree_at}
use Rattle.rx_term.specs.Tree.{from_list, list_of}
use Rattle.rec_run.specs.GivenTerms.{given_at}
use Rattle.rec_run.proofs.spec.lines.rest_after.Given as goal

-- the rest of the list is left
abbrev pub invariant-loop-index : goal.invariant-loop-index
invariant-loop-index g l = record {
  left : tree_at (g.B.TermBank.store l.bank) l.rest ≡ Some (list_of (from_list (drop l._index (given_at (g.B.TermBank.store l.bank) l.fn.list))));
}
