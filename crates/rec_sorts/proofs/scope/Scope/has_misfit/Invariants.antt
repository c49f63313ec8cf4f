use Rattle.std.proofs.Common.{◌≡◌, drop, IsSome}
use Rattle.rx_term.specs.Store.{tree_at}
use Rattle.rx_term.specs.Walks.{held_tree}
use Rattle.rx_term.specs.Tree.{items_of}
use Rattle.rec_sorts.specs.Inner.GivenTerms.{are_misfits, has_misfit}
use Rattle.rec_sorts.proofs.scope.Scope.has_misfit.Given as goal

abbrev pub invariant-loop-sort : goal.invariant-loop-sort
invariant-loop-sort g l =
    let w = g.B.TermBank.store l.bank in
    record {
      held : IsSome (tree_at w l.rest);
      same : are_misfits l.self (drop l.sort-index l.sort-items) (items_of (held_tree w l.rest)) ≡ has_misfit l.self (held_tree w l.fn.node);
    }
