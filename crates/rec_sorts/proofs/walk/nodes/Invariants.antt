use Rattle.std.proofs.Common.{◌≡◌, ◌++◌, length}
use Rattle.rx_term.specs.Walks.{AllHeld, held_trees}
use Rattle.rec_sorts.specs.Walking.{unstacked}
use Rattle.rec_sorts.proofs.walk.nodes.Given as goal

abbrev pub invariant-loop-node : goal.invariant-loop-node
invariant-loop-node g l =
    let w = g.B.TermBank.store l.bank in
    record {
      stacked : AllHeld w l.stack.items;
      held : AllHeld w l.found.items;
      trees : held_trees w l.found.items ++ unstacked (held_trees w l.stack.items) ≡ unstacked (held_trees w l.fn.stack.items);
    }

abbrev pub decreases-loop-node : goal.decreases-loop-node
decreases-loop-node g l = length (unstacked (held_trees (g.B.TermBank.store l.bank) l.stack.items))
