use Rattle.std.proofs.Common.{◌≡◌, ◌++◌, IsSome}
use Rattle.rx_term.specs.Tree.{to_list, count_of, items_of}
use Rattle.rx_term.specs.Store.{tree_at}
use Rattle.rx_term.specs.Walks.{AllHeld, held_tree, held_trees}
use Rattle.rec_sorts.proofs.walk.push_items.Given as goal

abbrev pub invariant-loop-stack : goal.invariant-loop-stack
invariant-loop-stack g l =
    let w = g.B.TermBank.store l.bank in
    record {
      rest : IsSome (tree_at w l.rest);
      held : AllHeld w l.stack.items;
      trees : held_trees w l.stack.items ++ to_list (items_of (held_tree w l.rest)) ≡ held_trees w l.fn.stack.items ++ to_list
          (items_of (held_tree w l.fn.list));
    }

abbrev pub decreases-loop-stack : goal.decreases-loop-stack
decreases-loop-stack g l = count_of (items_of (held_tree (g.B.TermBank.store l.bank) l.rest))
