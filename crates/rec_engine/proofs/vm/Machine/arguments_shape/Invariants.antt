use Rattle.std.proofs.Common.{◌≡◌, IsSome, true}
use Rattle.rx_term.specs.Tree.{count_of, items_of}
use Rattle.rx_term.specs.Store.{tree_at}
use Rattle.rx_term.specs.Walks.{held_tree}
use Rattle.rec_sorts.specs.TermRules.{arguments}
use Rattle.rec_engine.specs.Inner.Shared.{AreOwnValues}
use Rattle.rec_engine.proofs.vm.Machine.arguments_shape.Given as goal

-- the arguments before the rest of the list are their own values
abbrev pub invariant-loop-argument : goal.invariant-loop-argument
invariant-loop-argument g l =
    let w = g.B.TermBank.store l.self.heap.bank in
    let y = l.self.checked.spec in
    let m = l.self.code.matcher in
    record {
      list : IsSome (tree_at w l.rest);
      values : l.shape.is_value ≡ true → AreOwnValues y m (items_of (held_tree w l.rest)) → AreOwnValues y m (arguments (held_tree w l.fn.node));
    }

abbrev pub decreases-loop-argument : goal.decreases-loop-argument
decreases-loop-argument g l = count_of (items_of (held_tree (g.B.TermBank.store l.self.heap.bank) l.rest))
