use Rattle.std.proofs.Common.{◌≡◌, ◌≤◌, drop, length, map}
use Rattle.rec_syntax.specs.Parts.{node_of}
use Rattle.rec_uses.specs.Inner.Heads.{passed}
use Rattle.rec_uses.specs.Inner.Values.{state_of}
use Rattle.rec_uses.proofs.order.Order.pass_all.Given as goal

abbrev pub invariant-loop-at : goal.invariant-loop-at
invariant-loop-at l = record {
  within : l.at ≤ length l.nodes;
  so_far : state_of l.self ≡ passed (state_of l.initial.self) (map (node_of l.syntax.source) (drop l.at l.nodes));
}

abbrev pub decreases-loop-at : goal.decreases-loop-at
decreases-loop-at l = l.at
