use Rattle.std.proofs.Common.{◌≡◌, ◌≤◌, ◌+◌, length, map, drop}
use Rattle.rx_pattern.specs.Nodes.{step_of}
use Rattle.rx_pattern.specs.Making.{blanks_of_steps}
use Rattle.rx_pattern.proofs.fill.count_blanks.Given as goal

abbrev pub invariant-loop-node : goal.invariant-loop-node
invariant-loop-node l = record {
  within : l.blanks ≤ l.node-index;
  left : l.blanks + length (blanks_of_steps (map step_of (drop l.node-index l.nodes))) ≡ length (blanks_of_steps (map step_of l.nodes));
}
