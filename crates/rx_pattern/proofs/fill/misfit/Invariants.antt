use Rattle.std.proofs.Common.{map, drop}
use Rattle.rx_pattern.specs.Nodes.{step_of}
use Rattle.rx_pattern.specs.Making.{blanks_of_steps}
use Rattle.rx_pattern.proofs.FittingLemmas.{Checking}
use Rattle.rx_pattern.proofs.fill.misfit.Given as goal

abbrev pub invariant-loop-node : goal.invariant-loop-node
invariant-loop-node g l =
    Checking (g.B.TermBank.store l.bank) (blanks_of_steps (map step_of l.nodes)) (blanks_of_steps (map step_of (drop l.node-index l.nodes))) l.args
    l.at l.node-index
