use Rattle.std.proofs.Common.{drop}
use Rattle.rx_term.specs.Steps.{Grows}
use Rattle.rx_text.proofs.MakingLemmas.{UnderWay}
use Rattle.rx_text.proofs.build.build.Given as goal

abbrev pub invariant-loop-node : goal.invariant-loop-node
invariant-loop-node g l = record {
  under_way : UnderWay (g.B.TermBank.store l.bank) l.bytes l.made.items l.nodes (drop l.node-index l.nodes);
  grows : Grows (g.B.TermBank.store l.fn.bank) (g.B.TermBank.store l.bank);
}
