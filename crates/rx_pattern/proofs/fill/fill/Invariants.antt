use Rattle.rx_pattern.proofs.FillLemmas.{Filling}
use Rattle.rx_pattern.proofs.fill.fill.Given as goal

abbrev pub invariant-loop-at : goal.invariant-loop-at
invariant-loop-at g l = Filling (g.B.TermBank.store l.fn.bank) (g.B.TermBank.store l.bank) l.nodes l.args l.made.items l.at l.left

abbrev pub decreases-loop-at : goal.decreases-loop-at
decreases-loop-at g l = l.at
