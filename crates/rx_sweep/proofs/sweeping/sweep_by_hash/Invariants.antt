use Rattle.rx_sweep.proofs.HomingLemmas.{Sweeping}
use Rattle.rx_sweep.proofs.sweeping.sweep_by_hash.Given as goal

abbrev pub invariant-loop-number : goal.invariant-loop-number
invariant-loop-number l = Sweeping l.initial.arena l.number l.arena

abbrev pub decreases-loop-number : goal.decreases-loop-number
decreases-loop-number l = l.number
