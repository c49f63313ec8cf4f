use Rattle.rx_sweep.specs.Reach.{CanCollect}
use Rattle.test_store.proofs.sweep.long_list.Given as goal

abbrev pub invariant-loop-i : goal.invariant-loop-i
invariant-loop-i g l = CanCollect l.arena
