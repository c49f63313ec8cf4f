use Rattle.test_store.specs.Samples.{HasNoRoots}
use Rattle.test_store.proofs.arena.fill.Given as goal

abbrev pub invariant-loop-i : goal.invariant-loop-i
invariant-loop-i g l = HasNoRoots l.arena
