use Rattle.std.proofs.Common.{◌≡◌, []}
use Rattle.test_store.specs.Samples.{HasNoRoots}
use Rattle.test_store.proofs.arena.sweep.Given as goal

abbrev pub invariant-loop-chain : goal.invariant-loop-chain
invariant-loop-chain g l = (l.arena.gray ≡ []) × HasNoRoots l.arena
