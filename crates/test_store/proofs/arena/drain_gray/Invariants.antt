use Rattle.std.proofs.Common.{◌≡◌, length}
use Rattle.test_store.proofs.arena.drain_gray.Given as goal

abbrev pub invariant-loop-slot : goal.invariant-loop-slot
invariant-loop-slot l = l.arena ≡ record l.initial.arena { gray = l.arena.gray }

abbrev pub decreases-loop-slot : goal.decreases-loop-slot
decreases-loop-slot l = length l.arena.gray
