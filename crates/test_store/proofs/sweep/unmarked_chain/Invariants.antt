use Rattle.std.proofs.Common.{length}
use Rattle.rx_arena.specs.Arena.{chain_at}
use Rattle.rx_arena.proofs.WalkLemmas.{Walk, left_of}
use Rattle.test_store.proofs.sweep.unmarked_chain.Given as goal

abbrev pub invariant-loop-next : goal.invariant-loop-next
invariant-loop-next g l = Walk (chain_at l.arena l.chain) l.next

abbrev pub decreases-loop-next : goal.decreases-loop-next
decreases-loop-next g l = length (left_of l.next (chain_at l.arena l.chain))
