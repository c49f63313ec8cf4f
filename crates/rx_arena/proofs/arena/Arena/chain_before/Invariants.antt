use Rattle.std.proofs.Common.{length}
use Rattle.rx_arena.specs.Arena.{chain_at}
use Rattle.rx_arena.proofs.WalkLemmas.{left_of}
use Rattle.rx_arena.proofs.RemovingLemmas.{Seeking}
use Rattle.rx_arena.proofs.arena.Arena.chain_before.Given as goal

abbrev pub invariant-loop-next : goal.invariant-loop-next
invariant-loop-next l = Seeking (chain_at l.self l.chain) l.fn.slot.0 l.last l.next

abbrev pub decreases-loop-next : goal.decreases-loop-next
decreases-loop-next l = length (left_of l.next (chain_at l.self l.chain))
