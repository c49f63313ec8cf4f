use Rattle.rx_arena.specs.Arena.{chain_at}
use Rattle.rx_arena.proofs.WalkLemmas.{walk_at, left_less, chain_once, chain_in}
use Rattle.rx_arena.proofs.RemovingLemmas.{seeking_begins, seeking_on}
use Rattle.rx_arena.proofs.arena.Arena.chain_before.Goals as goal

pub loop-next-init : goal.loop-next-init
loop-next-init c = seeking_begins (chain_at c.args.self.now c.args.chain) c.args.slot.0 c.chain_first-next.result c.chain_first-next.ensures.first

pub chain_next-next-requires : goal.chain_next-next-requires
chain_next-next-requires c =
    chain_in c.args.self.now c.args.chain c.in-Some.here.0 (walk_at (chain_at c.args.self.now c.args.chain) c.loop-next.next
    c.loop-next.invariant.walk c.in-Some.here c.in-Some.is)

pub loop-next-smaller : goal.loop-next-smaller
loop-next-smaller c =
    left_less (chain_at c.args.self.now c.args.chain) c.loop-next.next c.loop-next.invariant.walk c.in-Some.here c.in-Some.is c.chain_next-next.result
    (c.chain_next-next.ensures.next c.args.chain)
    (chain_once c.args.self.now c.chain_first-next.ensures.law c.args.chain)

pub loop-next-preserved : goal.loop-next-preserved
loop-next-preserved c =
    seeking_on (chain_at c.args.self.now c.args.chain) c.args.slot.0 c.loop-next.last c.loop-next.next c.loop-next.invariant c.in-Some.here c.in-Some.is
    c.if-here-slot.false c.chain_next-next.result (c.chain_next-next.ensures.next c.args.chain)
