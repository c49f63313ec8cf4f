use Rattle.rx_arena.specs.Arena.{chain_at}
use Rattle.rx_arena.proofs.WalkLemmas.{walk_at, walk_on, left_less, chain_once, chain_in}
use Rattle.test_store.proofs.sweep.unmarked_chain.Goals as goal

pub marked-requires : goal.marked-requires
marked-requires g c =
    c.chain_first-next.ensures.law.chained_taken c.in-Some.slot.0
    (chain_in c.args.arena.now c.args.chain c.in-Some.slot.0 (walk_at (chain_at c.args.arena.now c.args.chain) c.loop-next.next c.loop-next.invariant
    c.in-Some.slot c.in-Some.is))

pub chain_next-next-requires : goal.chain_next-next-requires
chain_next-next-requires g c =
    chain_in c.args.arena.now c.args.chain c.in-Some.slot.0 (walk_at (chain_at c.args.arena.now c.args.chain) c.loop-next.next c.loop-next.invariant
    c.in-Some.slot c.in-Some.is)

pub loop-next-smaller : goal.loop-next-smaller
loop-next-smaller g c =
    left_less (chain_at c.args.arena.now c.args.chain) c.loop-next.next c.loop-next.invariant c.in-Some.slot c.in-Some.is c.chain_next-next.result
    (c.chain_next-next.ensures.next c.args.chain)
    (chain_once c.args.arena.now c.chain_first-next.ensures.law c.args.chain)

pub loop-next-preserved : goal.loop-next-preserved
loop-next-preserved g c =
    walk_on (chain_at c.args.arena.now c.args.chain) c.loop-next.next c.loop-next.invariant c.in-Some.slot c.in-Some.is c.chain_next-next.result
    (c.chain_next-next.ensures.next c.args.chain)
