use Rattle.std.proofs.Common.{◌<◌, length, sym, subst}
use Rattle.rx_arena.specs.Arena.{ArenaState, new_cell}
use Rattle.rx_arena.proofs.ArenaCallLemmas.{just_taken}
use Rattle.rx_sweep.proofs.ReadyLemmas.{linked_ready, linked_taken}
use Rattle.test_alloc_failure.proofs.arenas.link_first.Goals as goal

pub chain_push-requires-clause-taken : goal.chain_push-requires-clause-taken
chain_push-requires-clause-taken c =
    (new_cell c.args.body, just_taken c.args.arena.now c.take.new.self c.in_ok-slot.slot.0 (new_cell c.args.body) c.in_ok-slot.ensures.cells)

pub returns-clause-ready : goal.returns-clause-ready
returns-clause-ready c =
    let t = c.in_ok-slot.ensures in
    let lt = subst (λ (v : ArenaState). 0 < length v.chains) (sym t.rest) c.requires.chains in
    linked_ready c.args.arena.now c.take.new.self c.chain_push.new.self c.in_ok-slot.slot.0 0 c.args.body t.free t.cells t.rest t.loose lt
    c.chain_push.ensures.after c.requires.ready c.requires.parts

pub returns-clause-taken : goal.returns-clause-taken
returns-clause-taken c =
    let t = c.in_ok-slot.ensures in
    let lt = subst (λ (v : ArenaState). 0 < length v.chains) (sym t.rest) c.requires.chains in
    linked_taken c.args.arena.now c.take.new.self c.chain_push.new.self c.in_ok-slot.slot.0 0 c.args.body t.free t.cells t.rest t.loose lt
    c.chain_push.ensures.after
