use Rattle.std.proofs.Common.{◌<◌, length, sym, subst}
use Rattle.rx_arena.specs.Arena.{ArenaState, new_cell}
use Rattle.rx_arena.proofs.ArenaCallLemmas.{just_taken}
use Rattle.rx_sweep.proofs.ReadyLemmas.{linked_ready}
use Rattle.test_store.proofs.sweep.link.Goals as goal

pub chain_push-requires-clause-taken : goal.chain_push-requires-clause-taken
chain_push-requires-clause-taken c =
    (new_cell c.args.body, just_taken c.args.arena.now c.take.new.self c.in_ok-slot.slot.0 (new_cell c.args.body) c.in_ok-slot.ensures.cells)

pub returns : goal.returns
returns c =
    let t = c.in_ok-slot.ensures in
    let lt = subst (λ (v : ArenaState). c.args.chain < length v.chains) (sym t.rest) c.requires.chain in
    linked_ready c.args.arena.now c.take.new.self c.chain_push.new.self c.in_ok-slot.slot.0 c.args.chain c.args.body t.free t.cells t.rest t.loose lt
    c.chain_push.ensures.after c.requires.ready c.requires.parts
