use Rattle.std.proofs.Common.{◌≡◌, Some, ap, subst}
use Rattle.std.specs.Prelude.{Result, IfOk}
use Rattle.rx_arena.specs.declared.fault.ArenaFault.{ArenaFault}
use Rattle.rx_arena.specs.declared.Slot.{Slot}
use Rattle.rx_arena.specs.Put.{put}
use Rattle.rx_arena.specs.Arena.{ArenaState, new_cell}
use Rattle.rx_arena.proofs.ArenaCallLemmas.{just_taken}
use Rattle.test_store.proofs.UnrootedLemmas.{no_roots_taken, no_roots_same}
use Rattle.test_store.proofs.arena.link.Goals as goal

pub chain_push-requires-clause-taken : goal.chain_push-requires-clause-taken
chain_push-requires-clause-taken g c =
    let cells : c.take.new.self.cells ≡ put c.args.arena.now.cells c.expect-slot.result.0 (Some (new_cell c.body.result)) =
    subst (λ (r : Result Slot ArenaFault). IfOk r (λ s. c.take.new.self.cells ≡ put c.args.arena.now.cells s.0 (Some (new_cell c.body.result))))
    c.expect-slot.ensures c.take.ensures.cells in
    (new_cell c.body.result, just_taken c.args.arena.now c.take.new.self c.expect-slot.result.0 (new_cell c.body.result) cells)

pub returns : goal.returns
returns g c =
    let cells : c.take.new.self.cells ≡ put c.args.arena.now.cells c.expect-slot.result.0 (Some (new_cell c.body.result)) =
    subst (λ (r : Result Slot ArenaFault). IfOk r (λ s. c.take.new.self.cells ≡ put c.args.arena.now.cells s.0 (Some (new_cell c.body.result))))
    c.expect-slot.ensures c.take.ensures.cells in
    no_roots_same c.take.new.self c.chain_push.new.self (no_roots_taken c.args.arena.now c.take.new.self c.expect-slot.result.0 c.body.result
    c.requires cells) (ap (λ (v : ArenaState). v.cells) c.chain_push.ensures.after)
