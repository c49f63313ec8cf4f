use Rattle.std.proofs.Common.{sym, subst}
use Rattle.rx_arena.specs.Arena.{IsTaken}
use Rattle.rx_sweep.proofs.ReadyLemmas.{named_in}
use Rattle.test_store.proofs.sweep.node.Goals as goal

pub link_slot-requires-clause-parts : goal.link_slot-requires-clause-parts
link_slot-requires-clause-parts g c =
    let is_taken = IsTaken c.args.arena.now in
    named_in (record { kind = c.args.parts.kind; a = c.from.result; b = c.from-2.result; anns = c.args.parts.anns; hash = c.from-3.result }) is_taken
    (subst is_taken (sym c.from.ensures) c.expect_taken.ensures) (subst is_taken (sym c.from-2.ensures) c.expect_taken-2.ensures) c.expect_anns_taken.ensures
