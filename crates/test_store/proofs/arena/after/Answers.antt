use Rattle.rx_arena.proofs.ArenaCallLemmas.{next_chained}
use Rattle.test_store.proofs.arena.after.Goals as goal

pub returns : goal.returns
returns c = next_chained c.args.arena.now c.args.slot.0 c.chain_next.result c.requires c.chain_next.ensures.next
