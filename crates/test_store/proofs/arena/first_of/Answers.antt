use Rattle.rx_arena.proofs.ArenaCallLemmas.{first_chained, first_taken}
use Rattle.test_store.proofs.arena.first_of.Goals as goal

pub returns-clause-chained : goal.returns-clause-chained
returns-clause-chained g c = first_chained c.args.arena.now c.args.chain c.chain_first.result c.chain_first.ensures.first

pub returns-clause-taken : goal.returns-clause-taken
returns-clause-taken g c = first_taken c.args.arena.now c.args.chain c.chain_first.result c.chain_first.ensures.law c.chain_first.ensures.first
