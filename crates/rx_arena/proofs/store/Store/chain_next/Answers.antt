use Rattle.rx_arena.proofs.AgreesLemmas.{named_at}
use Rattle.rx_arena.proofs.store.Store.chain_next.Goals as goal

pub returns : goal.returns
returns _ c =
    named_at c.self.inside.cells.slots c.args.self.now c.args.slot c.place.result.slot c.chain_number.result c.other.result
    c.self.invariant.2 c.self.view_is c.place.ensures.0 c.chain_number.ensures c.other.ensures.end c.other.ensures.on
