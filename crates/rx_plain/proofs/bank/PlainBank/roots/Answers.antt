use Rattle.std.proofs.Common.{sym}
use Rattle.rx_plain.proofs.ReadingLemmas.{held-within, held-index}
use Rattle.rx_plain.proofs.CountingLemmas.{read-roots}
use Rattle.rx_plain.proofs.bank.PlainBank.roots.Goals as goal

pub index-requires : goal.index-requires
index-requires c = held-index c.args.self.now c.args.t c.requires

pub returns : goal.returns
returns c =
    let b = c.args.self.now in
    sym (read-roots b.slots.items c.args.t.0 c.index.result.now 0 (held-within b c.args.t c.requires) c.index.ensures)
