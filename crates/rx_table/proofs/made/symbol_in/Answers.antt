use Rattle.rx_table.proofs.MadeLemmas.{allowed-name}
use Rattle.rx_table.proofs.made.symbol_in.Goals as goal

pub symbol-requires : goal.symbol-requires
symbol-requires g c =
    allowed-name (g.B.TermBank.store c.args.from.now) (g.met.B.TermBank.sound c.args.from.now) c.args.symbol c.requires c.name_of-name.result.now
    c.quoted_of.result c.name_of-name.ensures c.quoted_of.ensures
