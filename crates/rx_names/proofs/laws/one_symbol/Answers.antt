use Rattle.rx_names.proofs.NameLemmas.{table}
use Rattle.rx_names.proofs.laws.one_symbol.Goals as goal

pub returns : goal.returns
returns c = (table c.args.names.now).apart
