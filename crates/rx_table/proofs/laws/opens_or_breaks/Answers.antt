use Rattle.rx_table.proofs.TableLemmas.{breaks-no-tree, opens-no-rule}
use Rattle.rx_table.proofs.laws.opens_or_breaks.Goals as goal

pub returns : goal.returns
returns c = record { opens = opens-no-rule; breaks = breaks-no-tree }
