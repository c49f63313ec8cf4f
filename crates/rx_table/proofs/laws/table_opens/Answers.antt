use Rattle.rx_table.proofs.ShortLemmas.{table-valid}
use Rattle.rx_table.proofs.TableLemmas.{table-opens}
use Rattle.rx_table.proofs.laws.table_opens.Goals as goal

pub returns-clause-opens : goal.returns-clause-opens
returns-clause-opens c = table-opens

pub returns-clause-tree : goal.returns-clause-tree
returns-clause-tree c = table-valid
