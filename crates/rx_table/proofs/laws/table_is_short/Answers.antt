use Rattle.rx_table.proofs.ShortLemmas.{shared-distinct, shared-few, shared-used}
use Rattle.rx_table.proofs.laws.table_is_short.Goals as goal

pub returns : goal.returns
returns c = record { distinct = shared-distinct; used = shared-used; few = shared-few }
