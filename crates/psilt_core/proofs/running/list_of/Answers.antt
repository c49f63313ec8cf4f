use Rattle.rx_term.proofs.KeepLemmas.{beside-trans}
use Rattle.psilt_core.specs.Banks.{store_of}
use Rattle.psilt_core.proofs.EvaluatingLemmas.{beside_made}
use Rattle.psilt_core.proofs.running.list_of.Goals as goal

pub returns-clause-beside : goal.returns-clause-beside
returns-clause-beside c =
    beside-trans (beside_made _ (store_of c.nil.new.self) _ c.nil.result c.nil.ensures.made)
    (beside_made _ (store_of c.cons.new.self) _ c.cons.result c.cons.ensures.made)
