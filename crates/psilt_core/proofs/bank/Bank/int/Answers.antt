use Rattle.rx_shared.specs.State.{store_of}
use Rattle.psilt_core.proofs.BankLemmas.{fits_made}
use Rattle.psilt_core.proofs.bank.Bank.int.Goals as goal

pub invariant_of-self : goal.invariant_of-self
invariant_of-self c = fits_made (store_of c.self.inside.shared.shared) (store_of c.int.new.self.shared) c.self.inside.prepared c.self.inside.symbols.keys _
    c.int.result c.int.ensures c.self.invariant
