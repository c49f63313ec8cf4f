use Rattle.rx_shared.specs.State.{store_of}
use Rattle.psilt_core.proofs.BankLemmas.{fits_counted}
use Rattle.psilt_core.proofs.bank.Bank.unprotect.Goals as goal

pub invariant_of-self : goal.invariant_of-self
invariant_of-self c = fits_counted (store_of c.self.inside.shared.shared) (store_of c.unprotect.new.self.shared) c.self.inside.prepared c.self.inside.symbols.keys
    c.args.t _ c.unprotect.ensures c.self.invariant
