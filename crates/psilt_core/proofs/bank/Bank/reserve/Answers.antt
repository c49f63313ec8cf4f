use Rattle.rx_shared.specs.State.{store_of}
use Rattle.psilt_core.proofs.BankLemmas.{fits_reserved}
use Rattle.psilt_core.proofs.bank.Bank.reserve.Goals as goal

pub invariant_of-self : goal.invariant_of-self
invariant_of-self c = fits_reserved (store_of c.self.inside.shared.shared) (store_of c.reserve.new.self.shared) c.self.inside.prepared c.self.inside.symbols.keys
    c.args.k c.reserve.result c.reserve.ensures c.self.invariant
