use Rattle.rx_shared.specs.State.{store_of}
use Rattle.psilt_core.proofs.BankLemmas.{fits_protected}
use Rattle.psilt_core.proofs.bank.Bank.protect.Goals as goal

pub invariant_of-self : goal.invariant_of-self
invariant_of-self c = fits_protected (store_of c.self.inside.shared.shared) (store_of c.protect.new.self.shared) c.self.inside.prepared c.self.inside.symbols.keys
    c.args.t c.protect.result c.protect.ensures c.self.invariant
