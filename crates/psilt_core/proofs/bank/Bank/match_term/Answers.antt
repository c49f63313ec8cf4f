use Rattle.rx_shared.specs.State.{store_of}
use Rattle.psilt_core.proofs.BankLemmas.{still_fits}
use Rattle.psilt_core.proofs.bank.Bank.match_term.Goals as goal

pub invariant_of-self : goal.invariant_of-self
invariant_of-self c = still_fits (store_of c.self.inside.shared.shared) (store_of c.matches.new.bank.shared) c.self.inside.prepared c.self.inside.symbols.keys
    c.matches.ensures.grows c.self.invariant
