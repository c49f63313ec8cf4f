use Rattle.std.proofs.Common.{subst}
use Rattle.rx_term.specs.Steps.{Grows}
use Rattle.rx_shared.specs.State.{store_of}
use Rattle.rx_shared.specs.declared.bank.SharedBank.{SharedBank}
use Rattle.psilt_core.proofs.BankLemmas.{still_fits}
use Rattle.psilt_core.proofs.bank.Bank.open_nodes.Goals as goal

pub invariant_of-self : goal.invariant_of-self
invariant_of-self c = still_fits (store_of c.self.inside.shared.shared) (store_of c.open_nodes.new.bank.shared) c.self.inside.prepared c.self.inside.symbols.keys
    (subst (λ (b : SharedBank). Grows (store_of b) (store_of c.open_nodes.new.bank.shared)) c.allow.ensures.shared c.open_nodes.ensures.grows) c.self.invariant
