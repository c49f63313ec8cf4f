use Rattle.std.proofs.Common.{sym, subst}
use Rattle.rx_term.specs.Walks.{HaveTrees}
use Rattle.rx_term.specs.Steps.{Grows}
use Rattle.rx_shared.specs.State.{store_of}
use Rattle.rx_shared.specs.declared.bank.SharedBank.{SharedBank}
use Rattle.psilt_core.specs.Banks as banks
use Rattle.psilt_core.specs.Banks.{BankState}
use Rattle.psilt_core.proofs.BankLemmas.{still_fits}
use Rattle.psilt_core.proofs.bank.Bank.fill.Goals as goal

pub invariant_of-self : goal.invariant_of-self
invariant_of-self c = still_fits (store_of c.self.inside.shared.shared) (store_of c.make.new.bank.shared) c.self.inside.prepared c.self.inside.symbols.keys
    (subst (λ (b : SharedBank). Grows (store_of b) (store_of c.make.new.bank.shared)) c.allow.ensures.shared c.make.ensures.grows) c.self.invariant

pub returns-clause-kind : goal.returns-clause-kind
returns-clause-kind c = λ bs h at. c.make.ensures.kind bs (subst (λ (b : SharedBank). HaveTrees (store_of b) c.args.args.now bs) (sym c.allow.ensures.shared)
    (subst (λ (b : BankState). HaveTrees (banks.store_of b) c.args.args.now bs) (sym c.self.view_is) h)) at
