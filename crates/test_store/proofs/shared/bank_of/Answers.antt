use Rattle.std.proofs.Common.{◌≡◌, sym, subst}
use Rattle.std.specs.Prelude.{Result, IfOk}
use Rattle.rx_term.specs.declared.faults.BankFault.{BankFault}
use Rattle.rx_term.specs.Bank.{IsEmptyStore}
use Rattle.rx_shared.specs.declared.bank.SharedBank.{SharedBank}
use Rattle.rx_shared.specs.State.{store_of}
use Rattle.test_store.proofs.shared.bank_of.Goals as goal

pub returns : goal.returns
returns g c =
    let empty : IsEmptyStore (store_of c.expect-bank.result) c.args.cap =
    subst (λ (r : Result SharedBank BankFault). IfOk r (λ b. IsEmptyStore (store_of b) c.args.cap)) c.expect-bank.ensures c.new.ensures.empty in
    let value : c.expect.result.value ≡ c.expect-bank.result = subst (λ r. IfOk r (λ b. b.value ≡ c.expect-bank.result)) c.expect.ensures c.new-2.ensures.ok in
    subst (λ (b : SharedBank). IsEmptyStore (store_of b) c.args.cap) (sym value) empty
