use Rattle.std.proofs.Common.{subst}
use Rattle.rx_term.specs.Name.{Signature}
use Rattle.rx_shared.specs.State.{store_of}
use Rattle.rx_shared.specs.declared.bank.SharedBank.{SharedBank}
use Rattle.psilt_core.specs.Names.{NamesOrRefuses}
use Rattle.psilt_core.proofs.BankLemmas.{fits_named}
use Rattle.psilt_core.proofs.bank.Bank.symbol.Goals as goal

pub invariant_of-self : goal.invariant_of-self
invariant_of-self c =
    let g : Signature = record { name = c.args.name.now; quoted = c.args.quoted; arity = c.args.arity } in
    fits_named c.allow.new.self.most (store_of c.self.inside.shared.shared) (store_of c.intern.new.self.shared) c.self.inside.prepared
    c.self.inside.symbols.keys g c.intern.result
    (subst (λ (b : SharedBank). NamesOrRefuses c.allow.new.self.most (store_of b) (store_of c.intern.new.self.shared) g c.intern.result)
    c.allow.ensures.shared c.intern.ensures.answer) c.self.invariant
