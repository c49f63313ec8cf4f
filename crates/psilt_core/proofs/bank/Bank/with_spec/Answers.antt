use Rattle.std.proofs.Common.{ap, sym, subst, ◌∙◌}
use Rattle.rx_shared.specs.State.{store_of}
use Rattle.rx_shared.specs.declared.bank.SharedBank.{SharedBank}
use Rattle.rec_sorts.specs.Linked.{HasMoreSymbols}
use Rattle.psilt_core.specs.Banks as banks
use Rattle.psilt_core.specs.Banks.{BankState}
use Rattle.psilt_core.specs.Names.{names_of}
use Rattle.psilt_core.proofs.BankLemmas.{fits_more}
use Rattle.psilt_core.proofs.NameLemmas.{limit_told}
use Rattle.psilt_core.proofs.bank.Bank.with_spec.Goals as goal

pub renew-requires-clause-fits : goal.renew-requires-clause-fits
renew-requires-clause-fits c = (fits_more (store_of c.self.inside.shared.shared) (store_of c.in-Ok.engine.bank.shared) c.self.inside.prepared c.self.inside.symbols.keys
    (subst (λ (b : SharedBank). HasMoreSymbols (store_of b) (store_of c.in-Ok.engine.bank.shared)) c.allow.ensures.shared c.in-Ok.ensures.store) c.self.invariant).0

pub renew-requires-clause-known : goal.renew-requires-clause-known
renew-requires-clause-known c = (fits_more (store_of c.self.inside.shared.shared) (store_of c.in-Ok.engine.bank.shared) c.self.inside.prepared c.self.inside.symbols.keys
    (subst (λ (b : SharedBank). HasMoreSymbols (store_of b) (store_of c.in-Ok.engine.bank.shared)) c.allow.ensures.shared c.in-Ok.ensures.store) c.self.invariant).1

pub restore-requires-clause-fits : goal.restore-requires-clause-fits
restore-requires-clause-fits c = (fits_more (store_of c.self.inside.shared.shared) (store_of c.in-Err.shared.shared) c.self.inside.prepared c.self.inside.symbols.keys
    (subst (λ (b : SharedBank). HasMoreSymbols (store_of b) (store_of c.in-Err.shared.shared)) c.allow.ensures.shared c.in-Err.ensures.refused) c.self.invariant).0

pub restore-requires-clause-known : goal.restore-requires-clause-known
restore-requires-clause-known c = (fits_more (store_of c.self.inside.shared.shared) (store_of c.in-Err.shared.shared) c.self.inside.prepared c.self.inside.symbols.keys
    (subst (λ (b : SharedBank). HasMoreSymbols (store_of b) (store_of c.in-Err.shared.shared)) c.allow.ensures.shared c.in-Err.ensures.refused) c.self.invariant).1

pub returns-in-Ok-clause-limit : goal.returns-in-Ok-clause-limit
returns-in-Ok-clause-limit c =
    limit_told c.renew.result.1 c.names-before.result c.self.inside.most_names c.args.self.most_names (banks.store_of c.args.self)
    (banks.store_of c.renew.result.0) (store_of c.in-Ok.engine.bank.shared)
    (c.names-before.ensures ∙ ap (λ (b : SharedBank). names_of (store_of b)) c.allow.ensures.shared
    ∙ ap (λ (b : BankState). names_of (banks.store_of b)) c.self.view_is)
    (ap (λ (b : BankState). b.most_names) c.self.view_is) (sym (ap (λ (b : SharedBank). store_of b) c.renew.ensures.bank)) c.renew.ensures.limit
