use Rattle.std.proofs.Common.{sym, subst}
use Rattle.rx_shared.specs.State.{store_of}
use Rattle.rec_engine.specs.Prepared.{FitsIn}
use Rattle.psilt_core.specs.declared.limited.LimitedBank.{LimitedBank}
use Rattle.psilt_core.specs.Banks.{AreSymbols}
use Rattle.psilt_core.proofs.bank.Bank.of.Goals as goal

pub invariant_of-result : goal.invariant_of-result
invariant_of-result c =
    subst (λ (s : LimitedBank). FitsIn (store_of s.shared) c.apart-shared.result.1 × AreSymbols (store_of s.shared) c.args.symbols.keys)
    (sym c.apart-shared.ensures.bank) (c.apart-shared.ensures.fits, c.requires)
