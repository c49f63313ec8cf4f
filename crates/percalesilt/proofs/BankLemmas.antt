-- What is so in the bank of an open handle.
use Rattle.std.proofs.Common.{◌≡◌, ℕ, Some, refl}
use Rattle.rx_term.specs.Store.{Store}
use Rattle.psilt_core.specs.Banks.{store_of}
use Rattle.psilt_core.specs.Handles.{work_of, InBank}
use Rattle.psilt_core.specs.declared.work.Work.{Work}
use Rattle.psilt_core.specs.declared.handle.Psilt.{Psilt}

pub in_bank : (old new : Psilt) (code : ℕ) (v : Work) (P : Store → Type 0) → work_of old ≡ Some v → work_of new ≡ Some v → P (store_of v.bank)
    → InBank old new code P
in_bank old new code v P e f p = rw (e, f) (p, refl)
