-- The view of a handle in contracts: its work, or none if it is closed.
use Rattle.std.specs.Prelude.{◌≡◌, ◌≢◌, ◌⊎◌, ℕ, ◌==◌, Option, Some, None, if◌then◌else◌}
use Rattle.rx_term.specs.Store.{Store}
use Rattle.rx_shared.specs.State.{IsEmptyStore}
use Rattle.psilt_core.specs.Banks.{store_of}
use Rattle.psilt_core.specs.Codes.{fault_at}
use Rattle.psilt_core.specs.Works.{IsSameButBank, IsFresh, IsOpeningFault}
use Rattle.psilt_core.specs.declared.work.Work.{Work}
use Rattle.psilt_core.specs.declared.handle.Psilt.{Psilt}

-- work_of p: the work of an open handle
abbrev pub work_of : Psilt → Option Work
work_of p = if p.state == 1 then p.held.value else None

-- Does v w code P: there is no work and the code is 3, or the call relates the works by P
abbrev pub Does : Option Work → Option Work → ℕ → (Work → Work → Type 0) → Type 0
Does None None code P = code ≡ 3
Does (Some v) (Some w) code P = P v w
Does v w code P = ⊥

-- OnWork old new code P: the handle is closed and the code is 3, or the call relates its works by P
abbrev pub OnWork : Psilt → Psilt → ℕ → (Work → Work → Type 0) → Type 0
OnWork old new code P = Does (work_of old) (work_of new) code P

-- OnBank old new code P: the handle is closed and the code is 3, or the call relates its stores by
-- P and changes nothing except terms and memoized results
abbrev pub OnBank : Psilt → Psilt → ℕ → (Store → Store → Type 0) → Type 0
OnBank old new code P =
    OnWork old new code (λ v w. P (store_of v.bank) (store_of w.bank) × IsSameButBank v w)

-- InBank old new code P: the handle is closed and the code is 3, or P holds of its store and
-- nothing changes
abbrev pub InBank : Psilt → Psilt → ℕ → (Store → Type 0) → Type 0
InBank old new code P = OnWork old new code (λ v w. P (store_of v.bank) × (w ≡ v))

-- Joins v w code: both are open and the code is 0, or 1 for out of memory; or one is closed and the
-- code is 3
abbrev pub Joins : Option Work → Option Work → ℕ → Type 0
Joins (Some v) (Some w) code = (code ≡ 0) ⊎ (code ≡ 1)
Joins v w code = code ≡ 3

-- Begins v new cap code: open handles get code 11 and do not change; others get fresh work over an
-- empty store of `cap` cells and code 0, or an error code
abbrev pub Begins : Option Work → Option Work → ℕ → ℕ → Type 0
Begins (Some w) new cap code = (code ≡ 11) × (new ≡ Some w)
Begins None (Some w) cap code = (code ≡ 0) × IsEmptyStore (store_of w.bank) cap × IsFresh w
Begins None None cap code = (code ≢ 0) × IsOpeningFault cap (fault_at code)

-- Opens old new cap code: a closed handle is opened, or the code is that of an error
abbrev pub Opens : Psilt → Psilt → ℕ → ℕ → Type 0
Opens old new cap code = Begins (work_of old) (work_of new) cap code

-- Ends v new code: the work is dropped and the code is 0, or there was none and the code is 3
abbrev pub Ends : Option Work → Option Work → ℕ → Type 0
Ends (Some w) None code = code ≡ 0
Ends None None code = code ≡ 3
Ends old new code = ⊥

-- Closes old new code: an open handle is closed; for a closed one the code is 3
abbrev pub Closes : Psilt → Psilt → ℕ → Type 0
Closes old new code = Ends (work_of old) (work_of new) code
