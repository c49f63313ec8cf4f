-- Ownership of a handle: relates its pointer to its work.
use Rattle.std.specs.Prelude.{Option, Some, None}
use base.Fml.{Fml, ftrue}
use denote.RawPtr.{Ptr}
use Rattle.std.specs.Box.Ownership.{box_owns}
use Rattle.std.specs.contracts.impls.GlobalAllocator.TheImpl.{ghosts}
use Rattle.psilt_core.specs.declared.work.Work.{Work}
use Rattle.psilt_core.specs.contracts.work.Work.{the_row}

-- boxed_if p w: the pointer owns the box of the work, or there is no work and it owns nothing
abbrev pub boxed_if : Ptr → Option Work → Fml
boxed_if p None = ftrue
boxed_if p (Some w) =
    box_owns (ghosts.dealloc_token (record { memory = record { seal = tt } })) the_row p w
