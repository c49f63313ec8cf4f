-- The contents of a term's slot.
use Rattle.std.specs.Prelude.{◌≡◌, ℕ, Some}
use Rattle.rx_arena.specs.declared.CellBody.{CellBody}
use Rattle.rx_arena.specs.Arena.{ArenaState}
use Rattle.rx_arena.specs.declared.Face.{Face}
use Rattle.rx_shared.specs.Bodies.{cell_of, whole, IsWritten}
use Rattle.rx_shared.specs.Tidy.{heap_of}

-- HoldsWritten a s P: the slot has the cell of a well-formed body for which `P` holds
abbrev pub HoldsWritten : ArenaState → ℕ → (CellBody → Type 0) → Type 0
HoldsWritten a s P = (b : CellBody) × (heap_of a s ≡ Some (cell_of b)) × IsWritten b × P b

-- HoldsFace a s f: the slot has the cell of the well-formed body with these contents
pub record HoldsFace (a : ArenaState) (s : ℕ) (f : Face) : Type 0 where
  pub holds : heap_of a s ≡ Some (cell_of (whole f))
  pub written : IsWritten (whole f)
