-- The hints of a store on the cells that were made over each slot.
use Rattle.std.specs.Prelude.{◌≡◌, ℕ, ◌<◌, List, get_or, Some}
use Rattle.rx_arena.specs.declared.CellBody.{CellBody}
use Rattle.rx_arena.specs.Put.{times}
use Rattle.rx_arena.specs.Arena.{Taken, ArenaState, taken_at}
use Rattle.rx_sweep.specs.Reach.{names}

-- entry xs s: the entry of a slot; 0 means that no taken cell names the slot, and an entry that
-- does not exist means nothing
abbrev pub entry : List ℕ → ℕ → ℕ
entry xs s = get_or xs s 4294967295

-- CoversSlots xs ss: each of these slots has an entry other than 0
abbrev pub CoversSlots : List ℕ → List ℕ → Type 0
CoversSlots xs ss = (s : ℕ) → 0 < times s ss → 0 < entry xs s

-- Covers xs b: each slot that the body names has an entry other than 0
abbrev pub Covers : List ℕ → CellBody → Type 0
Covers xs b = CoversSlots xs (names b)

-- CoversTaken xs a: each slot that a taken cell names has an entry other than 0
abbrev pub CoversTaken : List ℕ → ArenaState → Type 0
CoversTaken xs a = (s : ℕ) (t : Taken) → taken_at a s ≡ Some t → Covers xs t.body

-- Stays old new: each entry other than 0 is still not 0
abbrev pub Stays : List ℕ → List ℕ → Type 0
Stays old new = (s : ℕ) → 0 < entry old s → 0 < entry new s
