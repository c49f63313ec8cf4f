-- The limits of an evaluation, and when each error may be returned.
use Rattle.std.specs.Prelude.{ℕ, ◌≡◌, ◌≤◌, ◌^◌, ◌-◌, List, Option, Some, None, Result, Ok, Err}
use Rattle.rx_term.specs.Store.{Store}
use Rattle.rx_term.specs.declared.Term.{Term}
use Rattle.rec_memo.specs.Pairs.{Pairs}
use Rattle.rec_engine.specs.Cells.{HasNoRoom}
use Rattle.rec_engine.specs.declared.engine.errors.EngineFault.{EngineFault}
use Rattle.rec_engine.specs.declared.engine.errors.EngineFault.TheVariants.{Memory, Room, Deep}

-- most_pending depth: the greatest number of pending calls; without a depth limit, the greatest
-- machine word
abbrev pub most_pending : Option ℕ → ℕ
most_pending (Some depth) = depth
most_pending None = 2 ^ 64 - 1

-- KeepsLimit depth most waiting: the bound is that of the depth limit, and no more calls are
-- pending
pub record KeepsLimit (depth : Option ℕ) (most waiting : ℕ) : Type 0 where
  pub bound : most ≡ most_pending depth
  pub within : waiting ≤ most

-- limited depth r: if there is no outcome, the depth limit was reached; without one this is out of
-- memory
abbrev pub limited : {A : Type 0} → Option ℕ → Result (Option A) EngineFault → Result A EngineFault
limited depth (Ok (Some a)) = Ok a
limited (Some depth) (Ok None) = Err Deep
limited None (Ok None) = Err Memory
limited depth (Err f) = Err f

-- RoomOrDeepOnly: `Room` is returned only if the store is full of needed terms, and `Deep` only if
-- the number of pending calls equals a given depth limit
abbrev pub RoomOrDeepOnly : {A : Type 0} → Store → List Term → Pairs → Option ℕ → ℕ
    → Result A EngineFault → Type 0
RoomOrDeepOnly w work m depth waiting (Ok a) = Unit {0}
RoomOrDeepOnly w work m depth waiting (Err Memory) = Unit {0}
RoomOrDeepOnly w work m depth waiting (Err Room) = HasNoRoom w work m
RoomOrDeepOnly w work m depth waiting (Err Deep) = depth ≡ Some waiting
