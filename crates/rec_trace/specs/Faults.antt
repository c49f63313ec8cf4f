-- When a tracer returns the engine's errors.
use Rattle.std.specs.Prelude.{◌≡◌, Result, Ok, Err}
use Rattle.std.specs.FinMap as map
use Rattle.rx_term.specs.Store.{Store, cells}
use Rattle.rec_memo.specs.Pairs.{Pairs}
use Rattle.rec_engine.specs.declared.engine.errors.EngineFault.{EngineFault}
use Rattle.rec_engine.specs.declared.engine.errors.EngineFault.TheVariants.{Memory, Room, Deep}

-- RoomOnlyIfFull w m r: `Room` implies that the store is full and no result is memoized; `Deep` is
-- never returned
abbrev pub RoomOnlyIfFull : {A : Type 0} → Store → Pairs → Result A EngineFault → Type 0
RoomOnlyIfFull w m (Ok a) = Unit {0}
RoomOnlyIfFull w m (Err Memory) = Unit {0}
RoomOnlyIfFull w m (Err Room) = (cells w ≡ w.cap) × (m.map ≡ map.empty)
RoomOnlyIfFull w m (Err Deep) = ⊥
