-- What a call inside a tracer leaves of the engine.
use Rattle.std.specs.Prelude.{Result, []}
use Rattle.rx_term.specs.Store.{Store}
use Rattle.rx_term.specs.Steps.{Keeps}
use Rattle.rx_term.specs.declared.Term.{Term as Reference}
use Rattle.rec_engine.specs.Engine.{EngineState, SameEngine}
use Rattle.rec_engine.specs.declared.engine.errors.EngineFault.{EngineFault}
use Rattle.rec_trace.specs.Faults.{RoomOnlyIfFull}
use Rattle.rec_trace.specs.Lists.{Stays}

-- Uses s old new r: the engine stays the same, and `Room` implies that it is full
pub record Uses {B A : Type 0} (s : B → Store) (old new : EngineState B) (r : Result A EngineFault)
    : Type 0 where
  pub same : SameEngine old new
  pub room : RoomOnlyIfFull (s new.bank) new.memo r

-- Builds s old new r: the engine is used, and all terms stay
pub record Builds {B A : Type 0} (s : B → Store) (old new : EngineState B)
    (r : Result A EngineFault) : Type 0 where
  pub same : SameEngine old new
  pub keeps : Keeps (s old.bank) (s new.bank) []
  pub room : RoomOnlyIfFull (s new.bank) new.memo r

-- Relists s old new a b r: the engine is used, and the list `b` is kept in the place of `a`
pub record Relists {B A : Type 0} (s : B → Store) (old new : EngineState B) (a b : Reference)
    (r : Result A EngineFault) : Type 0 where
  pub same : SameEngine old new
  pub stays : Stays (s old.bank) (s new.bank) a b
  pub room : RoomOnlyIfFull (s new.bank) new.memo r
