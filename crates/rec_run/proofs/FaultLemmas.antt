-- What faults tell of cells, from one step of a run to the next.
use Rattle.std.proofs.Common.{◌≡◌, List, [], inl, inr}
use Rattle.rx_term.specs.Store.{Store}
use Rattle.rx_term.specs.declared.Term.{Term}
use Rattle.rec_memo.specs.Pairs.{Pairs}
use Rattle.rx_run.specs.Run.{RoomFills, StopsReading}
use Rattle.rx_run.specs.declared.ending.RunFault.{RunFault}
use Rattle.rx_run.specs.declared.ending.RunFault.TheVariants.{Memory, Room, Deep, Read, Write}
use Rattle.rec_run.specs.EvaluatedLines.{RunLacks}
use Rattle.rec_run.specs.Run.{HasRoom, RoomExhausts, RoomIn}

-- of an engine
pub lacks_exhausts : (w : Store) (work : List Term) (m : Pairs) (f : RunFault) → RunLacks w work m f → RoomExhausts w work f
lacks_exhausts w work m (Memory lines) h = tt
lacks_exhausts w work m (Room lines) h = record { exhausted = h.exhausted; held = h.held }
lacks_exhausts w work m (Deep lines) h = tt
lacks_exhausts w work m Read h = tt
lacks_exhausts w work m Write h = tt

-- of a run over a bank
pub exhausts_in : (old new : Store) (needed : List Term) (f : RunFault) → RoomExhausts new needed f → RoomIn old new needed f
exhausts_in old new needed (Memory lines) h = tt
exhausts_in old new needed (Room lines) h = inr h
exhausts_in old new needed (Deep lines) h = tt
exhausts_in old new needed Read h = tt
exhausts_in old new needed Write h = tt

pub fills_in : (old new : Store) (needed : List Term) (f : RunFault) → RoomFills old new f → needed ≡ [] → RoomIn old new needed f
fills_in old new needed (Memory lines) h none = tt
fills_in old new needed (Room lines) h none = inl (h, none)
fills_in old new needed (Deep lines) h none = tt
fills_in old new needed Read h none = tt
fills_in old new needed Write h none = tt

-- a reader's fault is none
pub reading_has_room : (f : RunFault) → StopsReading f → HasRoom f
reading_has_room (Memory lines) h = tt
reading_has_room (Room lines) h = h
reading_has_room (Deep lines) h = h
reading_has_room Read h = tt
reading_has_room Write h = tt

pub has_room_exhausts : (w : Store) (needed : List Term) (f : RunFault) → HasRoom f → RoomExhausts w needed f
has_room_exhausts w needed (Memory lines) h = tt
has_room_exhausts w needed (Room lines) h = absurd h
has_room_exhausts w needed (Deep lines) h = tt
has_room_exhausts w needed Read h = tt
has_room_exhausts w needed Write h = tt

pub memory_has_room : (f : RunFault) → f ≡ Memory 0 → HasRoom f
memory_has_room (Memory lines) e = tt
memory_has_room (Room lines) e = absurd (cc e)
memory_has_room (Deep lines) e = absurd (cc e)
memory_has_room Read e = tt
memory_has_room Write e = tt
