-- What faults tell, from one step of a run to the next.
use Rattle.std.proofs.Common.{◌≡◌, ◌≢◌, Bool, true, false, [], refl, inl, inr}
use Rattle.rx_term.specs.Steps.{Grows}
use Rattle.rx_term.specs.Store.{Store}
use Rattle.rx_term.proofs.StoreLemmas.{Grows-trans}
use Rattle.rx_run.specs.Run.{IsNotDeep, RanOut, Reports, ReportsBy, RoomFills, RoomFillsOne, StopsAtOnce, StopsReading, StopsUnwritten, StopsWriting}
use Rattle.rx_run.specs.declared.ending.RunFault.{RunFault}
use Rattle.rx_run.specs.declared.ending.RunFault.TheVariants.{Memory, Room, Deep, Read, Write}

-- ---- before anything was written

-- memory or cells ran out
pub unwritten : (old new : Store) (f : RunFault) → RanOut old new f → StopsUnwritten old new f
unwritten old new (Memory lines) h = h
unwritten old new (Room lines) h = h
unwritten old new (Deep lines) h = absurd h
unwritten old new Read h = absurd h
unwritten old new Write h = absurd h

pub at_once : (old new : Store) (f : RunFault) → RanOut old new f → StopsAtOnce f
at_once old new (Memory lines) h = h
at_once old new (Room lines) h = h.0
at_once old new (Deep lines) h = absurd h
at_once old new Read h = absurd h
at_once old new Write h = absurd h

-- memory ran out while a text was read, or the reader refused
pub unwritten_reading : (old new : Store) (f : RunFault) → StopsReading f → StopsUnwritten old new f
unwritten_reading old new (Memory lines) h = h
unwritten_reading old new (Room lines) h = absurd h
unwritten_reading old new (Deep lines) h = absurd h
unwritten_reading old new Read h = tt
unwritten_reading old new Write h = absurd h

pub reports_unwritten : (old new : Store) (f : RunFault) → StopsUnwritten old new f → Reports f []
reports_unwritten old new (Memory lines) h = h
reports_unwritten old new (Room lines) h = h.0
reports_unwritten old new (Deep lines) h = absurd h
reports_unwritten old new Read h = refl
reports_unwritten old new Write h = absurd h

-- where lines are counted or are not
pub reports_unwritten_by : (counted : Bool) (old new : Store) (f : RunFault) → StopsUnwritten old new f → ReportsBy counted f []
reports_unwritten_by true old new f h = reports_unwritten old new f h
reports_unwritten_by false old new (Memory lines) h = h
reports_unwritten_by false old new (Room lines) h = (h.0, refl)
reports_unwritten_by false old new (Deep lines) h = absurd h
reports_unwritten_by false old new Read h = refl
reports_unwritten_by false old new Write h = absurd h

-- memory ran out before anything was written
pub reports_memory : (counted : Bool) (f : RunFault) → f ≡ Memory 0 → ReportsBy counted f []
reports_memory true f e = rw e refl
reports_memory false f e = rw e refl

pub reports_ran_out : (old new : Store) (f : RunFault) → RanOut old new f → Reports f []
reports_ran_out old new f h = reports_unwritten old new f (unwritten old new f h)

pub reports_at_once : (f : RunFault) → StopsAtOnce f → Reports f []
reports_at_once (Memory lines) h = h
reports_at_once (Room lines) h = h
reports_at_once (Deep lines) h = absurd h
reports_at_once Read h = absurd h
reports_at_once Write h = absurd h

pub reports_reading : (f : RunFault) → StopsReading f → Reports f []
reports_reading (Memory lines) h = h
reports_reading (Room lines) h = absurd h
reports_reading (Deep lines) h = absurd h
reports_reading Read h = refl
reports_reading Write h = absurd h

-- no call was too deep
pub not_deep_unwritten : (old new : Store) (f : RunFault) → StopsUnwritten old new f → IsNotDeep f
not_deep_unwritten old new (Memory lines) h = tt
not_deep_unwritten old new (Room lines) h = tt
not_deep_unwritten old new (Deep lines) h = h
not_deep_unwritten old new Read h = tt
not_deep_unwritten old new Write h = tt

pub not_deep_ran_out : (old new : Store) (f : RunFault) → RanOut old new f → IsNotDeep f
not_deep_ran_out old new f h = not_deep_unwritten old new f (unwritten old new f h)

pub not_deep_at_once : (f : RunFault) → StopsAtOnce f → IsNotDeep f
not_deep_at_once (Memory lines) h = tt
not_deep_at_once (Room lines) h = tt
not_deep_at_once (Deep lines) h = h
not_deep_at_once Read h = tt
not_deep_at_once Write h = tt

-- where a text was read into the bank before
pub ran_out_later : (old mid new : Store) (f : RunFault) → Grows old mid → RanOut mid new f → RanOut old new f
ran_out_later old mid new (Memory lines) grows h = h
ran_out_later old mid new (Room lines) grows h = (h.0, record { full = h.1.full; grows = Grows-trans grows h.1.grows })
ran_out_later old mid new (Deep lines) grows h = absurd h
ran_out_later old mid new Read grows h = absurd h
ran_out_later old mid new Write grows h = absurd h

pub unwritten_later : (old mid new : Store) (f : RunFault) → Grows old mid → RanOut mid new f → StopsUnwritten old new f
unwritten_later old mid new f grows h = unwritten old new f (ran_out_later old mid new f grows h)

-- ---- want of cells

-- a text filled the bank
pub room_unwritten : (old new : Store) (f : RunFault) → StopsUnwritten old new f → RoomFills old new f
room_unwritten old new (Memory lines) h = tt
room_unwritten old new (Room lines) h = h.1
room_unwritten old new (Deep lines) h = absurd h
room_unwritten old new Read h = tt
room_unwritten old new Write h = tt

pub room_ran_out : (old new : Store) (f : RunFault) → RanOut old new f → RoomFills old new f
room_ran_out old new f h = room_unwritten old new f (unwritten old new f h)

-- while lines are written of trees that are there cells are not asked for
pub room_writing : (old new : Store) (f : RunFault) → StopsWriting f → RoomFills old new f
room_writing old new (Memory lines) h = tt
room_writing old new (Room lines) h = absurd h
room_writing old new (Deep lines) h = absurd h
room_writing old new Read h = tt
room_writing old new Write h = tt

pub not_deep_writing : (f : RunFault) → StopsWriting f → IsNotDeep f
not_deep_writing (Memory lines) h = tt
not_deep_writing (Room lines) h = tt
not_deep_writing (Deep lines) h = h
not_deep_writing Read h = tt
not_deep_writing Write h = tt

-- nor is a reader
pub no_reader_writing : (f : RunFault) → StopsWriting f → f ≢ Read
no_reader_writing (Memory lines) h e = cc e
no_reader_writing (Room lines) h e = absurd h
no_reader_writing (Deep lines) h e = absurd h
no_reader_writing Read h e = absurd h
no_reader_writing Write h e = cc e

-- one of two banks was filled
pub fills_first : (old new old' new' : Store) (f : RunFault) → RoomFills old new f → RoomFillsOne old new old' new' f
fills_first old new old' new' (Memory lines) h = tt
fills_first old new old' new' (Room lines) h = inl h
fills_first old new old' new' (Deep lines) h = tt
fills_first old new old' new' Read h = tt
fills_first old new old' new' Write h = tt

pub fills_second : (old new old' new' : Store) (f : RunFault) → RoomFills old' new' f → RoomFillsOne old new old' new' f
fills_second old new old' new' (Memory lines) h = tt
fills_second old new old' new' (Room lines) h = inr h
fills_second old new old' new' (Deep lines) h = tt
fills_second old new old' new' Read h = tt
fills_second old new old' new' Write h = tt
