-- How a run relates to its specified result: completed, rejected, or cut short by an error.
use Rattle.std.specs.Prelude.{◌≡◌, ◌+◌, ◌⊎◌, ℕ, Bool, true, false, List, [], Option, Some, IfSome}
use Rattle.std.specs.Prelude.{drop}
use Rattle.std.specs.Io.KnownBytes.{Appends}
use Rattle.rx_term.specs.Steps.{Grows}
use Rattle.rx_term.specs.Store.{Store, cells}
use Rattle.rx_text.specs.Written.{IsFront}
use Rattle.rx_text.specs.declared.faults.WriteFault.{WriteFault}
use Rattle.rx_text.specs.declared.faults.WriteFault.TheVariants as unwritten
use Rattle.rx_run.specs.Bytes.{newlines}
use Rattle.rx_run.specs.Due.{Due, done}
use Rattle.rx_run.specs.Refusals.{refusal_due}
use Rattle.rx_run.specs.declared.ending.Finish.{Finish}
use Rattle.rx_run.specs.declared.ending.Place.{Place}
use Rattle.rx_run.specs.declared.ending.RunFault.{RunFault}
use Rattle.rx_run.specs.declared.ending.RunFault.TheVariants.{Memory, Room, Deep, Read, Write}
use Rattle.rx_run.specs.declared.refusal.Ending.{Ending}
use Rattle.rx_run.specs.declared.refusal.Ending.TheVariants as ending

-- IsEnding d ending: the end that `d` specifies: done, or rejected with this error
abbrev pub IsEnding : Due → Ending → Type 0
IsEnding d ending.Done = d ≡ done d.text
IsEnding d (ending.Refused r) = d ≡ refusal_due r

-- Concludes: the run has the specified end, and has written the specified text after the old
-- contents
pub record Concludes (IsDue : Due → Type 0) (ending : Ending) (old new : Option (List ℕ)) : Type 0
  where
    pub due : Due
    pub is_due : IsDue due
    pub ends : IsEnding due ending
    pub written : Appends old new due.text

-- Ends: like `Concludes`, for callers that learn only whether an input was rejected
pub record Ends (IsDue : Due → Type 0) (finish : Finish) (old new : Option (List ℕ)) : Type 0 where
  pub due : Due
  pub is_due : IsDue due
  pub ends : due.finish ≡ finish
  pub written : Appends old new due.text

-- IsPlaced IsDue place: `place` is the specified location of the error, or `None` if none is
-- specified
pub record IsPlaced (IsDue : Due → Type 0) (place : Option Place) : Type 0 where
  pub due : Due
  pub is_due : IsDue due
  pub placed : due.place ≡ place

-- CountsLines counted lines written: `lines` is the number of line ends written, or 0 if lines are
-- not counted
abbrev pub CountsLines : Bool → ℕ → List ℕ → Type 0
CountsLines true lines written = lines ≡ newlines written
CountsLines false lines written = lines ≡ 0

-- CountsFirst counted lines written: `lines` is the number of line ends written; if lines are not
-- counted, it is 0 and nothing was written
abbrev pub CountsFirst : Bool → ℕ → List ℕ → Type 0
CountsFirst true lines written = lines ≡ newlines written
CountsFirst false lines written = (lines ≡ 0) × (written ≡ [])

-- ReportsBy counted fault written: the line count of an error fits the written bytes; after a read
-- error nothing was written; a write error states nothing
abbrev pub ReportsBy : Bool → RunFault → List ℕ → Type 0
ReportsBy counted (Memory lines) written = CountsLines counted lines written
ReportsBy counted (Room lines) written = CountsFirst counted lines written
ReportsBy counted (Deep lines) written = CountsFirst counted lines written
ReportsBy counted Read written = written ≡ []
ReportsBy counted Write written = Unit {0}

-- Reports fault written: the line count of an error is the number of line ends written
abbrev pub Reports : RunFault → List ℕ → Type 0
Reports fault written = ReportsBy true fault written

-- StopsBy counted fault text old new: a prefix of `text` was written, and the error counts its
-- lines as `ReportsBy` states
pub record StopsBy (counted : Bool) (fault : RunFault) (text : List ℕ) (old new : Option (List ℕ))
    : Type 0 where
  pub written : List ℕ
  pub appended : Appends old new written
  pub front : IsFront written text
  pub reported : ReportsBy counted fault written

-- Stops fault text old new: a prefix of `text` was written, and the error counts its complete lines
abbrev pub Stops : RunFault → List ℕ → Option (List ℕ) → Option (List ℕ) → Type 0
Stops fault text old new = StopsBy true fault text old new

-- ReportsAfter first fault written: the line count includes `first` earlier lines; a read error
-- cannot occur
abbrev pub ReportsAfter : ℕ → RunFault → List ℕ → Type 0
ReportsAfter first (Memory lines) written = lines ≡ first + newlines written
ReportsAfter first (Room lines) written = lines ≡ first + newlines written
ReportsAfter first (Deep lines) written = lines ≡ first + newlines written
ReportsAfter first Read written = ⊥
ReportsAfter first Write written = Unit {0}

-- StopsAfter first: like `Stops`, if `first` lines were written earlier
pub record StopsAfter (first : ℕ) (fault : RunFault) (text : List ℕ) (old new : Option (List ℕ))
    : Type 0 where
  pub written : List ℕ
  pub appended : Appends old new written
  pub front : IsFront written text
  pub reported : ReportsAfter first fault written

-- BreaksBy counted IsDue fault old new: a prefix of every specified text was written, and the error
-- counts its lines as `ReportsBy` states
abbrev pub BreaksBy : Bool → (Due → Type 0) → RunFault → Option (List ℕ) → Option (List ℕ)
    → Type 0
BreaksBy counted IsDue fault old new = (d : Due) → IsDue d → StopsBy counted fault d.text old new

-- Breaks IsDue fault old new: a prefix of every specified text was written, and the error counts
-- its complete lines
abbrev pub Breaks : (Due → Type 0) → RunFault → Option (List ℕ) → Option (List ℕ) → Type 0
Breaks IsDue fault old new = BreaksBy true IsDue fault old new

-- ConcludesFor: `Concludes` holds for the input texts, if the readers reveal them
abbrev pub ConcludesFor : {T : Type 0} → (T → Due → Type 0) → Option T → Ending
    → Option (List ℕ) → Option (List ℕ) → Type 0
ConcludesFor IsDue texts ending old new =
    IfSome texts (λ known. Concludes (IsDue known) ending old new)

-- EndsFor: `Ends` holds for the input texts, if the readers reveal them
abbrev pub EndsFor : {T : Type 0} → (T → Due → Type 0) → Option T → Finish → Option (List ℕ)
    → Option (List ℕ) → Type 0
EndsFor IsDue texts finish old new = IfSome texts (λ known. Ends (IsDue known) finish old new)

-- IsPlacedFor: `IsPlaced` holds for the input texts, if the readers reveal them
abbrev pub IsPlacedFor : {T : Type 0} → (T → Due → Type 0) → Option T → Option Place → Type 0
IsPlacedFor IsDue texts place = IfSome texts (λ known. IsPlaced (IsDue known) place)

-- BreaksForBy: `BreaksBy` holds for the input texts, if the readers reveal them
abbrev pub BreaksForBy : {T : Type 0} → Bool → (T → Due → Type 0) → Option T → RunFault
    → Option (List ℕ) → Option (List ℕ) → Type 0
BreaksForBy counted IsDue texts fault old new =
    IfSome texts (λ known. BreaksBy counted (IsDue known) fault old new)

-- BreaksFor: `Breaks` holds for the input texts, if the readers reveal them
abbrev pub BreaksFor : {T : Type 0} → (T → Due → Type 0) → Option T → RunFault → Option (List ℕ)
    → Option (List ℕ) → Type 0
BreaksFor IsDue texts fault old new = BreaksForBy true IsDue texts fault old new

-- IsReadOut old new: the reader has advanced to its end or by 16,777,217 bytes, whichever comes
-- first
abbrev pub IsReadOut : Option (List ℕ) → Option (List ℕ) → Type 0
IsReadOut old new = IfSome old (λ bytes. new ≡ Some (drop 16777217 bytes))

-- IsFilled old new: the store is full, and it still has every term of the old store
pub record IsFilled (old new : Store) : Type 0 where
  pub full : cells new ≡ new.cap
  pub grows : Grows old new

-- RoomFills old new fault: if the error is `Room`, the store was filled by adding terms
abbrev pub RoomFills : Store → Store → RunFault → Type 0
RoomFills old new (Room lines) = IsFilled old new
RoomFills old new f = Unit {0}

-- RoomFillsOne: if the error is `Room`, one of the two stores was filled by adding terms
abbrev pub RoomFillsOne : Store → Store → Store → Store → RunFault → Type 0
RoomFillsOne old new old' new' (Room lines) = IsFilled old new ⊎ IsFilled old' new'
RoomFillsOne old new old' new' f = Unit {0}

-- StopsAtOnce fault: the error is `Memory` or `Room`, and no line was written
abbrev pub StopsAtOnce : RunFault → Type 0
StopsAtOnce (Memory lines) = lines ≡ 0
StopsAtOnce (Room lines) = lines ≡ 0
StopsAtOnce (Deep lines) = ⊥
StopsAtOnce Read = ⊥
StopsAtOnce Write = ⊥

-- RanOut old new fault: the error is `Memory`, or `Room` with a filled store, and no line was
-- written
abbrev pub RanOut : Store → Store → RunFault → Type 0
RanOut old new (Memory lines) = lines ≡ 0
RanOut old new (Room lines) = (lines ≡ 0) × IsFilled old new
RanOut old new (Deep lines) = ⊥
RanOut old new Read = ⊥
RanOut old new Write = ⊥

-- StopsUnwritten old new fault: the error is `Memory`, `Read`, or `Room` with a filled store, and
-- no line was written
abbrev pub StopsUnwritten : Store → Store → RunFault → Type 0
StopsUnwritten old new (Memory lines) = lines ≡ 0
StopsUnwritten old new (Room lines) = (lines ≡ 0) × IsFilled old new
StopsUnwritten old new (Deep lines) = ⊥
StopsUnwritten old new Read = Unit {0}
StopsUnwritten old new Write = ⊥

-- StopsReading fault: the error is `Memory` with no line written, or `Read`
abbrev pub StopsReading : RunFault → Type 0
StopsReading (Memory lines) = lines ≡ 0
StopsReading (Room lines) = ⊥
StopsReading (Deep lines) = ⊥
StopsReading Read = Unit {0}
StopsReading Write = ⊥

-- StopsWriting fault: the error is `Memory` or `Write`
abbrev pub StopsWriting : RunFault → Type 0
StopsWriting (Memory lines) = Unit {0}
StopsWriting (Room lines) = ⊥
StopsWriting (Deep lines) = ⊥
StopsWriting Read = ⊥
StopsWriting Write = Unit {0}

-- fault_of_write e: the error for text that was not written and whose lines are not counted
abbrev pub fault_of_write : WriteFault → RunFault
fault_of_write unwritten.Memory = Memory 0
fault_of_write unwritten.Write = Write

-- IsNotDeep fault: the error is not `Deep`: no call-depth limit was reached
abbrev pub IsNotDeep : RunFault → Type 0
IsNotDeep (Memory lines) = Unit {0}
IsNotDeep (Room lines) = Unit {0}
IsNotDeep (Deep lines) = ⊥
IsNotDeep Read = Unit {0}
IsNotDeep Write = Unit {0}
