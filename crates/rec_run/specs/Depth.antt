-- Runs that reach the call-depth limit, and the return value of a run.
use Rattle.std.specs.Prelude.{ℕ, zero, suc, ◌≡◌, ◌≢◌, ◌⊎◌, List, Option, Some, None, Result, Ok, Err}
use Rattle.std.specs.Io.KnownBytes.{Keeps}
use Rattle.rec_engine.specs.Engine.{EngineState}
use Rattle.rec_engine.specs.Limits.{KeepsLimit}
use Rattle.rx_run.specs.Refusals.{finish_of, place_of}
use Rattle.rx_run.specs.declared.ending.Finish.{Finish}
use Rattle.rx_run.specs.declared.ending.Place.{Place}
use Rattle.rx_run.specs.declared.ending.RunFault.{RunFault}
use Rattle.rx_run.specs.declared.ending.RunFault.TheVariants as run
use Rattle.rx_run.specs.declared.refusal.Ending.{Ending}
use Rattle.rec_run.specs.declared.spec.counts.Counts.{Counts}
use Rattle.rec_run.specs.declared.spec.due.RunReport.{RunReport}

-- RunDeepOnly waiting depth r: the error `Deep` implies that a call-depth limit is given, and that
-- it is `waiting`, the number of pending frames
abbrev pub RunDeepOnly : {A : Type 0} → ℕ → Option ℕ → Result A RunFault → Type 0
RunDeepOnly waiting depth (Err (run.Deep lines)) = depth ≡ Some waiting
RunDeepOnly waiting depth r = Unit {0}

-- IsBounded depth fault: the error `Deep` implies that a call-depth limit is given
abbrev pub IsBounded : Option ℕ → RunFault → Type 0
IsBounded depth (run.Deep lines) = depth ≢ None
IsBounded depth f = Unit {0}

-- KeepsDepth k depth old new: the last of `k` evaluations kept the call-depth limit; if `k` is 0,
-- the limit and the number of frames are unchanged
abbrev pub KeepsDepth : {B : Type 0} → ℕ → Option ℕ → EngineState B → EngineState B → Type 0
KeepsDepth zero depth old new = (new.bound ≡ old.bound) × (new.waiting ≡ old.waiting)
KeepsDepth (suc k) depth old new = KeepsLimit depth new.bound new.waiting

-- finish_told r: the end of a run, without the error of a rejected input
abbrev pub finish_told : Result RunReport RunFault → Result Finish RunFault
finish_told (Ok report) = Ok (finish_of report.ending)
finish_told (Err f) = Err f

-- place_told r: the location of the error of a rejected input, if it has one
abbrev pub place_told : Result RunReport RunFault → Option Place
place_told (Ok report) = place_of report.ending
place_told (Err f) = None

-- report_with ending counts: the report of a run with these counts
abbrev pub report_with : Ending → Counts → RunReport
report_with ending counts =
    record { ending = ending; lines = counts.lines; limit_lines = counts.limit_lines }

-- counts_in report: the counts of a report
abbrev pub counts_in : RunReport → Counts
counts_in report = record { lines = report.lines; limit_lines = report.limit_lines }

-- EndsBehind written ending old new r: if `written` is an error, `r` is this error; otherwise the
-- output was flushed, and `r` is the report or the error `Write`
abbrev pub EndsBehind : Result Counts RunFault → Ending → Option (List ℕ) → Option (List ℕ)
    → Result RunReport RunFault → Type 0
EndsBehind (Ok counts) ending old new r = Keeps old new
    × ((r ≡ Ok (report_with ending counts)) ⊎ (r ≡ Err run.Write))
EndsBehind (Err f) ending old new r = (r ≡ Err f) × (new ≡ old)
