-- The results of runs over texts in memory.
--     IsEvalDue options spec terms d      the specified output of an evaluation
--     IsTraceAsked options spec terms d   the specified output of a trace
--     IsCheckDue name spec d              the specified output of a check
--     Answers IsDue status told old new   status 0: the run is done; 1: a text is rejected; 2: the
--                                         buffer is too short for the output; 3 and 4: out of
--                                         memory and out of cells, with length 0 and no offset
use Rattle.std.specs.Prelude.{◌≡◌, ◌<◌, ◌^◌, ℕ, Bool, List, Option, Some, None, length, max, min}
use Rattle.std.specs.Prelude.{option_map, take, if◌then◌else◌}
use Rattle.rx_run.specs.Due.{Due}
use Rattle.rx_run.specs.Run.{IsPlaced}
use Rattle.rx_run.specs.declared.ending.Finish.{Finish}
use Rattle.rx_run.specs.declared.ending.Finish.TheVariants.{Done, Refused}
use Rattle.rx_run.specs.declared.ending.Place.{Place}
use Rattle.rec_run.specs.Output.{IsDue, shown_by}
use Rattle.rec_run.specs.Output.{Shown as Lines}
use Rattle.rec_run.specs.declared.options.LimitLines.TheVariants.{Bare}
use Rattle.rec_run.specs.declared.options.TermChoice.TheVariants.{All}
use Rattle.rec_run.specs.declared.options.ValueForm.TheVariants.{Within}
use Rattle.rec_check.specs.Findings.{Found}
use Rattle.rec_check.specs.Lines.{lines_of}
use Rattle.rec_check.specs.Runs.{Examined}
use Rattle.rec_check.specs.declared.runs.Judgement.{Judgement}
use Rattle.rec_check.specs.declared.runs.Judgement.TheVariants as judged
use Rattle.rec_trace_run.specs.Picks.{all_picked}
use Rattle.rec_trace_run.specs.Traces.{IsTraceDueFor, Shown}
use Rattle.recw_wasm.specs.declared.options.Options.{Options}
use Rattle.recw_wasm.specs.declared.options.TraceOptions.{TraceOptions}
use Rattle.recw_wasm.specs.declared.told.Told.{Told}

-- the form of the lines of an evaluation: a result has at most 1,000,000 bytes
abbrev pub page_lines : Bool → Lines
page_lines count = shown_by count Bare (Within 1000000)

-- the specified output for a specification, and for input terms, if there are any
abbrev pub IsEvalDue : Options → List ℕ → Option (List ℕ) → Due → Type 0
IsEvalDue options spec terms d =
    IsDue spec terms (page_lines options.count) (min options.steps (10 ^ 18)) d

-- the form of traces: the width of a term is 3 to 2^30, and every rewrite is shown
abbrev pub shown_as : TraceOptions → Shown
shown_as options = record {
  whole = options.whole;
  counted = options.limits.count;
  width = Some (min (max options.width 3) (2 ^ 30));
  picked = all_picked;
  terms = All;
}

-- the specified traces of the terms of a specification, and of input terms, if there are any
abbrev pub IsTraceAsked : TraceOptions → List ℕ → Option (List ℕ) → Due → Type 0
IsTraceAsked options spec terms d = IsTraceDueFor (shown_as options)
    (min options.limits.steps (10 ^ 18)) (record { spec = spec; terms = terms }) d

-- the end of a check: warnings do not reject a text
abbrev pub judged_finish : Judgement → Finish
judged_finish judged.Good = Done
judged_finish judged.Warned = Done
judged_finish judged.Refused = Refused

-- the specified output of a check: the lines of the findings, without an offset
abbrev pub checked : List ℕ → List ℕ → Judgement → List Found → Due
checked name spec end found =
    record { finish = judged_finish end; text = lines_of name spec found; place = None }

-- the specified output of a check of this text with this name
pub record IsCheckDue (name spec : List ℕ) (d : Due) : Type 0 where
  pub found : List Found
  pub end : Judgement
  pub examined : Examined spec found end
  pub is_due : d ≡ checked name spec end found

-- the offset of the error, if there is one
abbrev pub told_place : Told → Option ℕ
told_place told = if told.has_place then Some told.at else None

-- length 0 and no offset
pub record IsUntold (told : Told) : Type 0 where
  pub length : told.length ≡ 0
  pub place : told_place told ≡ None

-- the run ended like this, and the specified output is at the start of the buffer
pub record Hands (IsDue : Due → Type 0) (finish : Finish) (told : Told) (room : List ℕ)
    : Type 0 where
  pub due : Due
  pub is_due : IsDue due
  pub ends : due.finish ≡ finish
  pub written : take told.length room ≡ due.text

-- the offset is that of the specified output
pub record Places (IsDue : Due → Type 0) (told : Told) : Type 0 where
  pub place : Option Place
  pub is_placed : IsPlaced IsDue place
  pub is_told : told_place told ≡ option_map (λ p. p.at) place

-- the specified output has this length, which is more than that of the buffer
pub record Overfills (IsDue : Due → Type 0) (told : Told) (room : List ℕ) : Type 0 where
  pub due : Due
  pub is_due : IsDue due
  pub wanted : told.length ≡ length due.text
  pub short : length room < told.length

-- the meaning of the status; `old` and `new` are the bytes of the buffer before and after
pub record Answers (IsDue : Due → Type 0) (status : ℕ) (told : Told) (old new : List ℕ)
    : Type 0 where
  pub done : status ≡ 0 → Hands IsDue Done told new
  pub refused : status ≡ 1 → Hands IsDue Refused told new
  pub placed : status < 3 → Places IsDue told
  pub short : status ≡ 2 → Overfills IsDue told old
  pub kept : 1 < status → new ≡ old
  pub untold : 2 < status → IsUntold told
  pub known : status < 5
