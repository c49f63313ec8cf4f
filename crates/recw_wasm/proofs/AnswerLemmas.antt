-- What the host is answered, by what was handed over.
use Rattle.std.proofs.Common.{◌≡◌, ◌^◌, refl, Bool, ℕ, List, [], Option, Some, None, Result, Ok, Err, IfOk, IfErr, OnOk, length, min, ap, subst, sym, ◌∙◌, ◌<◌, arith}
use Rattle.rx_run.specs.Due.{Due}
use Rattle.rx_run.specs.Refusals.{finish_of, place_of}
use Rattle.rx_run.specs.Run.{Concludes, Ends, IsPlaced}
use Rattle.rx_run.specs.declared.ending.Finish.{Finish}
use Rattle.rx_run.specs.declared.ending.Place.{Place}
use Rattle.rx_run.specs.declared.ending.RunFault.{RunFault}
use Rattle.rx_run.specs.declared.ending.RunFault.TheVariants as fault
use Rattle.rx_run.specs.declared.refusal.Ending.{Ending}
use Rattle.rx_run.proofs.WholeRunLemmas.{ends_with, placed_with}
use Rattle.rec_run.specs.Output.{IsDue}
use Rattle.rec_run.specs.Run.{Texts}
use Rattle.rec_check.specs.Runs.{Tells}
use Rattle.rec_check.specs.declared.runs.Judgement.{Judgement}
use Rattle.rx_run.specs.declared.pattern.matching.MatchReport.{MatchReport}
use Rattle.rec_trace_run.specs.Traces.{IsTraceDueFor, Shown}
use Rattle.recw_wasm.specs.Answers.{Answers, IsCheckDue, IsEvalDue, IsTraceAsked, checked, judged_finish, page_lines, shown_as}
use Rattle.recw_wasm.specs.Inner.Handing.{IsHanded, IsWithheld, fault_number}
use Rattle.recw_wasm.specs.declared.options.Options.{Options}
use Rattle.recw_wasm.specs.declared.options.TraceOptions.{TraceOptions}
use Rattle.recw_wasm.specs.declared.told.Told.{Told}

-- a fault has one of the numbers 3 and 4
number_bounds : (fault : RunFault) → (2 < fault_number fault) × (fault_number fault < 5)
number_bounds (fault.Memory lines) = (omega arith, omega arith)
number_bounds (fault.Room lines) = (omega arith, omega arith)
number_bounds (fault.Deep lines) = (omega arith, omega arith)
number_bounds fault.Read = (omega arith, omega arith)
number_bounds fault.Write = (omega arith, omega arith)

module _ (IsDue : Due → Type 0) (lines : List ℕ) (place : Option Place) (status : ℕ) (told : Told) (old new : List ℕ) where
  -- the run ended
  answers_handed : (finish : Finish) → IsHanded finish lines place status told old new → Ends IsDue finish (Some []) (Some lines)
      → IsPlaced IsDue place → Answers IsDue status told old new
  answers_handed finish h e p =
      record {
        done = λ s. record { due = e.due; is_due = e.is_due; ends = e.ends ∙ h.done s; written = h.written (omega (arith, s)) ∙ e.written };
        refused = λ s. record { due = e.due; is_due = e.is_due; ends = e.ends ∙ h.refused s; written = h.written (omega (arith, s)) ∙ e.written };
        placed = λ s. record { place = place; is_placed = p; is_told = h.placed };
        short = λ s. record { due = e.due; is_due = e.is_due; wanted = h.long ∙ ap length e.written; short = h.short s };
        kept = h.kept;
        untold = λ s. let k = h.known in absurd (omega (arith, k, s));
        known = let k = h.known in omega (arith, k);
      }

  -- the run met a fault
  answers_withheld : (fault : RunFault) → IsWithheld fault status told old new → Answers IsDue status told old new
  answers_withheld fault w =
      let bounds = number_bounds fault in
      let least : 2 < status = subst (λ n. 2 < n) (sym w.numbered) bounds.0 in
      record {
        done = λ s. absurd (omega (arith, least, s));
        refused = λ s. absurd (omega (arith, least, s));
        placed = λ s. absurd (omega (arith, least, s));
        short = λ s. absurd (omega (arith, least, s));
        kept = λ s. w.kept;
        untold = λ s. w.untold;
        known = subst (λ n. n < 5) (sym w.numbered) bounds.1;
      }

-- the same where the run answers the refusal
pub answers_ended : (IsDue : Due → Type 0) (lines : List ℕ) (status : ℕ) (told : Told) (old new : List ℕ) (end : Result Ending RunFault)
    (before : List ℕ) → before ≡ [] → IfOk end (λ e. IsHanded (finish_of e) lines (place_of e) status told old new)
    → IfErr end (λ f. IsWithheld f status told old new) → IfOk end (λ e. Concludes IsDue e (Some before) (Some lines)) → Answers IsDue status told old new
answers_ended IsDue lines status told old new (Ok ending) before b h w e =
    let c = subst (λ z. Concludes IsDue ending (Some z) (Some lines)) b e in
    answers_handed IsDue lines (place_of ending) status told old new (finish_of ending) h (ends_with IsDue ending (Some []) (Some lines) c)
    (placed_with IsDue ending (Some []) (Some lines) c)
answers_ended IsDue lines status told old new (Err fault) before b h w e = answers_withheld IsDue lines None status told old new fault w

-- the run's limits are those that were asked for
pub answers_asked : (asked : Options) (count : Bool) (steps : ℕ) (spec : List ℕ) (terms : Option (List ℕ)) (status : ℕ) (told : Told)
    (old new : List ℕ) → steps ≡ min asked.steps (10 ^ 18) → count ≡ asked.count → Answers (IsDue spec terms (page_lines count) steps) status told old new
    → Answers (IsEvalDue asked spec terms) status told old new
answers_asked asked count steps spec terms status told old new e f h =
    subst (λ n. Answers (IsDue spec terms (page_lines asked.count) n) status told old new) e
    (subst (λ b. Answers (IsDue spec terms (page_lines b) steps) status told old new) f h)

-- a check ended so, or met a fault, and is handed over as a run that does
pub answers_checked : (name spec lines : List ℕ) (judged : Result Judgement RunFault) (end : Result Finish RunFault) (status : ℕ) (told : Told)
    (old new before : List ℕ) → before ≡ [] → IfOk judged (λ j. end ≡ Ok (judged_finish j)) → IfErr judged (λ f. end ≡ Err f)
    → IfOk judged (λ j. Tells name spec j (Some before) (Some lines)) → IfOk end (λ f. IsHanded f lines None status told old new)
    → IfErr end (λ f. IsWithheld f status told old new) → Answers (IsCheckDue name spec) status told old new
answers_checked name spec lines (Ok j) end status told old new before b o f t h w =
    let g = subst (λ z. Tells name spec j (Some z) (Some lines)) b t in
    let due = checked name spec j g.found in
    let is_due : IsCheckDue name spec due = record { found = g.found; end = j; examined = g.examined; is_due = refl } in
    answers_handed (IsCheckDue name spec) lines None status told old new (judged_finish j)
    (subst (λ z. IfOk z (λ x. IsHanded x lines None status told old new)) o h)
    (record { due = due; is_due = is_due; ends = refl; written = g.written })
    (record { due = due; is_due = is_due; placed = refl })
answers_checked name spec lines (Err fault) end status told old new before b o f t h w =
    answers_withheld (IsCheckDue name spec) lines None status told old new fault
    (subst (λ z. IfErr z (λ x. IsWithheld x status told old new)) f w)

-- a match ended so, or met a fault, and is handed over as a run that does
pub answers_matched : (IsDue : Due → Type 0) (lines : List ℕ) (report : Result MatchReport RunFault) (end : Result Ending RunFault) (status : ℕ)
    (told : Told) (old new before : List ℕ) → before ≡ [] → IfOk report (λ r. end ≡ Ok r.ending) → IfErr report (λ f. end ≡ Err f)
    → IfOk report (λ r. Concludes IsDue r.ending (Some before) (Some lines))
    → IfOk end (λ e. IsHanded (finish_of e) lines (place_of e) status told old new) → IfErr end (λ f. IsWithheld f status told old new)
    → Answers IsDue status told old new
answers_matched IsDue lines (Ok r) end status told old new before b o f e h w =
    answers_ended IsDue lines status told old new (Ok r.ending) before b
    (subst (λ z. IfOk z (λ x. IsHanded (finish_of x) lines (place_of x) status told old new)) o h) tt e
answers_matched IsDue lines (Err l) end status told old new before b o f e h w =
    answers_withheld IsDue lines None status told old new l (subst (λ z. IfErr z (λ x. IsWithheld x status told old new)) f w)

-- the run's limits and how it shows traces are those that were asked for
pub answers_traced : (asked : TraceOptions) (shown : Shown) (steps : ℕ) (spec : List ℕ) (terms : Option (List ℕ)) (status : ℕ) (told : Told)
    (old new : List ℕ) → steps ≡ min asked.limits.steps (10 ^ 18) → shown ≡ shown_as asked
    → Answers (IsTraceDueFor shown steps (record { spec = spec; terms = terms })) status told old new
    → Answers (IsTraceAsked asked spec terms) status told old new
answers_traced asked shown steps spec terms status told old new e f h =
    let texts : Texts = record { spec = spec; terms = terms } in
    subst (λ n. Answers (IsTraceDueFor (shown_as asked) n texts) status told old new) e
    (subst (λ s. Answers (IsTraceDueFor s steps texts) status told old new) f h)
