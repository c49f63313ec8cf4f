-- Reports on the values of a run, and the numbers of its lines and of its limit lines.
use Rattle.std.specs.Prelude.{ℕ, ◌≡◌, List, [], ◌++◌, Option, Some, IfSome, flat_map, length}
use Rattle.rx_term.specs.Tree.{Tree, annotated}
use Rattle.rx_term.specs.Store.{Store}
use Rattle.rx_term.specs.Walks.{held_tree}
use Rattle.rec_syntax.specs.Syntax.{Spec}
use Rattle.rec_sorts.specs.Evaluation.{Done, Over, Eval}
use Rattle.rec_sorts.specs.SpecRules.{Verdict, Good, SpecVerdict}
use Rattle.rec_engine.specs.declared.engine.Outcome.{Outcome}
use Rattle.rec_engine.specs.declared.engine.Outcome.TheVariants.{Value, Limit}
use Rattle.rx_run.specs.declared.refusal.Reading.{Reading}
use Rattle.rx_run.specs.declared.refusal.Reading.TheVariants as reading
use Rattle.rx_run.specs.declared.term.reading.InputForm.{InputForm}
use Rattle.rec_run.specs.GivenTerms.{given_by}
use Rattle.rec_run.specs.Output.{Shown, Task, TermsVerdict, GoodTerms, IsGivenVerdict}
use Rattle.rec_run.specs.Output.{chosen, counts_of, given_task, limit_lines}
use Rattle.rec_run.specs.Run.{Texts}
use Rattle.rec_run.specs.declared.options.TermChoice.{TermChoice}
use Rattle.rec_run.specs.declared.options.ValueForm.{ValueForm}
use Rattle.rec_run.specs.declared.spec.counts.Counts.{Counts}
use Rattle.rec_run.specs.declared.spec.reading.Job.{Job}

-- Says: the report on a value, by the text of its specification
abbrev pub Says : Type 0
Says = List ℕ → Spec → Tree → List ℕ

-- value_report says source y n task: the report on the value of a term; empty if `n` steps are too
-- few
abbrev pub value_report : Says → List ℕ → Spec → ℕ → Task → List ℕ
value_report says source y n task = elim (Eval y n [] task.term) [
  | Done v left ↦ says source y (annotated v task.notes)
  | Over ↦ []
]

-- report_of terms says source y given n: the reports on the chosen terms
abbrev pub report_of : TermChoice → Says → List ℕ → Spec → List Tree → ℕ → List ℕ
report_of terms says source y given n =
    flat_map (value_report says source y n) (chosen terms y given)

-- given_report says source y n us: the reports on input terms
abbrev pub given_report : Says → List ℕ → Spec → ℕ → List Tree → List ℕ
given_report says source y n us = flat_map (λ u. value_report says source y n (given_task u)) us

-- outcome_report says source y w o: the report on the result of an evaluation; empty for a limit
abbrev pub outcome_report : Says → List ℕ → Spec → Store → Outcome → List ℕ
outcome_report says source y w (Value r steps) = says source y (held_tree w r)
outcome_report says source y w Limit = []

-- results for the texts of a run: `of` has the one for an accepted specification and its accepted
-- input terms, and `none` is the one for all other texts
module _ {A : Type 0} (none : A) (of : Spec → List Tree → A) where
  -- found_for_spec v: the result after the verdict on a specification without input terms
  abbrev pub found_for_spec : Verdict → A
  found_for_spec (Good y) = of y []
  found_for_spec v = none

  -- found_for_terms y v: the result after the verdict on the input terms
  abbrev pub found_for_terms : Spec → TermsVerdict → A
  found_for_terms y (GoodTerms ts) = of y ts
  found_for_terms y v = none

  -- IsFoundAfter input v terms a: `a` is the result after the verdict on the specification; the
  -- input terms, which are read in this form, count only if it is accepted
  abbrev pub IsFoundAfter : InputForm → Verdict → Option (List ℕ) → A → Type 0
  IsFoundAfter input (Good y) (Some terms) a = (v : TermsVerdict)
      × IsGivenVerdict input y terms v × (a ≡ found_for_terms y v)
  IsFoundAfter input v terms a = a ≡ found_for_spec v

  -- IsFoundFor input texts a: `a` is the result for both texts
  abbrev pub IsFoundFor : InputForm → Texts → A → Type 0
  IsFoundFor input texts a =
      (v : Verdict) × SpecVerdict texts.spec v × IsFoundAfter input v texts.terms a

  -- job_found w r: the result for the texts that were read, with input terms in the store `w`
  abbrev pub job_found : Store → Reading Job → A
  job_found w (reading.Refused r) = none
  job_found w (reading.Good job) = of job.checked.spec (given_by w job.list)

-- IsToldFor shown says n texts told: `told` is the report on the values of the chosen terms of both
-- texts
abbrev pub IsToldFor : Shown → Says → ℕ → Texts → List ℕ → Type 0
IsToldFor shown says n texts told =
    IsFoundFor [] (λ y ts. report_of shown.terms says texts.spec y ts n) shown.input texts told

-- Tells shown says n texts old new: `new` is `old`, followed by the report on the values of the
-- chosen terms of the texts, if their readers describe them
abbrev pub Tells : Shown → Says → ℕ → Option Texts → List ℕ → List ℕ → Type 0
Tells shown says n texts old new =
    IfSome texts (λ t. (told : List ℕ) × IsToldFor shown says n t told × (new ≡ old ++ told))

-- job_report terms says w n r: the report on the values of the chosen terms of the texts that were
-- read
abbrev pub job_report : TermChoice → Says → Store → ℕ → Reading Job → List ℕ
job_report terms says w n (reading.Refused r) = []
job_report terms says w n (reading.Good job) =
    report_of terms says job.checked.source job.checked.spec (given_by w job.list) n

-- HasLines shown texts count: `count` is the number of lines of terms in the specified output, if
-- the readers describe the texts
abbrev pub HasLines : Shown → Option Texts → ℕ → Type 0
HasLines shown texts count = IfSome texts
    (λ t. IsFoundFor 0 (λ y ts. length (chosen shown.terms y ts)) shown.input t count)

-- HasLimitLines shown n texts count: `count` is the number of limit lines in the specified output,
-- if the readers describe the texts
abbrev pub HasLimitLines : Shown → ℕ → Option Texts → ℕ → Type 0
HasLimitLines shown n texts count = IfSome texts
    (λ t. IsFoundFor 0 (λ y ts. limit_lines shown.terms y ts shown.form n) shown.input t count)

-- no_lines: there are no lines
abbrev pub no_lines : Counts
no_lines = record { lines = 0; limit_lines = 0 }

-- job_counts w terms form n r: the numbers of lines and of limit lines for the texts that were read
abbrev pub job_counts : Store → TermChoice → ValueForm → ℕ → Reading Job → Counts
job_counts w terms form n r = job_found no_lines (λ y ts. counts_of terms y ts form n) w r

module _ {S : Type 0} (ready : S → List ℕ → Spec → Type 0) where
  -- IsReadyFor y s: a reporter is ready for values of the specification `y`, for some text of it
  abbrev pub IsReadyFor : Spec → S → Type 0
  IsReadyFor y s = (source : List ℕ) × ready s source y

  -- StaysReady y old new: a reporter stays ready for the values that it was ready for
  abbrev pub StaysReady : Spec → S → S → Type 0
  StaysReady y old new = (source : List ℕ) → ready old source y → ready new source y

  -- TellsMore told y old new more: a reporter that was ready for a text `source` has added `more
  -- source` to its report
  abbrev pub TellsMore : (S → List ℕ) → Spec → S → S → (List ℕ → List ℕ) → Type 0
  TellsMore told y old new more = (source : List ℕ) → ready old source y
      → told new ≡ told old ++ more source
