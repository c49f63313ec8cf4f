-- What is found for a run's texts, from what the texts came to: what is told of their values, and
-- how many lines and limit lines they have.
use Rattle.std.proofs.Common.{refl, sym, ap, subst, ◌∙◌}
use Rattle.std.specs.Prelude.{ℕ, ◌≡◌, ◌++◌, List, [], Option, Some, None, IfOk, IfSome, OnOk, Result, Ok, Err, length}
use Rattle.rx_term.specs.Store.{Store}
use Rattle.rx_term.specs.Tree.{Tree}
use Rattle.rx_term.specs.declared.Term.{Term as Reference}
use Rattle.rec_syntax.specs.Syntax.{Sourced, Spec}
use Rattle.rec_sorts.specs.SpecRules.{Verdict, Long, Grammar, Breaks, Good}
use Rattle.rx_run.specs.declared.refusal.Reading.{Reading}
use Rattle.rx_run.specs.declared.refusal.Reading.TheVariants as reading
use Rattle.rx_run.specs.declared.refusal.Refusal.{Refusal}
use Rattle.rx_run.specs.declared.term.reading.InputForm.{InputForm}
use Rattle.rec_run.specs.GivenTerms.{IsJobAfter, IsJobRead, IsTermsRead, given_by, job_of, refused_terms}
use Rattle.rec_run.specs.Output.{Shown, TermsVerdict, TooLong, Outside, NoTable, NoElement, BreaksTerms, GoodTerms, chosen, limit_lines}
use Rattle.rec_run.specs.Reading.{IsSpecReading, KeepsText, refused_spec}
use Rattle.rec_run.specs.Depth.{counts_in}
use Rattle.rec_run.specs.Reports.{HasLimitLines, HasLines, IsFoundAfter, IsFoundFor, Says, Tells, found_for_terms, job_counts, job_found, job_report, report_of}
use Rattle.rec_run.specs.Run.{Texts}
use Rattle.rec_run.specs.declared.options.TermChoice.{TermChoice}
use Rattle.rec_run.specs.declared.options.ValueForm.{ValueForm}
use Rattle.rec_run.specs.declared.spec.counts.Counts.{Counts}
use Rattle.rec_run.specs.declared.spec.reading.Job.{Job}
use Rattle.rec_run.specs.declared.spec.due.RunReport.{RunReport}

module _ {A : Type 0} (none : A) (of : Spec → List Tree → A) (input : InputForm) where
  -- a refused specification is all that counts
  after-refusal : (v : Verdict) (r : Refusal) (terms : Option (List ℕ)) → refused_spec v ≡ Some r
      → IsFoundAfter none of input v terms none
  after-refusal Long r terms e = refl
  after-refusal (Grammar at) r terms e = refl
  after-refusal (Breaks f) r terms e = refl
  after-refusal (Good y) r terms e = absurd (cc e)

  -- a text of terms behind a good specification
  refused-found : (y : Spec) (r : Refusal) (v : TermsVerdict) → refused_terms v ≡ Some r → none ≡ found_for_terms none of y v
  refused-found y r TooLong e = refl
  refused-found y r (Outside at) e = refl
  refused-found y r NoTable e = refl
  refused-found y r (NoElement number) e = refl
  refused-found y r (BreaksTerms number) e = refl
  refused-found y r (GoodTerms ts) e = absurd (cc e)

  terms-found : (w : Store) (checked : Sourced) (bytes : List ℕ) (r : Reading Reference) → IsTermsRead input checked.spec w bytes r
      → IsFoundAfter none of input (Good checked.spec) (Some bytes) (job_found none of w (job_of checked r))
  terms-found w checked bytes (reading.Refused r) (v, h, is) = (v, h, refused-found checked.spec r v is)
  terms-found w checked bytes (reading.Good list) (v, h, is) = (v, h, ap (found_for_terms none of checked.spec) (sym is))

  -- both texts
  found-after : (w : Store) (given : Option (List ℕ)) (first : Reading Sourced) (r : Reading Job) (v : Verdict) → IsSpecReading first v
      → IsJobAfter input w given first r → IsFoundAfter none of input v given (job_found none of w r)
  found-after w given (reading.Refused q) r v is h =
      subst (λ z. IsFoundAfter none of input v given (job_found none of w z)) (sym h) (after-refusal v q given is)
  found-after w None (reading.Good checked) r v is h =
      subst (λ z. IsFoundAfter none of input v None (job_found none of w z)) (sym h)
      (subst (λ z. IsFoundAfter none of input z None (of checked.spec [])) (sym is) refl)
  found-after w (Some bytes) (reading.Good checked) r v is (t, k, e) =
      subst (λ z. IsFoundAfter none of input v (Some bytes) (job_found none of w z)) (sym e)
      (subst (λ z. IsFoundAfter none of input z (Some bytes) (job_found none of w (job_of checked t))) (sym is) (terms-found w checked bytes t k))

  pub found-read : (w : Store) (texts : Texts) (r : Reading Job) → IsJobRead input w texts r → IsFoundFor none of input texts (job_found none of w r)
  found-read w texts r (first, (v, h, is), kept, after) = (v, h, found-after w texts.terms first r v is after)

-- a good specification keeps its text, so what is told of the values by the job is told by the text
kept-source : (input : InputForm) (terms : TermChoice) (says : Says) (w : Store) (n : ℕ) (source : List ℕ) (given : Option (List ℕ)) (first : Reading Sourced) (r : Reading Job)
    → KeepsText source first → IsJobAfter input w given first r → job_report terms says w n r ≡ job_found [] (λ y ts. report_of terms says source y ts n) w r
kept-source input terms says w n source given (reading.Refused q) r kept h =
    subst (λ z. job_report terms says w n z ≡ job_found [] (λ y ts. report_of terms says source y ts n) w z) (sym h) refl
kept-source input terms says w n source None (reading.Good checked) r kept h =
    subst (λ z. job_report terms says w n z ≡ job_found [] (λ y ts. report_of terms says source y ts n) w z) (sym h)
    (ap (λ s. report_of terms says s checked.spec [] n) kept)
kept-source input terms says w n source (Some bytes) (reading.Good checked) r kept (t, k, e) =
    subst (λ z. job_report terms says w n z ≡ job_found [] (λ y ts. report_of terms says source y ts n) w z) (sym e) (by t)
  where
    by : (t : Reading Reference) → job_report terms says w n (job_of checked t) ≡ job_found [] (λ y ts. report_of terms says source y ts n) w (job_of checked t)
    by (reading.Refused q) = refl
    by (reading.Good list) = ap (λ s. report_of terms says s checked.spec (given_by w (Some list)) n) kept

-- a run tells it
pub tells-by : {A E : Type 0} (shown : Shown) (says : Says) (result : Result A E) (w : Store) (n : ℕ) (texts : Option Texts) (r : Reading Job) (old new : List ℕ)
    → IfSome texts (λ t. IsJobRead shown.input w t r) → OnOk result (new ≡ old ++ job_report shown.terms says w n r)
    → IfOk result (λ a. Tells shown says n texts old new)
tells-by shown says (Err e) w n texts r old new h k = tt
tells-by shown says (Ok a) w n None r old new h k = tt
tells-by shown says (Ok a) w n (Some t) r old new h k = (
  job_found [] (λ y ts. report_of shown.terms says t.spec y ts n) w r,
  found-read [] (λ y ts. report_of shown.terms says t.spec y ts n) shown.input w t r h,
  subst (λ told. new ≡ old ++ told) (kept-source shown.input shown.terms says w n t.spec t.terms h.0 r h.2 h.3) k,
)

-- both numbers of lines are found apart
lines-found : (w : Store) (terms : TermChoice) (form : ValueForm) (n : ℕ) (r : Reading Job)
    → (job_counts w terms form n r).lines ≡ job_found 0 (λ y ts. length (chosen terms y ts)) w r
lines-found w terms form n (reading.Refused r) = refl
lines-found w terms form n (reading.Good job) = refl

limits-found : (w : Store) (terms : TermChoice) (form : ValueForm) (n : ℕ) (r : Reading Job)
    → (job_counts w terms form n r).limit_lines ≡ job_found 0 (λ y ts. limit_lines terms y ts form n) w r
limits-found w terms form n (reading.Refused r) = refl
limits-found w terms form n (reading.Good job) = refl

-- it has so many lines
pub lines-by : {E : Type 0} (result : Result RunReport E) (w : Store) (shown : Shown) (n : ℕ) (texts : Option Texts) (r : Reading Job)
    → IfSome texts (λ t. IsJobRead shown.input w t r) → IfOk result (λ report. counts_in report ≡ job_counts w shown.terms shown.form n r)
    → IfOk result (λ report. HasLines shown texts report.lines)
lines-by (Err e) w shown n texts r h k = tt
lines-by (Ok report) w shown n None r h k = tt
lines-by (Ok report) w shown n (Some t) r h k =
    subst (IsFoundFor 0 (λ y ts. length (chosen shown.terms y ts)) shown.input t)
    (sym (ap (λ (c : Counts). c.lines) k ∙ lines-found w shown.terms shown.form n r))
    (found-read 0 (λ y ts. length (chosen shown.terms y ts)) shown.input w t r h)

-- and so many of them are limit lines
pub limits-by : {E : Type 0} (result : Result RunReport E) (w : Store) (shown : Shown) (n : ℕ) (texts : Option Texts) (r : Reading Job)
    → IfSome texts (λ t. IsJobRead shown.input w t r) → IfOk result (λ report. counts_in report ≡ job_counts w shown.terms shown.form n r)
    → IfOk result (λ report. HasLimitLines shown n texts report.limit_lines)
limits-by (Err e) w shown n texts r h k = tt
limits-by (Ok report) w shown n None r h k = tt
limits-by (Ok report) w shown n (Some t) r h k =
    subst (IsFoundFor 0 (λ y ts. limit_lines shown.terms y ts shown.form n) shown.input t)
    (sym (ap (λ (c : Counts). c.limit_lines) k ∙ limits-found w shown.terms shown.form n r))
    (found-read 0 (λ y ts. limit_lines shown.terms y ts shown.form n) shown.input w t r h)
