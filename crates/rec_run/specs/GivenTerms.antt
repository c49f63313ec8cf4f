-- Input terms of a run: their list in a store, the result of reading both texts, and the specified
-- output for it.
use Rattle.std.specs.Prelude.{ℕ, ◌≡◌, List, [], ◌++◌, Option, Some, None, IfSome, Result, Ok, Err}
use Rattle.std.specs.Prelude.{codes, flat_map, unwrap_or}
use Rattle.std.specs.Option.{ForSome}
use Rattle.rx_term.specs.Tree.{Tree, none, annotations, from_list, list_of}
use Rattle.rx_term.specs.Store.{Store, tree_at}
use Rattle.rx_term.specs.declared.Term.{Term as Reference}
use Rattle.rec_syntax.specs.Syntax as syntax
use Rattle.rec_syntax.specs.Syntax.{Sourced}
use Rattle.rec_sorts.specs.SpecRules as verdict
use Rattle.rec_sorts.specs.SpecRules.{Verdict}
use Rattle.rec_sorts.specs.TermRules.{broken_by_elements, broken_by_terms, elements}
use Rattle.rec_sorts.specs.Evaluation.{Eval, term_of}
use Rattle.rec_sorts.specs.declared.fault.TermsFault.{TermsFault}
use Rattle.rec_sorts.specs.declared.fault.TermsFault.TheVariants as rule
use Rattle.rx_run.specs.Due.{Due, done}
use Rattle.rec_run.specs.Output.{Shown, IsDueAfter, lines}
use Rattle.rec_run.specs.Output.{TermsVerdict, TooLong, Outside, NoTable, NoElement, BreaksTerms}
use Rattle.rec_run.specs.Output.{GoodTerms, IsGivenVerdict}
use Rattle.rec_run.specs.Reading.{IsSpecRead, KeepsText, evaluation_text}
use Rattle.rx_run.specs.Refusals.{reading_due}
use Rattle.rec_run.specs.Run.{HasRoom, IsDueFor, Texts}
use Rattle.rx_run.specs.declared.ending.RunFault.{RunFault}
use Rattle.rx_run.specs.declared.ending.RunFault.TheVariants as fault
use Rattle.rx_run.specs.declared.ending.Source.TheVariants as source
use Rattle.rx_run.specs.declared.refusal.Reading.{Reading}
use Rattle.rx_run.specs.declared.refusal.Reading.TheVariants as reading
use Rattle.rx_run.specs.declared.refusal.Reason.TheVariants as reason
use Rattle.rx_run.specs.declared.refusal.Refusal.{Refusal}
use Rattle.rx_run.specs.declared.term.reading.InputForm.{InputForm}
use Rattle.rec_run.specs.declared.spec.reading.Job.{Job}

-- item_at w r: the tree of a term reference; the empty list if it has none
abbrev pub item_at : Store → Reference → Tree
item_at w r = unwrap_or (tree_at w r) (list_of none)

-- given_at w r: the items of the list of a term reference; none if it is no list without
-- annotations
abbrev pub given_at : Store → Reference → List Tree
given_at w r = unwrap_or (elements (item_at w r)) []

-- HoldsTerms y w list: the store has `list`, a list without annotations whose items violate no rule
pub record HoldsTerms (y : syntax.Spec) (w : Store) (list : Reference) : Type 0 where
  pub held : tree_at w list ≡ Some (list_of (from_list (given_at w list)))
  pub kept : broken_by_elements y (given_at w list) ≡ None

-- given_by w list: the items of a list; none if there is no list
abbrev pub given_by : Store → Option Reference → List Tree
given_by w None = []
given_by w (Some list) = given_at w list

-- list_refused fault: the result for input terms that are not accepted: rejected, or out of memory
abbrev pub list_refused : TermsFault → Result (Reading Reference) RunFault
list_refused (rule.Rule number) = Ok
    (reading.Refused (record { text = source.Terms; reason = reason.TermsRule number }))
list_refused rule.Memory = Err (fault.Memory 0)

-- job_of checked r: the result for both texts, from an accepted specification and the result `r`
-- for the input terms
abbrev pub job_of : Sourced → Reading Reference → Reading Job
job_of checked (reading.Refused r) = reading.Refused r
job_of checked (reading.Good list) = reading.Good (record { checked = checked; list = Some list })

-- job_alone_of r: the result for a specification without input terms
abbrev pub job_alone_of : Reading Sourced → Reading Job
job_alone_of (reading.Refused r) = reading.Refused r
job_alone_of (reading.Good checked) = reading.Good (record { checked = checked; list = None })

-- job_lines w shown n job: the lines of accepted texts, with input terms in the store `w`
abbrev pub job_lines : Store → Shown → ℕ → Job → List ℕ
job_lines w shown n job = lines job.checked.spec (given_by w job.list) shown n

-- run_due w shown n r: the specified output for the result of reading both texts
abbrev pub run_due : Store → Shown → ℕ → Reading Job → Due
run_due w shown n r = reading_due (λ job. done (job_lines w shown n job)) r

-- IsRefused r: a text was rejected
abbrev pub IsRefused : Reading Job → Type 0
IsRefused (reading.Refused r) = Unit {0}
IsRefused (reading.Good job) = ⊥

-- EndsRefused r: a text was rejected, or the error is neither `Room` nor `Deep`
abbrev pub EndsRefused : Result (Reading Job) RunFault → Type 0
EndsRefused (Ok r) = IsRefused r
EndsRefused (Err f) = HasRoom f

-- IsRefusal v: the verdict rejects a specification
abbrev pub IsRefusal : Verdict → Type 0
IsRefusal (verdict.Good y) = ⊥
IsRefusal v = Unit {0}

-- OnGoodSpec text P: if a reader describes its text, and this is an accepted specification, `P`
-- holds
abbrev pub OnGoodSpec : Option (List ℕ) → Type 0 → Type 0
OnGoodSpec text P =
    IfSome text (λ bytes. (y : syntax.Spec) → verdict.SpecVerdict bytes (verdict.Good y) → P)

-- OnRefusedSpec text P: if a reader describes its text, and this is a rejected specification, `P`
-- holds
abbrev pub OnRefusedSpec : Option (List ℕ) → Type 0 → Type 0
OnRefusedSpec text P =
    IfSome text (λ bytes. (v : Verdict) → verdict.SpecVerdict bytes v → IsRefusal v → P)

-- IsReadAs input w v given r: after the verdict `v` on the specification, `r` determines the
-- specified output for the text `given` of input terms, if any, which is read in the form `input`
abbrev pub IsReadAs : InputForm → Store → Verdict → Option (List ℕ) → Reading Job → Type 0
IsReadAs input w v given r = (shown : Shown) (n : ℕ) → shown.input ≡ input
    → IsDueAfter v given shown n (run_due w shown n r)

-- IsReadFor input w y given r: for the accepted specification `y`, `r` determines the specified
-- output for the text `given` of input terms, if any
abbrev pub IsReadFor : InputForm → Store → syntax.Spec → Option (List ℕ) → Reading Job → Type 0
IsReadFor input w y given r = IsReadAs input w (verdict.Good y) given r

-- refused_terms v: the error of a rejected text of input terms
abbrev pub refused_terms : TermsVerdict → Option Refusal
refused_terms TooLong = Some (record { text = source.Terms; reason = reason.Long })
refused_terms (Outside at) = Some (record { text = source.Terms; reason = reason.Outside at })
refused_terms NoTable = Some (record { text = source.Terms; reason = reason.NotTable })
refused_terms (NoElement number) =
    Some (record { text = source.Terms; reason = reason.Element number })
refused_terms (BreaksTerms number) =
    Some (record { text = source.Terms; reason = reason.TermsRule number })
refused_terms (GoodTerms ts) = None

-- IsTermsReading w r v: `r` is the result of reading input terms for the verdict `v`
abbrev pub IsTermsReading : Store → Reading Reference → TermsVerdict → Type 0
IsTermsReading w (reading.Refused r) v = refused_terms v ≡ Some r
IsTermsReading w (reading.Good list) v = v ≡ GoodTerms (given_at w list)

-- IsTermsRead input y w text r: `r` is the result of reading input terms for the verdict on `text`,
-- which is read in the form `input`
abbrev pub IsTermsRead : InputForm → syntax.Spec → Store → List ℕ → Reading Reference → Type 0
IsTermsRead input y w text r =
    (v : TermsVerdict) × IsGivenVerdict input y text v × IsTermsReading w r v

-- IsJudged y w t r: `r` is the result for the tree `t` of input terms: rejected with the rule that it
-- violates, or its items
abbrev pub IsJudged : syntax.Spec → Store → Tree → Reading Reference → Type 0
IsJudged y w t (reading.Refused r) = (number : ℕ) × (broken_by_terms y t ≡ Some number)
    × (r ≡ record { text = source.Terms; reason = reason.TermsRule number })
IsJudged y w t (reading.Good list) =
    (broken_by_terms y t ≡ None) × (elements t ≡ Some (given_at w list))

-- IsListRead input y w bytes r: for an accepted specification, `r` determines the specified output
-- for the text `bytes` of input terms, which is read in the form `input`
abbrev pub IsListRead : InputForm → syntax.Spec → Store → List ℕ → Reading Reference → Type 0
IsListRead input y w bytes r = (shown : Shown) (n : ℕ) → shown.input ≡ input
    → IsDueAfter (verdict.Good y) (Some bytes)
    shown n (reading_due (λ list. done (lines y (given_at w list) shown n)) r)

-- IsJobAfter input w given first r: `r` is the result for both texts, from the result `first` for
-- the specification and the text `given` of input terms, if any, which is read in the form `input`
abbrev pub IsJobAfter : InputForm → Store → Option (List ℕ) → Reading Sourced → Reading Job → Type 0
IsJobAfter input w given (reading.Refused q) r = r ≡ reading.Refused q
IsJobAfter input w None (reading.Good checked) r = r ≡ job_alone_of (reading.Good checked)
IsJobAfter input w (Some bytes) (reading.Good checked) r = (t : Reading Reference)
    × IsTermsRead input checked.spec w bytes t × (r ≡ job_of checked t)

-- IsJobRead input w texts r: `r` is the result of reading both texts, the input terms in the form
-- `input`; an accepted specification keeps its text
abbrev pub IsJobRead : InputForm → Store → Texts → Reading Job → Type 0
IsJobRead input w texts r = (first : Reading Sourced) × IsSpecRead texts.spec first
    × KeepsText texts.spec first × IsJobAfter input w texts.terms first r

-- IsReadFrom input w texts r: `r` determines the specified output for both texts
abbrev pub IsReadFrom : InputForm → Store → Texts → Reading Job → Type 0
IsReadFrom input w texts r = (shown : Shown) (n : ℕ) → shown.input ≡ input
    → IsDueFor shown n texts (run_due w shown n r)

-- HoldsList y w r: if the input terms were accepted, the store has them, and they violate no rule
abbrev pub HoldsList : syntax.Spec → Store → Reading Reference → Type 0
HoldsList y w (reading.Refused r) = Unit {0}
HoldsList y w (reading.Good list) = HoldsTerms y w list

-- IsReady w r: if both texts were accepted, the store has the input terms, if any, and they violate
-- no rule
abbrev pub IsReady : Store → Reading Job → Type 0
IsReady w (reading.Refused r) = Unit {0}
IsReady w (reading.Good job) = ForSome job.list (HoldsTerms job.checked.spec w)

-- given_text y shown n u: the line of an input term, without the line end
abbrev pub given_text : syntax.Spec → Shown → ℕ → Tree → List ℕ
given_text y shown n u = evaluation_text (annotations u) shown n (Eval y n [] (term_of u))

-- given_lines y shown n ts: the lines of input terms
abbrev pub given_lines : syntax.Spec → Shown → ℕ → List Tree → List ℕ
given_lines y shown n ts = flat_map (λ u. given_text y shown n u ++ codes "\n") ts
