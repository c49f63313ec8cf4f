-- The result of reading the text of a specification, and the lines of its terms.
use Rattle.std.specs.Prelude.{ℕ, ◌≡◌, ◌-◌, List, [], Option, Some, None, get_or}
use Rattle.rx_term.specs.Tree.{Tree, Trees, annotated, none}
use Rattle.rec_syntax.specs.Syntax.{Term, Apply, Sourced, Spec, nameless}
use Rattle.rec_syntax.specs.Syntax as syntax
use Rattle.rec_sorts.specs.SpecRules as verdict
use Rattle.rec_sorts.specs.SpecRules.{SpecVerdict, Verdict}
use Rattle.rec_sorts.specs.Evaluation as evaluation
use Rattle.rec_sorts.specs.Evaluation.{Eval}
use Rattle.rec_run.specs.Output.{Shown, Task, limit_text, value_line}
use Rattle.rx_run.specs.declared.ending.Source.TheVariants as source
use Rattle.rx_run.specs.declared.refusal.Reading.{Reading}
use Rattle.rx_run.specs.declared.refusal.Reading.TheVariants as reading
use Rattle.rx_run.specs.declared.refusal.Reason.TheVariants as reason
use Rattle.rx_run.specs.declared.refusal.Refusal.{Refusal}

-- refused_spec v: the error of a rejected specification
abbrev pub refused_spec : Verdict → Option Refusal
refused_spec verdict.Long = Some (record { text = source.Spec; reason = reason.Long })
refused_spec (verdict.Grammar at) = Some (record { text = source.Spec; reason = reason.Grammar at })
refused_spec (verdict.Breaks f) =
    Some (record { text = source.Spec; reason = reason.Rule f.number f.at })
refused_spec (verdict.Good y) = None

-- IsSpecReading r v: `r` is the result of reading a specification for the verdict `v`
abbrev pub IsSpecReading : Reading Sourced → Verdict → Type 0
IsSpecReading (reading.Refused r) v = refused_spec v ≡ Some r
IsSpecReading (reading.Good checked) v = v ≡ verdict.Good checked.spec

-- IsSpecRead text r: `r` is the result of reading a specification for the verdict on `text`
abbrev pub IsSpecRead : List ℕ → Reading Sourced → Type 0
IsSpecRead text r = (v : Verdict) × SpecVerdict text v × IsSpecReading r v

-- IsGood r: the specification was accepted
abbrev pub IsGood : Reading Sourced → Type 0
IsGood (reading.Refused r) = ⊥
IsGood (reading.Good checked) = Unit {0}

-- KeepsText text r: an accepted specification keeps its text
abbrev pub KeepsText : List ℕ → Reading Sourced → Type 0
KeepsText text (reading.Refused r) = Unit {0}
KeepsText text (reading.Good checked) = checked.source ≡ text

-- evaluation_text notes shown n o: the line of an evaluation with `n` steps and annotations,
-- without the line end
abbrev pub evaluation_text : Trees → Shown → ℕ → evaluation.Outcome Tree → List ℕ
evaluation_text notes shown n (evaluation.Done v left) =
    value_line shown notes (n - left) (annotated v notes)
evaluation_text notes shown n evaluation.Over = limit_text shown.limits n notes

-- line_text y shown n t: the line of a term without annotations, without the line end
abbrev pub line_text : Spec → Shown → ℕ → Term → List ℕ
line_text y shown n t = evaluation_text none shown n (Eval y n [] t)

-- term_at y i: term number `i` of the specification's terms
abbrev pub term_at : Spec → ℕ → Term
term_at y i = get_or y.terms i (Apply nameless syntax.none)

-- own_task y i: term number `i` of the specification, without annotations
abbrev pub own_task : Spec → ℕ → Task
own_task y i = record { term = term_at y i; notes = none }

-- text_at y shown n i: the line of term number `i` of the specification, without the line end
abbrev pub text_at : Spec → Shown → ℕ → ℕ → List ℕ
text_at y shown n i = line_text y shown n (term_at y i)
