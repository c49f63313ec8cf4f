-- The specified output of a run of traces, and how the run ends.
--     task_text source y shown n task   the text that is written for a term
--     traces source y given shown n     the traces of the chosen EVAL terms and input terms
--     IsTraceDueFor shown n texts d     the output that is specified for the texts of a run
use Rattle.std.specs.Prelude.{ℕ, ◌≡◌, ◌<◌, ◌^◌, ◌||◌, Bool, true, false, not, List, [], ◌∷◌, ◌++◌}
use Rattle.std.specs.Prelude.{Option, Some, None, filter, flat_map, length, map, nat_eq}
use Rattle.rx_term.specs.Tree.{Tree}
use Rattle.rec_syntax.specs.Syntax.{Spec}
use Rattle.rec_sorts.specs.Binding.{tree_of}
use Rattle.rec_sorts.specs.SpecRules.{Verdict, Good, SpecVerdict, fault}
use Rattle.rx_run.specs.Due.{Due, done}
use Rattle.rec_run.specs.Output.{Shown as Lines}
use Rattle.rec_run.specs.Output.{Task, TermsVerdict, GoodTerms, IsTermsVerdict, bare, chosen}
use Rattle.rec_run.specs.Output.{due_of_spec, due_of_terms, each_line}
use Rattle.rec_run.specs.Run.{Texts}
use Rattle.rec_run.specs.declared.options.LimitLines.TheVariants.{Bare}
use Rattle.rec_run.specs.declared.options.TermChoice.{TermChoice}
use Rattle.rec_run.specs.declared.options.ValueForm.TheVariants.{Plain}
use Rattle.rx_run.specs.declared.term.reading.InputForm.TheVariants as input
use Rattle.rec_trace.specs.Lines.{begins_with_digit, firing_line, joined, term_lines, value_line}
use Rattle.rec_trace.specs.Lines.{whole_line, whole_text}
use Rattle.rec_trace.specs.Trace.{Firing, Trace}
use Rattle.rec_trace_run.specs.Picks.{Picks, all_picked, is_picked, picks_by, shown_lines}
use Rattle.rec_trace_run.specs.declared.options.TraceOptions.{TraceOptions}

-- the form of traces: whether whole terms are shown, whether the steps spent are, the largest
-- number of bytes of a term, the selection of rewrites, and the terms that are traced
pub record Shown : Type 0 where
  pub whole : Bool
  pub counted : Bool
  pub width : Option ℕ
  pub picked : Picks
  pub terms : TermChoice

-- the form of traces by these options
abbrev pub shown_by : TraceOptions → Shown
shown_by o = record {
  whole = o.whole;
  counted = o.run.count;
  width = o.width;
  picked = picks_by o.picked;
  terms = o.terms;
}

-- the form of the lines of evaluation that a trace has, and their terms
abbrev pub lines_shown : Shown → Lines
lines_shown shown = record {
  count = shown.counted;
  sizes = false;
  limits = Bare;
  form = Plain;
  terms = shown.terms;
  input = input.Term;
}

-- the line of a rewrite
abbrev pub step_line : List ℕ → Shown → ℕ → Firing → List ℕ
step_line source shown n f = elim shown.whole [
  | true ↦ whole_line source shown.counted shown.width n f
  | false ↦ firing_line source shown.counted shown.width n f
]

-- the lines of the selected rewrites
abbrev pub picked_lines : List ℕ → Shown → ℕ → List Firing → List (List ℕ)
picked_lines source shown n fs =
    map (step_line source shown n) (filter (is_picked source shown.picked) fs)

-- the line of the term itself, at `0:0:`, if whole terms are shown
abbrev pub first_lines : Shown → Tree → List (List ℕ)
first_lines shown u = elim shown.whole [
  | true ↦ whole_text 0 0 false shown.width 0 u ∷ []
  | false ↦ []
]

-- the lines of a term: itself if whole terms are shown, its rewrites, and its value or the step
-- limit
abbrev pub task_lines : List ℕ → Spec → Shown → ℕ → Task → List (List ℕ)
task_lines source y shown n task =
    let trace = Trace y n task.term in
    first_lines shown (tree_of task.term)
    ++ shown_lines shown.picked (picked_lines source shown n trace.firings)
    ++ value_line shown.counted n task.notes trace.outcome ∷ []

-- the text that is written for a term
abbrev pub task_text : List ℕ → Spec → Shown → ℕ → Task → List ℕ
task_text source y shown n task = joined (task_lines source y shown n task)

-- the lines of the chosen terms, each with the whole step limit
abbrev pub trace_lines : List ℕ → Spec → List Tree → Shown → ℕ → List (List ℕ)
trace_lines source y given shown n =
    flat_map (task_lines source y shown n) (chosen shown.terms y given)

-- the text of all these lines
abbrev pub traces : List ℕ → Spec → List Tree → Shown → ℕ → List ℕ
traces source y given shown n = joined (trace_lines source y given shown n)

-- the output after the verdict on the specification alone; an error is written as evaluation writes
-- it
abbrev pub trace_due_of_spec : List ℕ → Shown → ℕ → Verdict → Due
trace_due_of_spec source shown n (Good y) = done (traces source y [] shown n)
trace_due_of_spec source shown n v = due_of_spec (bare shown.counted) n v

-- the output after the verdict on the input terms; an error is written as evaluation writes it
abbrev pub trace_due_of_terms : List ℕ → Spec → Shown → ℕ → TermsVerdict → Due
trace_due_of_terms source y shown n (GoodTerms ts) = done (traces source y ts shown n)
trace_due_of_terms source y shown n v = due_of_terms y (bare shown.counted) n v

-- the output after the verdict on the specification; input terms are checked only after a good one
abbrev pub IsTraceDueAfter : List ℕ → Verdict → Option (List ℕ) → Shown → ℕ → Due → Type 0
IsTraceDueAfter source (Good y) (Some terms) shown n d = (v : TermsVerdict)
    × IsTermsVerdict y terms v × (d ≡ trace_due_of_terms source y shown n v)
IsTraceDueAfter source v terms shown n d = d ≡ trace_due_of_spec source shown n v

-- the output that is specified for the texts of a run
abbrev pub IsTraceDueFor : Shown → ℕ → Texts → Due → Type 0
IsTraceDueFor shown n texts d = (v : Verdict) × SpecVerdict texts.spec v
    × IsTraceDueAfter texts.spec v texts.terms shown n d

-- the texts of a run have at most one specified output
abbrev pub OneTraceDue : Type 0
OneTraceDue = (shown : Shown) (n : ℕ) (texts : Texts) (d e : Due)
    → IsTraceDueFor shown n texts d → IsTraceDueFor shown n texts e → d ≡ e

-- if all rewrites are selected, the lines of a term are those of its trace, with one for each
-- rewrite
abbrev pub WholeTraceLaw : Type 0
WholeTraceLaw = (source : List ℕ) (y : Spec) (shown : Shown) (n : ℕ) (task : Task)
    → shown.picked ≡ all_picked → task_lines source y shown n task
    ≡ term_lines source y shown.whole shown.counted shown.width n task.term task.notes

-- a text begins with a `.`
abbrev pub begins_with_dot : List ℕ → Bool
begins_with_dot [] = false
begins_with_dot (b ∷ bs) = nat_eq b 46

-- the lines of a trace that begin with neither a digit nor a `.` are the lines of evaluation
abbrev pub ValuesLaw : Type 0
ValuesLaw = (source : List ℕ) (y : Spec) (given : List Tree) (shown : Shown) (n : ℕ)
    → fault y ≡ None → length source < 2 ^ 63
    → filter (λ l. not (begins_with_digit l || begins_with_dot l))
    (trace_lines source y given shown n)
    ≡ each_line y given (lines_shown shown) n

-- without `first` and `last`, the lines that begin with no digit are the lines of evaluation
abbrev pub DigitsLaw : Type 0
DigitsLaw = (source : List ℕ) (y : Spec) (given : List Tree) (shown : Shown) (n : ℕ)
    → shown.picked.first ≡ None → shown.picked.last ≡ None
    → fault y ≡ None → length source < 2 ^ 63
    → filter (λ l. not (begins_with_digit l)) (trace_lines source y given shown n)
    ≡ each_line y given (lines_shown shown) n
