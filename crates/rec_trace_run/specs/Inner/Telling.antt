-- How the events of a tracer become the lines of a trace.
use Rattle.std.specs.Prelude.{ℕ, ◌-◌, ◌≡◌, ◌<◌, ◌≤◌, ◌++◌, ◌∷◌, Bool, true, false, List, []}
use Rattle.std.specs.Prelude.{Option, Some, None, Vec, codes, decimal, drop, flat_map}
use Rattle.std.specs.Prelude.{if◌then◌else◌, length, map, take}
use Rattle.std.specs.Option.{option_to_list}
use Rattle.std.specs.declared.alloc.Global.{Global}
use Rattle.rx_term.specs.Tree.{Tree, annotations}
use Rattle.rx_term.specs.Store.{Store, tree_at}
use Rattle.rx_text.specs.Canon.{canon}
use Rattle.rec_syntax.specs.Syntax.{Spec, Term}
use Rattle.rec_engine.specs.Engine.{Spells}
use Rattle.rec_run.specs.Reading.{term_at}
use Rattle.rec_sorts.specs.SpecRules.{fault}
use Rattle.rec_trace_run.specs.declared.beginning.Beginning.{Beginning}
use Rattle.rec_trace_run.specs.declared.beginning.Beginning.TheVariants.{Eval, Given}
use Rattle.rec_trace_run.specs.declared.section.Section.{Section}
use Rattle.rec_sorts.specs.Binding.{tree_of}
use Rattle.rec_sorts.specs.Evaluation as evaluation
use Rattle.rec_sorts.specs.Laws.{Every}
use Rattle.rec_sorts.specs.Numbering.{AreLetters, Pairwise}
use Rattle.rec_sorts.specs.TermRules.{broken_by_elements}
use Rattle.rec_sorts.specs.declared.letters.Letter.{Letter}
use Rattle.rec_engine.specs.declared.engine.Outcome.{Outcome}
use Rattle.rec_engine.specs.declared.engine.Outcome.TheVariants.{Value, Limit}
use Rattle.rx_run.specs.Due.{steps_text}
use Rattle.rec_run.specs.GivenTerms.{item_at}
use Rattle.rec_run.specs.Output.{given_task, notes_text}
use Rattle.rec_trace.specs.Lines.{whole_text}
use Rattle.rec_trace.specs.States.{firing_then}
use Rattle.rec_trace.specs.Trace.{Firing, Trace, Traced}
use Rattle.rec_trace.specs.Tracing.{Stands, rest_of, whole_of}
use Rattle.rec_trace.specs.declared.tracer.Tracer.{Tracer}
use Rattle.rec_trace_run.specs.Picks.{Picks}
use Rattle.rec_trace.specs.Lines.{rule_spot}
use Rattle.rec_trace_run.specs.Traces.{Shown, picked_lines, shown_by, task_text}
use Rattle.rec_trace_run.specs.declared.given.GivenTerms.{GivenTerms}
use Rattle.rec_trace_run.specs.declared.next.TracePart.{TracePart}
use Rattle.rec_trace_run.specs.declared.next.TracePart.TheVariants.{Rewrite, End}
use Rattle.rec_trace_run.specs.declared.options.TraceOptions.{TraceOptions}
use Rattle.rec_trace_run.specs.declared.telling.Telling.{Telling}

-- the data has the locations of a specification's rules in its text
abbrev pub IsTelling : List ℕ → Spec → Telling → Type 0
IsTelling source y t = t.spots.items ≡ map (rule_spot source) y.rules

-- the lines of the selected rewrites of a term
abbrev pub lines_of : List ℕ → Spec → TraceOptions → Term → List (List ℕ)
lines_of source y o t = picked_lines source (shown_by o) o.run.steps (Trace y o.run.steps t).firings

-- the line of the outcome of a term, with the text of its annotations
abbrev pub end_line : Bool → ℕ → List ℕ → evaluation.Outcome Tree → List ℕ
end_line counted n notes (evaluation.Done v left) =
    canon v ++ notes ++ steps_text counted (n - left) ++ codes "\n"
end_line counted n notes evaluation.Over = codes "!limit " ++ decimal n ++ codes "\n"

-- the largest number of lines that are shown at the beginning; all with `None`
abbrev pub front_most : Picks → Option ℕ
front_most p = elim p.first [
  | Some n ↦ Some n
  | None ↦ elim p.last [ Some n ↦ Some 0 | None ↦ None ]
]

-- the lines with the numbers `from`, .. below `upto`; with `None`, all from `from` on
abbrev pub lines_between : ℕ → Option ℕ → List (List ℕ) → List (List ℕ)
lines_between from upto ls = drop from (elim upto [ Some n ↦ take n ls | None ↦ ls ])

-- the lines of a section of the selected rewrites
abbrev pub section_lines : Section → List (List ℕ) → List (List ℕ)
section_lines s ls = lines_between s.from s.upto ls

-- both sections have the same rewrites
pub record HasBounds (old new : Section) : Type 0 where
  pub from : new.from ≡ old.from
  pub upto : new.upto ≡ old.upto

-- a section has the line after those that were counted if and only if `here`
abbrev pub AddsIf : Section → Bool → Type 0
AddsIf s here = (ls : List (List ℕ)) (l : List ℕ) → s.seen ≡ length ls
    → section_lines s (ls ++ l ∷ []) ≡ section_lines s ls ++ (if here then l ∷ [] else [])

-- the texts of lines
abbrev pub texts_of : List (Vec ℕ Global) → List (List ℕ)
texts_of lines = map (λ (line : Vec ℕ Global). line.items) lines

-- at most `n` steps are left at the end
abbrev pub LeavesWithin : ℕ → evaluation.Outcome Tree → Type 0
LeavesWithin n (evaluation.Done v left) = left ≤ n
LeavesWithin n evaluation.Over = Unit {0}

-- at most `n` steps are left at each rewrite and at the end
pub record IsWithin (n : ℕ) (t : Traced Tree) : Type 0 where
  pub firings : Every (λ (f : Firing). f.left ≤ n) t.firings
  pub outcome : LeavesWithin n t.outcome

-- the outcome of a tracer is that of a trace
abbrev pub IsEnd : Store → ℕ → evaluation.Outcome Tree → Outcome → Type 0
IsEnd w n o (Value t steps) = (v : Tree) × (left : ℕ) × (tree_at w t ≡ Some v)
    × (o ≡ evaluation.Done v left) × (steps ≡ n - left)
IsEnd w n o Limit = o ≡ evaluation.Over

-- the step limit was too low
abbrev pub is_passed : evaluation.Outcome Tree → Bool
is_passed (evaluation.Done v left) = false
is_passed evaluation.Over = true

-- the line of the outcome of a trace, without the line end
abbrev pub end_text : Store → Bool → ℕ → List ℕ → Outcome → List ℕ
end_text w counted n notes (Value t steps) =
    canon (item_at w t) ++ notes ++ steps_text counted steps
end_text w counted n notes Limit = codes "!limit " ++ decimal n

-- a section after one more rewrite, with the line that is written for it, if one is
pub record TakesUp (source : List ℕ) (options : TraceOptions) (before : List (List ℕ)) (f : Firing)
    (old new : Section) (line : Option (Vec ℕ Global)) : Type 0 where
  pub counted : new.seen
      ≡ length (before ++ picked_lines source (shown_by options) options.run.steps (f ∷ []))
  pub lines : section_lines old
      (before ++ picked_lines source (shown_by options) options.run.steps (f ∷ []))
      ≡ section_lines old before ++ texts_of (option_to_list line)

-- a rule was applied, and its rewrite was counted; `line` is the line that is written for it, if
-- one is
pub record HasTold (y : Spec) (w w' : Store) (old new : Tracer) (telling : Telling)
    (section section' : Section) (line : Option (Vec ℕ Global)) : Type 0 where
  pub firing : Firing
  pub next : rest_of y w old ≡ firing_then firing (rest_of y w' new)
  pub stands : Stands y w' new
  pub bounds : HasBounds section section'
  pub told : (source : List ℕ) (before : List (List ℕ)) → IsTelling source y telling
      → section.seen ≡ length before
      → TakesUp source telling.options before firing section section' line

-- the next part of a trace: a rewrite; or, if no rewrite is left, the outcome
abbrev pub IsPart : Spec → Store → Store → Tracer → Tracer → Telling → Section → Section
    → TracePart → Type 0
IsPart y w w' old new telling section section' (Rewrite line) =
    HasTold y w w' old new telling section section' line
IsPart y w w' old new telling section section' (End o) = (section' ≡ section)
    × ((rest_of y w old).firings ≡ [])
    × IsEnd w' telling.options.run.steps (rest_of y w old).outcome o

-- a term is the one that is traced
abbrev pub IsTermOf : Spec → Beginning → Term → Type 0
IsTermOf y (Eval i) t = (i < length y.terms) × (t ≡ term_at y i)
IsTermOf y (Given letters) t =
    (u : Tree) × Spells y letters.now u × (t ≡ evaluation.term_of u)

-- the outcome of a term's trace; the specification violates no rule
pub record EndsIn (y : Spec) (w : Store) (n : ℕ) (t : Term) (o : Outcome) : Type 0 where
  pub good : fault y ≡ None
  pub outcome : IsEnd w n (Trace y n t).outcome o

-- a tracer is at the beginning of a term's trace
pub record Begins (y : Spec) (w : Store) (n : ℕ) (tracer : Tracer) (t : Term) : Type 0 where
  pub stands : Stands y w tracer
  pub trace : rest_of y w tracer ≡ Trace y n t
  pub whole : whole_of y w tracer ≡ tree_of t

-- a text is the text of a tree's annotations
abbrev pub HasNotes : Vec ℕ Global → Tree → Type 0
HasNotes text u = text.items ≡ notes_text (annotations u)

-- the postfix items of input terms that violate no rule, and the texts of their annotations
pub record AreGivenTerms (y : Spec) (us : List Tree) (g : GivenTerms) : Type 0 where
  pub letters : Pairwise (λ (ls : Vec Letter Global) (u : Tree).
      AreLetters y ls.items (evaluation.term_of u)) g.letters.items us
  pub notes : Pairwise HasNotes g.notes.items us
  pub kept : broken_by_elements y us ≡ None

-- the text that is written before the first rewrite of a term
abbrev pub first_text : Shown → Tree → List ℕ
first_text shown u = elim shown.whole [ true ↦ whole_text 0 0 false shown.width 0 u | false ↦ [] ]

-- the traces of input terms
abbrev pub given_traces : List ℕ → Spec → Shown → ℕ → List Tree → List ℕ
given_traces source y shown n us = flat_map (λ u. task_text source y shown n (given_task u)) us
