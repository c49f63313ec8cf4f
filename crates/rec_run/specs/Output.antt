-- The specified output of a run: its lines or its error line, and the location of the error.
use Rattle.std.specs.Prelude.{ℕ, zero, suc, ◌-◌, ◌≡◌, ◌<◌, length, Option, Some, None, Bool, List}
use Rattle.std.specs.Prelude.{[], ◌++◌, codes, decimal, drop, false, if◌then◌else◌, map, flat_map}
use Rattle.std.specs.Prelude.{nat_le, take, true}
use Rattle.std.specs.List.{count_by}
use Rattle.rx_term.specs.Parts.{part_count}
use Rattle.rx_term.specs.Tree.{Tree, Trees, none, annotated, annotations}
use Rattle.rx_text.specs.Grammar.{Spells}
use Rattle.rx_text.specs.Place.{IsFaultPlace}
use Rattle.rx_text.specs.Canon.{canon, canon_all, enclosed}
use Rattle.rx_table.specs.Opened.{broken_by_table, broken_element, tree_of_table}
use Rattle.rx_table.specs.Table.{table}
use Rattle.rec_syntax.specs.Syntax.{Term, Spec}
use Rattle.rec_sorts.specs.TermRules.{broken_by_terms, elements}
use Rattle.rec_sorts.specs.SpecRules.{Verdict, Long, Grammar, Breaks, Good, SpecVerdict, Fits}
use Rattle.rec_sorts.specs.Evaluation.{Done, Over, Eval, term_of}
use Rattle.rx_run.specs.Due.{Due, done, refused, steps_text}
use Rattle.rx_run.specs.declared.ending.Source.TheVariants as source
use Rattle.rx_run.specs.declared.ending.Named.TheVariants as named
use Rattle.rx_run.specs.declared.term.reading.InputForm.{InputForm}
use Rattle.rx_run.specs.declared.term.reading.InputForm.TheVariants as input_form
use Rattle.rec_run.specs.declared.options.LimitLines.{LimitLines}
use Rattle.rec_run.specs.declared.options.LimitLines.TheVariants.{Bare, Annotated}
use Rattle.rec_run.specs.declared.options.RunSettings.{RunSettings}
use Rattle.rec_run.specs.declared.options.TermChoice.{TermChoice}
use Rattle.rec_run.specs.declared.options.TermChoice.TheVariants.{All, Input, Nth}
use Rattle.rec_run.specs.declared.options.ValueForm.{ValueForm}
use Rattle.rec_run.specs.declared.options.ValueForm.TheVariants.{Plain, Within, Table}
use Rattle.rec_run.specs.declared.spec.counts.Counts.{Counts}

-- Task: a term to be evaluated, and the annotations that its value gets
pub record Task : Type 0 where
  pub term : Term
  pub notes : Trees

-- Shown: the form of lines: whether the numbers of steps and of cells follow a value, the form of
-- limit lines and the form of values; the terms that have a line, and the form in which input terms
-- are read
pub record Shown : Type 0 where
  pub count : Bool
  pub sizes : Bool
  pub limits : LimitLines
  pub form : ValueForm
  pub terms : TermChoice
  pub input : InputForm

-- shown_by count limits form: limit lines of the form `limits` and values of the form `form`
-- without their numbers of cells, for all terms; input terms are a text
abbrev pub shown_by : Bool → LimitLines → ValueForm → Shown
shown_by count limits form = record {
  count = count;
  sizes = false;
  limits = limits;
  form = form;
  terms = All;
  input = input_form.Term;
}

-- bare count: limit lines without annotations and values of any length, for all terms
abbrev pub bare : Bool → Shown
bare count = shown_by count Bare Plain

-- shown_of s: the form of lines and the terms that the settings select
abbrev pub shown_of : RunSettings → Shown
shown_of s = record {
  count = s.options.count;
  sizes = s.sizes;
  limits = s.limits;
  form = s.form;
  terms = s.terms;
  input = s.input;
}

-- own_shown shown: the form of the lines of terms without annotations: limit lines have none
abbrev pub own_shown : Shown → Shown
own_shown shown = record shown { limits = Bare; terms = All }

-- notes_text notes: annotations in braces; empty if there are none
abbrev pub notes_text : Trees → List ℕ
notes_text notes = enclosed 123 notes (canon_all notes) 125 []

-- limit_text limits n notes: `!limit`, the step limit and, in this form, the annotations of the
-- term
abbrev pub limit_text : LimitLines → ℕ → Trees → List ℕ
limit_text Bare n notes = codes "!limit " ++ decimal n
limit_text Annotated n notes = codes "!limit " ++ decimal n ++ notes_text notes

-- bytes_text limits most notes: `!bytes`, the largest number of bytes of a value and, in this form,
-- the annotations of the term
abbrev pub bytes_text : LimitLines → ℕ → Trees → List ℕ
bytes_text Bare most notes = codes "!bytes " ++ decimal most
bytes_text Annotated most notes = codes "!bytes " ++ decimal most ++ notes_text notes

-- Printed: the text of a value, or the number of bytes that it exceeds
pub data Printed : Type 0 where
  Whole : List ℕ → Printed
  Longer : (most : ℕ) → Printed

-- printed form u: the value `u` in the form of values: its text, its text within a bound, or the
-- text of its table
abbrev pub printed : ValueForm → Tree → Printed
printed Plain u = Whole (canon u)
printed (Within most) u = if nat_le (length (canon u)) most then Whole (canon u) else Longer most
printed Table u = Whole (canon (table u))

-- is_longer p: the value has more bytes than the form allows
abbrev pub is_longer : Printed → Bool
is_longer (Whole text) = false
is_longer (Longer most) = true

-- sized sizes u text: a text and, if `sizes` is true, a tab and the number of cells of the value `u`
abbrev pub sized : Bool → Tree → List ℕ → List ℕ
sized false u text = text
sized true u text = text ++ codes "\t" ++ decimal (part_count u)

-- figures shown steps u: the text after the value `u`: its number of steps and its number of cells,
-- each if it is printed
abbrev pub figures : Shown → ℕ → Tree → List ℕ
figures shown steps u = sized shown.sizes u (steps_text shown.count steps)

-- value_text limits notes numbers p: the line of a value, without the line end: its text and the text
-- `numbers`, or `!bytes`
abbrev pub value_text : LimitLines → Trees → List ℕ → Printed → List ℕ
value_text limits notes numbers (Whole text) = text ++ numbers
value_text limits notes numbers (Longer most) = bytes_text limits most notes

-- value_line shown notes steps u: the line of the value `u` after so many steps, without the line end
abbrev pub value_line : Shown → Trees → ℕ → Tree → List ℕ
value_line shown notes steps u =
    value_text shown.limits notes (figures shown steps u) (printed shown.form u)

-- line y shown n task: the line of a term: its normal form with the annotations of the term, or a
-- limit line
abbrev pub line : Spec → Shown → ℕ → Task → List ℕ
line y shown n task = elim (Eval y n [] task.term) [
  | Done v left ↦
      value_line shown task.notes (n - left) (annotated v task.notes) ++ codes "\n"
  | Over ↦ limit_text shown.limits n task.notes ++ codes "\n"
]

-- given_task t: an input term without its annotations, and the annotations
abbrev pub given_task : Tree → Task
given_task t = record { term = term_of t; notes = annotations t }

-- tasks y given: the terms of the specification, and then the input terms
abbrev pub tasks : Spec → List Tree → List Task
tasks y given = map (λ t. record { term = t; notes = none }) y.terms ++ map given_task given

-- nth k xs: the item with the number `k`, counted from 1, alone; none if there are fewer
abbrev pub nth : {X : Type 0} → ℕ → List X → List X
nth zero xs = []
nth (suc i) xs = take 1 (drop i xs)

-- chosen terms y given: the tasks that have a line
abbrev pub chosen : TermChoice → Spec → List Tree → List Task
chosen All y given = tasks y given
chosen Input y given = map given_task given
chosen (Nth k) y given = nth k (tasks y given)

-- each_line y given shown n: the lines of the chosen terms, each with the whole step limit
abbrev pub each_line : Spec → List Tree → Shown → ℕ → List (List ℕ)
each_line y given shown n = map (line y shown n) (chosen shown.terms y given)

-- lines y given shown n: the lines of the chosen terms, one after another
abbrev pub lines : Spec → List Tree → Shown → ℕ → List ℕ
lines y given shown n = flat_map (λ l. l) (each_line y given shown n)

-- is_limited y form n task: the line of a term is a limit line: it begins with `!limit` or `!bytes`,
-- since the step limit is too low or the value is longer than the form allows
abbrev pub is_limited : Spec → ValueForm → ℕ → Task → Bool
is_limited y form n task = elim (Eval y n [] task.term) [
  | Done v left ↦ is_longer (printed form (annotated v task.notes))
  | Over ↦ true
]

-- limit_lines terms y given form n: the number of limit lines of the chosen terms
abbrev pub limit_lines : TermChoice → Spec → List Tree → ValueForm → ℕ → ℕ
limit_lines terms y given form n = count_by (is_limited y form n) (chosen terms y given)

-- counts_of terms y given form n: the numbers of lines and of limit lines of the chosen terms
abbrev pub counts_of : TermChoice → Spec → List Tree → ValueForm → ℕ → Counts
counts_of terms y given form n = record {
  lines = length (chosen terms y given);
  limit_lines = limit_lines terms y given form n;
}

-- given_limits y form n us: the number of limit lines of input terms
abbrev pub given_limits : Spec → ValueForm → ℕ → List Tree → ℕ
given_limits y form n us = count_by (λ u. is_limited y form n (given_task u)) us

-- TermsVerdict: a text of input terms is too long, has a syntax error at an offset, is not a table,
-- is a table with an element that does not open, violates a rule, or is accepted with these terms
pub data TermsVerdict : Type 0 where
  TooLong : TermsVerdict
  Outside : (at : ℕ) → TermsVerdict
  NoTable : TermsVerdict
  NoElement : (number : ℕ) → TermsVerdict
  BreaksTerms : (number : ℕ) → TermsVerdict
  GoodTerms : List Tree → TermsVerdict

-- IsTermsVerdict y bytes v: `v` is the verdict on a text of input terms, for a specification that
-- violates no rule
abbrev pub IsTermsVerdict : Spec → List ℕ → TermsVerdict → Type 0
IsTermsVerdict y bytes TooLong = 16777216 < length bytes
IsTermsVerdict y bytes (Outside at) = Fits bytes × IsFaultPlace bytes at
IsTermsVerdict y bytes NoTable = ⊥
IsTermsVerdict y bytes (NoElement number) = ⊥
IsTermsVerdict y bytes (BreaksTerms number) = Fits bytes
    × ((t : Tree) × Spells bytes t × (broken_by_terms y t ≡ Some number))
IsTermsVerdict y bytes (GoodTerms ts) = Fits bytes
    × ((t : Tree) × Spells bytes t × (broken_by_terms y t ≡ None) × (elements t ≡ Some ts))

-- IsTableVerdict y bytes v: `v` is the verdict on the text of a table of input terms
abbrev pub IsTableVerdict : Spec → List ℕ → TermsVerdict → Type 0
IsTableVerdict y bytes TooLong = 16777216 < length bytes
IsTableVerdict y bytes (Outside at) = Fits bytes × IsFaultPlace bytes at
IsTableVerdict y bytes NoTable = Fits bytes
    × ((t : Tree) × Spells bytes t × (broken_by_table t ≡ Some 1))
IsTableVerdict y bytes (NoElement number) = Fits bytes
    × ((t : Tree) × Spells bytes t × (broken_by_table t ≡ Some 2)
    × (broken_element t ≡ Some number))
IsTableVerdict y bytes (BreaksTerms number) = Fits bytes
    × ((t u : Tree) × Spells bytes t × (tree_of_table t ≡ Some u)
    × (broken_by_terms y u ≡ Some number))
IsTableVerdict y bytes (GoodTerms ts) = Fits bytes
    × ((t u : Tree) × Spells bytes t × (tree_of_table t ≡ Some u) × (broken_by_terms y u ≡ None)
    × (elements u ≡ Some ts))

-- IsGivenVerdict input y bytes v: `v` is the verdict on input terms that are read in this form
abbrev pub IsGivenVerdict : InputForm → Spec → List ℕ → TermsVerdict → Type 0
IsGivenVerdict input_form.Term = IsTermsVerdict
IsGivenVerdict input_form.Table = IsTableVerdict

-- due_of_spec shown n v: the specified output after the verdict on a specification without input
-- terms
abbrev pub due_of_spec : Shown → ℕ → Verdict → Due
due_of_spec shown n Long = refused (codes "!spec ") (codes "L1") None
due_of_spec shown n (Grammar at) = refused (codes "!spec ") (codes "G")
    (Some (record { text = source.Spec; rule = named.G; at = at }))
due_of_spec shown n (Breaks f) = refused (codes "!spec ") (codes "S" ++ decimal f.number)
    (Some (record { text = source.Spec; rule = named.S f.number; at = f.at }))
due_of_spec shown n (Good y) = done (lines y [] shown n)

-- due_of_terms y shown n v: the specified output after the verdict on the input terms
abbrev pub due_of_terms : Spec → Shown → ℕ → TermsVerdict → Due
due_of_terms y shown n TooLong = refused (codes "!terms ") (codes "L1") None
due_of_terms y shown n (Outside at) = refused (codes "!terms ") (codes "A")
    (Some (record { text = source.Terms; rule = named.A; at = at }))
due_of_terms y shown n NoTable = refused (codes "!terms ") (codes "R1") None
due_of_terms y shown n (NoElement number) = refused (codes "!terms ") (codes "R2") None
due_of_terms y shown n (BreaksTerms number) = refused (codes "!terms ")
    (codes "T" ++ decimal number) None
due_of_terms y shown n (GoodTerms ts) = done (lines y ts shown n)

-- IsDueAfter v terms shown n d: `d` is the specified output after the verdict on the specification;
-- the input terms count only if it is accepted
abbrev pub IsDueAfter : Verdict → Option (List ℕ) → Shown → ℕ → Due → Type 0
IsDueAfter (Good y) (Some terms) shown n d = (v : TermsVerdict)
    × IsGivenVerdict shown.input y terms v × (d ≡ due_of_terms y shown n v)
IsDueAfter v terms shown n d = d ≡ due_of_spec shown n v

-- IsDue spec terms shown n d: `d` is the specified output for the text of a specification and the
-- text of input terms, if any
abbrev pub IsDue : List ℕ → Option (List ℕ) → Shown → ℕ → Due → Type 0
IsDue spec terms shown n d = (v : Verdict) × SpecVerdict spec v × IsDueAfter v terms shown n d
