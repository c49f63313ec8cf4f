-- Chosen terms of two texts, from their bytes to what is due.
use Rattle.std.proofs.Common.{refl}
use Rattle.std.specs.Prelude.{ℕ, List, [], ◌∷◌, ◌++◌, codes, false, true, Option, Some, None}
use Rattle.std.specs.Fmt.{digits}
use Rattle.rec_sorts.specs.Evaluation.{Eval}
use Rattle.rx_run.specs.Due.{Due}
use Rattle.rx_run.specs.declared.ending.Finish.TheVariants.{Done, Refused}
use Rattle.rx_run.specs.declared.ending.Named.TheVariants as named
use Rattle.rx_run.specs.declared.ending.Place.{Place}
use Rattle.rx_run.specs.declared.ending.Source.TheVariants as source
use Rattle.rx_run.specs.declared.term.reading.InputForm.{InputForm}
use Rattle.rx_run.specs.declared.term.reading.InputForm.TheVariants as form
use Rattle.rec_run.specs.declared.options.LimitLines.TheVariants.{Annotated}
use Rattle.rec_run.specs.declared.options.TermChoice.{TermChoice}
use Rattle.rec_run.specs.declared.options.TermChoice.TheVariants.{All, Input, Nth}
use Rattle.rec_run.specs.declared.options.ValueForm.TheVariants.{Plain}
use Rattle.rec_run.proofs.DueOfTextLemmas.{AreDue, Row, rows_due}

-- these lines are due
abbrev lines : List ℕ → Due
lines text = record { finish = Done; text = text; place = None }

-- this error line is due
abbrev refused : List ℕ → Option Place → Due
refused text place = record { finish = Refused; text = text; place = place }

-- two terms of its own: one step, and three steps
abbrev addition : List ℕ
addition = codes "REC-SPEC Add\nSORTS Nat\nCONS\n  z : -> Nat\n  s : Nat -> Nat\nOPNS\n  plus : Nat Nat -> Nat\n"
    ++ codes "VARS\n  X Y : Nat\nRULES\n  plus(z,Y) -> Y\n  plus(s(X),Y) -> s(plus(X,Y))\n"
    ++ codes "EVAL\n  plus(z,z) plus(s(s(z)),z)\nEND-SPEC\n"

-- chosen terms of it and of given terms, within two steps
abbrev chosen_in : InputForm → TermChoice → List ℕ → Due → Row
chosen_in input terms given due = record {
  spec = addition;
  terms = Some given;
  shown = record { count = true; sizes = false; limits = Annotated; form = Plain; terms = terms; input = input };
  steps = 2;
  due = due;
}

abbrev chosen : TermChoice → List ℕ → Due → Row
chosen = chosen_in form.Term

-- input terms from a table
abbrev tabled : List ℕ → Due → Row
tabled = chosen_in form.Table Input

-- two given terms: two steps, and none
abbrev two : List ℕ
two = codes "[plus(s(z),s(z)){id(1)},z{a}]"

abbrev runs : List Row
runs =
    chosen All two (lines (codes "z\t1\n!limit 2\ns(s(z)){id(1)}\t2\nz{a}\t0\n")) ∷
    -- the given terms
    chosen Input two (lines (codes "s(s(z)){id(1)}\t2\nz{a}\t0\n")) ∷
    -- the first and the last term of its own
    chosen (Nth 1) two (lines (codes "z\t1\n")) ∷
    chosen (Nth 2) two (lines (codes "!limit 2\n")) ∷
    -- the first and the last given term
    chosen (Nth 3) two (lines (codes "s(s(z)){id(1)}\t2\n")) ∷
    chosen (Nth 4) two (lines (codes "z{a}\t0\n")) ∷
    -- no term has such a number
    chosen (Nth 0) two (lines (codes "")) ∷
    chosen (Nth 5) two (lines (codes "")) ∷
    -- without given terms
    chosen Input (codes "[]") (lines (codes "")) ∷
    chosen (Nth 2) (codes "[]") (lines (codes "!limit 2\n")) ∷
    chosen (Nth 3) (codes "[]") (lines (codes "")) ∷
    -- the annotations of a limit line
    chosen (Nth 3) (codes "[plus(s(s(z)),z){a}]") (lines (codes "!limit 2{a}\n")) ∷
    -- a given term that is not chosen breaks a rule
    chosen (Nth 1) (codes "[z,plus]") (refused (codes "!terms T5\n") None) ∷
    -- a table of a list of two terms that share a subterm
    tabled (codes "[s(z),[plus(<0>,<0>){a},s(<0>)]]") (lines (codes "s(s(z)){a}\t2\ns(s(z))\t0\n")) ∷
    -- a term that is not a list, and a list with annotations
    tabled (codes "f(a)") (refused (codes "!terms R1\n") None) ∷
    tabled (codes "[z]{a}") (refused (codes "!terms R1\n") None) ∷
    -- an element that does not open
    tabled (codes "[<0>]") (refused (codes "!terms R2\n") None) ∷
    tabled (codes "[z,<1>]") (refused (codes "!terms R2\n") None) ∷
    -- a table of a term that is not a list, and a table of a list that violates a rule
    tabled (codes "[z,s(<0>)]") (refused (codes "!terms T1\n") None) ∷
    tabled (codes "[z,[<0>,plus(<0>)]]") (refused (codes "!terms T5\n") None) ∷
    -- a syntax error
    tabled (codes "[z,") (refused (codes "!terms A\n") (Some (record { text = source.Terms; rule = named.A; at = 3 }))) ∷
    []

evaluated_choices : AreDue runs
unfolding Eval digits
evaluated_choices = rows_due runs refl refl
