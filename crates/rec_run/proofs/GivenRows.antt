-- Two texts, of a specification and of given terms, from their bytes to what is due.
use Rattle.std.proofs.Common.{refl}
use Rattle.std.specs.Prelude.{ℕ, List, [], ◌∷◌, ◌++◌, Bool, codes, true, false, Option, Some, None}
use Rattle.std.specs.Fmt.{digits}
use Rattle.rec_sorts.specs.Evaluation.{Eval}
use Rattle.rx_run.specs.Due.{Due}
use Rattle.rx_run.specs.declared.ending.Finish.TheVariants.{Done, Refused}
use Rattle.rx_run.specs.declared.ending.Named.TheVariants.{A, S}
use Rattle.rx_run.specs.declared.ending.Place.{Place}
use Rattle.rx_run.specs.declared.ending.Source.TheVariants.{Spec, Terms}
use Rattle.rec_run.specs.Output.{bare}
use Rattle.rec_run.proofs.DueOfTextLemmas.{AreDue, Row, rows_due}

-- these lines are due
abbrev lines : List ℕ → Due
lines text = record { finish = Done; text = text; place = None }

-- this refusal is due
abbrev refusal : List ℕ → Option Place → Due
refusal text place = record { finish = Refused; text = text; place = place }

-- the text of terms leaves its grammar at a place
abbrev outside : ℕ → Due
outside at = refusal (codes "!terms A\n") (Some (record { text = Terms; rule = A; at = at }))

-- a specification and given terms, within so many steps
abbrev given : List ℕ → List ℕ → Bool → ℕ → Due → Row
given spec terms counted n due = record { spec = spec; terms = Some terms; shown = bare counted; steps = n; due = due }

abbrev q : List ℕ
q = codes "REC-SPEC Q SORTS A B\nCONS a : -> A  b : -> B\nOPNS f : A -> A\nVARS X Y : A\nRULES f(X) -> X\nEVAL f(a)\nEND-SPEC\n"

abbrev addition : List ℕ
addition = codes "REC-SPEC Add\nSORTS Nat\nCONS\n  z : -> Nat\n  s : Nat -> Nat\nOPNS\n  plus : Nat Nat -> Nat\n"
    ++ codes "VARS\n  X Y : Nat\nRULES\n  plus(z,Y) -> Y\n  plus(s(X),Y) -> s(plus(X,Y))\n"
    ++ codes "EVAL\n  plus(s(s(z)),s(z))\nEND-SPEC\n"

abbrev zero : List ℕ
zero = codes "REC-SPEC Zero SORTS Nat\nCONS 0 : -> Nat  s : Nat -> Nat  x' : -> Nat\nEVAL s(0) x'\nEND-SPEC\n"

-- it breaks `S1`
abbrev broken : List ℕ
broken = codes "REC-SPEC W SORTS Nat Nat OPNS f : Nat -> Nat VARS X : Nat RULES f(X) -> g(X) END-SPEC"

abbrev runs : List Row
runs =
    -- sort of its own
    given q (codes "[ b , f(f(a)) ]") false 1 (lines (codes "a\nb\n!limit 1\n")) ∷
    -- annotations and count
    given q (codes "[f(a){b,[3]},a{f(a)}]") true 1 (lines (codes "a\t1\na{b,[3]}\t1\na{f(a)}\t0\n")) ∷
    -- beside its own terms
    given addition (codes "[plus(z,s(z))]") false 3 (lines (codes "s(s(s(z)))\ns(z)\n")) ∷
    -- quoted names
    given zero (codes "[\"x'\",\"0\"]") false 0 (lines (codes "s(\"0\")\n\"x'\"\n\"x'\"\n\"0\"\n")) ∷
    -- no terms
    given q (codes "[]") false 1 (lines (codes "a\n")) ∷
    -- empty annotations
    given q (codes "[]{}") false 1 (lines (codes "a\n")) ∷
    -- no list
    given q (codes "a") false 1 (refusal (codes "!terms T1\n") None) ∷
    -- annotated list
    given q (codes "[a]{a}") false 1 (refusal (codes "!terms T1\n") None) ∷
    -- integer inside
    given q (codes "[f(a),3]") false 1 (refusal (codes "!terms T2\n") None) ∷
    -- number inside a stranger
    given q (codes "[g(1)]") false 1 (refusal (codes "!terms T2\n") None) ∷
    -- annotated argument
    given q (codes "[f(a{b})]") false 1 (refusal (codes "!terms T3\n") None) ∷
    -- quoted symbol
    given q (codes "[\"a\"]") false 1 (refusal (codes "!terms T4\n") None) ∷
    -- variable
    given q (codes "[X]") false 1 (refusal (codes "!terms T4\n") None) ∷
    -- two arguments
    given q (codes "[f(a,a)]") false 1 (refusal (codes "!terms T5\n") None) ∷
    -- no arguments
    given q (codes "[f]") false 1 (refusal (codes "!terms T5\n") None) ∷
    -- other sort
    given q (codes "[f(b)]") false 1 (refusal (codes "!terms T6\n") None) ∷
    -- unclosed
    given q (codes "[f(a") false 1 (outside 4) ∷
    -- letter of no token
    given q (codes "[x']") false 1 (outside 2) ∷
    -- number before a letter
    given zero (codes "[1a]") false 1 (outside 2) ∷
    -- only the specification
    given broken (codes "[f(a") false 1 (refusal (codes "!spec S1\n") (Some (record { text = Spec; rule = S 1; at = 21 }))) ∷
    []

evaluated_terms : AreDue runs
unfolding Eval digits
evaluated_terms = rows_due runs refl refl
