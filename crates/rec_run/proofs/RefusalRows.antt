-- Refused specifications, each with its rule and its place.
use Rattle.std.proofs.Common.{refl}
use Rattle.std.specs.Prelude.{ℕ, List, [], ◌∷◌, ◌++◌, codes, false, None, Some}
use Rattle.std.specs.Fmt.{digits}
use Rattle.rx_run.specs.Due.{refused}
use Rattle.rx_run.specs.declared.ending.Named.{Named}
use Rattle.rx_run.specs.declared.ending.Named.TheVariants.{G, S}
use Rattle.rx_run.specs.declared.ending.Source.TheVariants.{Spec}
use Rattle.rec_run.specs.Output.{bare}
use Rattle.rec_run.proofs.DueOfTextLemmas.{AreDue, Row, rows_due}

-- a text that is refused by this name and rule, at a place
abbrev refusal : List ℕ → Named → ℕ → List ℕ → Row
refusal name rule at spec = record {
  spec = spec;
  terms = None;
  shown = bare false;
  steps = 0;
  due =
      refused (codes "!spec ") name (Some (record { text = Spec; rule = rule; at = at }));
}

abbrev refusals : List Row
refusals =
    -- sort twice
    refusal (codes "S1") (S 1) 21
    (codes "REC-SPEC Q SORTS A B A\nCONS a : -> A  b : -> B\nOPNS f : A -> A\nVARS X Y : A\nRULES f(X) -> X\nEVAL f(a)\nEND-SPEC\n") ∷
    -- symbol twice
    refusal (codes "S2") (S 2) 61
    (codes "REC-SPEC Q SORTS A B\nCONS a : -> A  b : -> B\nOPNS f : A -> A a : -> A\nVARS X Y : A\nRULES f(X) -> X\nEVAL f(a)\nEND-SPEC\n") ∷
    -- variable twice
    refusal (codes "S3") (S 3) 70
    (codes "REC-SPEC Q SORTS A B\nCONS a : -> A  b : -> B\nOPNS f : A -> A\nVARS X Y X : A\nRULES f(X) -> X\nEVAL f(a)\nEND-SPEC\n") ∷
    -- variable is symbol
    refusal (codes "S3") (S 3) 68
    (codes "REC-SPEC Q SORTS A B\nCONS a : -> A  b : -> B\nOPNS f : A -> A\nVARS X a : A\nRULES f(X) -> X\nEVAL f(a)\nEND-SPEC\n") ∷
    -- unknown sort
    refusal (codes "S4") (S 4) 72
    (codes "REC-SPEC Q SORTS A B\nCONS a : -> A  b : -> B\nOPNS f : A -> A\nVARS X Y : C\nRULES f(X) -> X\nEVAL f(a)\nEND-SPEC\n") ∷
    -- unknown word
    refusal (codes "S5") (S 5) 97
    (codes "REC-SPEC Q SORTS A B\nCONS a : -> A  b : -> B\nOPNS f : A -> A\nVARS X Y : A\nRULES f(X) -> X\nEVAL f(c)\nEND-SPEC\n") ∷
    -- too many
    refusal (codes "S6") (S 6) 95
    (codes "REC-SPEC Q SORTS A B\nCONS a : -> A  b : -> B\nOPNS f : A -> A\nVARS X Y : A\nRULES f(X) -> X\nEVAL f(a,a)\nEND-SPEC\n") ∷
    -- variable applied
    refusal (codes "S6") (S 6) 82
    (codes "REC-SPEC Q SORTS A B\nCONS a : -> A  b : -> B\nOPNS f : A -> A\nVARS X Y : A\nRULES f(X(a)) -> X\nEVAL f(a)\nEND-SPEC\n") ∷
    -- other sort
    refusal (codes "S7") (S 7) 97
    (codes "REC-SPEC Q SORTS A B\nCONS a : -> A  b : -> B\nOPNS f : A -> A\nVARS X Y : A\nRULES f(X) -> X\nEVAL f(b)\nEND-SPEC\n") ∷
    -- left constructor
    refusal (codes "S8") (S 8) 80 (codes "REC-SPEC Q SORTS A B\nCONS a : -> A  b : -> B\nOPNS f : A -> A\nVARS X Y : A\nRULES a -> a\nEVAL f(a)\nEND-SPEC\n") ∷
    -- sides differ
    refusal (codes "S9") (S 9) 80
    (codes "REC-SPEC Q SORTS A B\nCONS a : -> A  b : -> B\nOPNS f : A -> A\nVARS X Y : A\nRULES f(X) -> b\nEVAL f(a)\nEND-SPEC\n") ∷
    -- condition differs
    refusal (codes "S9") (S 9) 93
    (codes "REC-SPEC Q SORTS A B\nCONS a : -> A  b : -> B\nOPNS f : A -> A\nVARS X Y : A\nRULES f(X) -> X if a -><- b\nEVAL f(a)\nEND-SPEC\n") ∷
    -- unbound
    refusal (codes "S10") (S 10) 88
    (codes "REC-SPEC Q SORTS A B\nCONS a : -> A  b : -> B\nOPNS f : A -> A\nVARS X Y : A\nRULES f(X) -> Y\nEVAL f(a)\nEND-SPEC\n") ∷
    -- open term
    refusal (codes "S11") (S 11) 97
    (codes "REC-SPEC Q SORTS A B\nCONS a : -> A  b : -> B\nOPNS f : A -> A\nVARS X Y : A\nRULES f(X) -> X\nEVAL f(X)\nEND-SPEC\n") ∷
    -- and if alone
    refusal (codes "G") G 90
    (codes "REC-SPEC Q SORTS A B\nCONS a : -> A  b : -> B\nOPNS f : A -> A\nVARS X Y : A\nRULES f(X) -> X and-if a -><- a\nEVAL f(a)\nEND-SPEC\n") ∷
    -- text after
    refusal (codes "G") G 109 (codes "REC-SPEC Q SORTS A B\nCONS a : -> A  b : -> B\nOPNS f : A -> A\nVARS X Y : A\nRULES f(X) -> X\nEVAL f(a)\nEND-SPEC\na") ∷
    -- no arguments
    refusal (codes "S6") (S 6) 95
    (codes "REC-SPEC Q SORTS A B\nCONS a : -> A  b : -> B\nOPNS f : A -> A\nVARS X Y : A\nRULES f(X) -> X\nEVAL f()\nEND-SPEC\n") ∷
    -- least rule first
    refusal (codes "S1") (S 1) 21 (codes "REC-SPEC W SORTS Nat Nat OPNS f : Nat -> Nat VARS X : Nat RULES f(X) -> g(X) END-SPEC") ∷
    -- earlier rule first
    refusal (codes "S5") (S 5) 93 (codes "REC-SPEC V SORTS Nat CONS z : -> Nat OPNS f : Nat -> Nat VARS X Y : Nat RULES f(X) -> Y EVAL k END-SPEC") ∷
    -- no end
    refusal (codes "G") G 184 (codes "REC-SPEC Add\nSORTS Nat\nCONS\n  z : -> Nat\n  s : Nat -> Nat\nOPNS\n  plus : Nat Nat -> Nat\n"
    ++ codes "VARS\n  X Y : Nat\nRULES\n  plus(z,Y) -> Y\n  plus(s(X),Y) -> s(plus(X,Y))\n"
    ++ codes "EVAL\n  plus(s(s(z)),s(z))\n") ∷
    -- colon for sort
    refusal (codes "G") G 17 (codes "REC-SPEC E SORTS : END-SPEC") ∷
    -- only title
    refusal (codes "G") G 10 (codes "REC-SPEC E") ∷
    -- reserved title
    refusal (codes "G") G 9 (codes "REC-SPEC if END-SPEC") ∷
    -- sections in order
    refusal (codes "G") G 16 (codes "REC-SPEC E OPNS CONS END-SPEC") ∷
    []

refused_specs : AreDue refusals
unfolding digits
refused_specs = rows_due refusals refl refl
