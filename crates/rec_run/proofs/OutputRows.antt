-- The worked specifications, from their texts to the lines that are due.
use Rattle.std.proofs.Common.{refl}
use Rattle.std.specs.Prelude.{ℕ, List, [], ◌∷◌, ◌++◌, codes, true, false, None}
use Rattle.std.specs.Fmt.{digits}
use Rattle.rec_sorts.specs.Evaluation.{Eval}
use Rattle.rx_run.specs.Due.{done}
use Rattle.rec_run.specs.Output.{bare}
use Rattle.rec_run.proofs.DueOfTextLemmas.{AreDue, Row, rows_due}

-- a specification within so many steps, and its lines
abbrev plain : ℕ → List ℕ → List ℕ → Row
plain n spec lines = record { spec = spec; terms = None; shown = bare false; steps = n; due = done lines }

-- the same with the steps counted
abbrev counted : ℕ → List ℕ → List ℕ → Row
counted n spec lines = record { spec = spec; terms = None; shown = bare true; steps = n; due = done lines }

abbrev addition : List ℕ
addition = codes "REC-SPEC Add\nSORTS Nat\nCONS\n  z : -> Nat\n  s : Nat -> Nat\nOPNS\n  plus : Nat Nat -> Nat\n"
    ++ codes "VARS\n  X Y : Nat\nRULES\n  plus(z,Y) -> Y\n  plus(s(X),Y) -> s(plus(X,Y))\n"
    ++ codes "EVAL\n  plus(s(s(z)),s(z))\nEND-SPEC\n"

abbrev value : List ℕ
value = codes "REC-SPEC Add\nSORTS Nat\nCONS\n  z : -> Nat\n  s : Nat -> Nat\nOPNS\n  plus : Nat Nat -> Nat\n"
    ++ codes "VARS\n  X Y : Nat\nRULES\n  plus(z,Y) -> Y\n  plus(s(X),Y) -> s(plus(X,Y))\nEVAL\n  s(z)\nEND-SPEC\n"

abbrev copies : List ℕ
copies = codes "REC-SPEC Dup SORTS Nat Pair\nCONS z : -> Nat  p : Nat Nat -> Pair\nOPNS d : Nat -> Pair  e : Nat -> Nat\n"
    ++ codes "VARS X : Nat\nRULES\n  d(X) -> p(e(X),e(X))\n  e(z) -> z\nEVAL d(z)\nEND-SPEC\n"

abbrev condition : List ℕ
condition = codes "REC-SPEC Cond SORTS Nat\nCONS z : -> Nat  s : Nat -> Nat\nOPNS f : Nat -> Nat  g : Nat -> Nat\n"
    ++ codes "VARS X : Nat\nRULES\n  f(X) -> z if g(X) -><- z\n  f(X) -> s(z)\n  g(z) -> s(z)\nEVAL f(z)\nEND-SPEC\n"

abbrev endless : List ℕ
endless = codes "REC-SPEC Loop SORTS Nat\nCONS z : -> Nat\nOPNS f : Nat -> Nat\nVARS X : Nat\n"
    ++ codes "RULES f(X) -> z if f(X) -><- z   % spends before it asks\nEVAL f(z)\nEND-SPEC\n"

abbrev equal : List ℕ
equal = codes "REC-SPEC Eq SORTS Nat Bool\nCONS z : -> Nat  s : Nat -> Nat  true : -> Bool  false : -> Bool\n"
    ++ codes "OPNS eq : Nat Nat -> Bool\nVARS X Y : Nat\nRULES\n  eq(X,X) -> true\n  eq(X,Y) -> false\n"
    ++ codes "EVAL\n  eq(s(z),s(z))\n  eq(z,s(z))\nEND-SPEC\n"

abbrev unequal : List ℕ
unequal = codes "REC-SPEC Neq SORTS Nat\nCONS z : -> Nat  s : Nat -> Nat\nOPNS m : Nat Nat -> Nat\n"
    ++ codes "VARS X Y : Nat\nRULES\n  m(X,Y) -> z if X ->/<- Y and-if Y -><- z\n  m(X,Y) -> s(z)\n"
    ++ codes "EVAL\n  m(s(z),z)\n  m(z,z)\nEND-SPEC\n"

abbrev quoted : List ℕ
quoted = codes "REC-SPEC Zero SORTS Nat\nCONS 0 : -> Nat  s : Nat -> Nat  x' : -> Nat\nEVAL s(0) x'\nEND-SPEC\n"

abbrev irreducible : List ℕ
irreducible = codes "REC-SPEC Irr SORTS Nat\nCONS z : -> Nat\nOPNS h : Nat -> Nat\nEVAL h(z)\nEND-SPEC\n"

abbrev one_rule : List ℕ
one_rule = codes "REC-SPEC Q SORTS A B\nCONS a : -> A  b : -> B\nOPNS f : A -> A\nVARS X Y : A\nRULES f(X) -> X\nEVAL f(a)\nEND-SPEC\n"

abbrev hit : List ℕ
hit = codes "REC-SPEC Hit SORTS Nat Pair CONS z : -> Nat s : Nat -> Nat p : Nat Nat -> Pair OPNS k : Nat -> Nat d "
    ++ codes ": Nat -> Pair VARS X : Nat RULES k(z) -> z k(s(X)) -> k(X) d(X) -> p(k(X),k(X)) EVAL d(s(s(z))) END-SPEC"

abbrev idle : List ℕ
idle = codes "REC-SPEC Idle SORTS Nat Pair CONS z : -> Nat s : Nat -> Nat p : Nat Nat -> Pair OPNS h : Nat -> Nat f "
    ++ codes ": Nat -> Nat d : Nat -> Pair VARS X : Nat RULES h(X) -> z if X -><- s(z) f(X) -> z d(X) -> p(f(X),f(X)) "
    ++ codes "EVAL f(h(z)) d(h(z)) END-SPEC"

abbrev empty : List ℕ
empty = codes "REC-SPEC E END-SPEC"

abbrev overlapping : List ℕ
overlapping = codes "REC-SPEC Ovl SORTS N CONS a : -> N b : -> N OPNS f : N N -> N VARS X Y : N RULES f(X,X) -> a f(a,Y) -> "
    ++ codes "b f(X,b) -> a f(X,Y) -> b EVAL f(b,a) END-SPEC"

abbrev longer : List ℕ
longer = codes "REC-SPEC Add\nSORTS Nat\nCONS\n  z : -> Nat\n  s : Nat -> Nat\nOPNS\n  plus : Nat Nat -> Nat\n"
    ++ codes "VARS\n  X Y : Nat\nRULES\n  plus(z,Y) -> Y\n  plus(s(X),Y) -> s(plus(X,Y))\n"
    ++ codes "EVAL\n  plus(s(s(s(s(s(s(s(s(s(s(s(s(s(s(s(s(s(s(s(s("
    ++ codes "s(s(s(s(s(s(s(s(s(s(s(s(s(s(s(s(s(s(s(s(z)))))))))))))))))))))))))))))))))))))))),z)\nEND-SPEC\n"

abbrev doubling : List ℕ
doubling = codes "REC-SPEC Fast SORTS Nat CONS z : -> Nat s : Nat -> Nat OPNS k : Nat -> Nat q : Nat Nat -> Nat VARS X "
    ++ codes "Y : Nat RULES k(z) -> z k(s(X)) -> q(k(X),k(X)) q(X,Y) -> X EVAL k(s(s(s(s(s(z)))))) END-SPEC"

abbrev first_condition_fails : List ℕ
first_condition_fails = codes "REC-SPEC And SORTS Nat CONS z : -> Nat s : Nat -> Nat OPNS f : Nat -> Nat g : Nat -> Nat VARS X : Nat "
    ++ codes "RULES f(X) -> z if X -><- s(z) and-if g(X) -><- z f(X) -> s(z) g(X) -> g(X) EVAL f(z) END-SPEC"

abbrev second_condition_fails : List ℕ
second_condition_fails = codes "REC-SPEC And SORTS Nat CONS z : -> Nat s : Nat -> Nat OPNS f : Nat -> Nat VARS X : Nat RULES f(X) -> "
    ++ codes "z if X -><- z and-if X -><- s(z) f(X) -> s(z) EVAL f(z) END-SPEC"

abbrev both_sides_spend : List ℕ
both_sides_spend = codes "REC-SPEC Both SORTS Nat CONS z : -> Nat OPNS f : Nat -> Nat g : Nat -> Nat VARS X : Nat RULES f(X) -> "
    ++ codes "z if g(X) -><- g(X) g(X) -> X EVAL f(z) END-SPEC"

abbrev runs : List Row
runs =
    plain 3 addition (codes "s(s(s(z)))\n") ∷
    plain 2 addition (codes "!limit 2\n") ∷
    plain 1000000000000000000 addition (codes "s(s(s(z)))\n") ∷
    counted 3 addition (codes "s(s(s(z)))\t3\n") ∷
    plain 0 value (codes "s(z)\n") ∷
    plain 3 copies (codes "p(z,z)\n") ∷
    plain 2 copies (codes "!limit 2\n") ∷
    counted 3 copies (codes "p(z,z)\t3\n") ∷
    plain 3 condition (codes "s(z)\n") ∷
    plain 2 condition (codes "!limit 2\n") ∷
    plain 50 endless (codes "!limit 50\n") ∷
    counted 50 endless (codes "!limit 50\n") ∷
    plain 1 equal (codes "true\nfalse\n") ∷
    plain 0 equal (codes "!limit 0\n!limit 0\n") ∷
    plain 2 unequal (codes "z\ns(z)\n") ∷
    plain 1 unequal (codes "z\n!limit 1\n") ∷
    plain 0 quoted (codes "s(\"0\")\n\"x'\"\n") ∷
    plain 0 irreducible (codes "h(z)\n") ∷
    plain 1 one_rule (codes "a\n") ∷
    plain 7 hit (codes "p(z,z)\n") ∷
    plain 6 hit (codes "!limit 6\n") ∷
    plain 4 idle (codes "z\np(z,z)\n") ∷
    plain 3 idle (codes "z\n!limit 3\n") ∷
    plain 0 empty (codes "") ∷
    plain 1 overlapping (codes "b\n") ∷
    plain 0 overlapping (codes "!limit 0\n") ∷
    plain 1000000 longer (codes "s(s(s(s(s(s(s(s(s(s(s(s(s(s(s(s(s(s(s(s(s(s(s(s(s(s(s(s(s(s(s(s(s(s(s(s(s(s(s(s(z))))))))))))))))))))))))))))))))))))))))\n") ∷
    plain 94 doubling (codes "z\n") ∷
    plain 2 first_condition_fails (codes "s(z)\n") ∷
    plain 1 first_condition_fails (codes "!limit 1\n") ∷
    plain 2 second_condition_fails (codes "s(z)\n") ∷
    plain 3 both_sides_spend (codes "z\n") ∷
    plain 2 both_sides_spend (codes "!limit 2\n") ∷
    []

evaluated_specs : AreDue runs
unfolding Eval digits
evaluated_specs = rows_due runs refl refl
