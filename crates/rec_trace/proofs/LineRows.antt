-- What traces write for worked specifications, byte for byte.
use Rattle.std.proofs.Common.{refl}
use Rattle.std.specs.Prelude.{ℕ, List, [], ◌∷◌, ◌++◌, codes, ◌≡◌, true, false, Some, None}
use Rattle.rec_syntax.specs.Syntax.{Term}
use Rattle.rec_syntax.proofs.RowWords.{term}
use Rattle.rec_syntax.proofs.SpecRows.{add, conditional}
use Rattle.rx_term.specs.Tree.{none}
use Rattle.rec_sorts.specs.Evaluation.{Eval}
use Rattle.std.specs.Fmt.{digits}
use Rattle.rec_trace.specs.Trace.{Trace}
use Rattle.rec_trace.specs.Lines.{trace_text}

abbrev add_text : List ℕ
add_text =
    codes "REC-SPEC Add\nSORTS Nat\nCONS\n  z : -> Nat\n  s : Nat -> Nat\nOPNS\n"
    ++ codes "  plus : Nat Nat -> Nat\nVARS\n  X Y : Nat\nRULES\n  plus(z,Y) -> Y\n"
    ++ codes "  plus(s(X),Y) -> s(plus(X,Y))\nEVAL\n  plus(s(s(z)),s(z))\nEND-SPEC\n"

abbrev conditional_text : List ℕ
conditional_text =
    codes "REC-SPEC Cond SORTS Nat\nCONS z : -> Nat  s : Nat -> Nat\n"
    ++ codes "OPNS f : Nat -> Nat  g : Nat -> Nat\nVARS X : Nat\nRULES\n"
    ++ codes "  f(X) -> z if g(X) -><- z\n  f(X) -> s(z)\n  g(z) -> s(z)\nEVAL f(z)\n"
    ++ codes "END-SPEC\n"

abbrev sum : Term
sum = term 0 "plus" (term 0 "s" (term 0 "s" (term 0 "z" [] ∷ []) ∷ []) ∷ term 0 "s" (term 0 "z" [] ∷ []) ∷ [])

add_lines : trace_text add_text add false true None 1000000 sum none
    ≡ codes "12:3: plus(s(s(z)),s(z)) -> s(plus(s(z),s(z)))\t1\n12:3: plus(s(z),s(z)) -> s(plus(z,s(z)))\t2\n11:3: plus(z,s(z)) -> s(z)\t3\ns(s(s(z)))\t3\n"
unfolding Trace Eval digits
add_lines = refl

conditional_lines : trace_text conditional_text conditional true true None 3 (term 0 "f" (term 0 "z" [] ∷ [])) none
    ≡ codes "0:0: f(z)\n7:3: s(z)\t3\ns(z)\t3\n"
unfolding Trace Eval digits
conditional_lines = refl

limit_lines : trace_text add_text add false false None 2 sum none
    ≡ codes "12:3: plus(s(s(z)),s(z)) -> s(plus(s(z),s(z)))\n12:3: plus(s(z),s(z)) -> s(plus(z,s(z)))\n!limit 2\n"
unfolding Trace Eval digits
limit_lines = refl

cut_lines : trace_text add_text add false false (Some 12) 2 sum none
    ≡ codes "12:3: plus(s(s(... -> s(plus(s(...\n12:3: plus(s(z)... -> s(plus(z,...\n!limit 2\n"
unfolding Trace Eval digits
cut_lines = refl
