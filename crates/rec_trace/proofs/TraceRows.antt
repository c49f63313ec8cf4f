-- Traces of worked specifications, and what the step of the definitions does where the budget is short.
use Rattle.std.proofs.Common.{refl}
use Rattle.std.specs.Prelude.{ℕ, List, [], ◌∷◌, codes, map, ◌≡◌, false}
use Rattle.rec_syntax.specs.Syntax.{Term}
use Rattle.rec_syntax.proofs.RowWords.{term}
use Rattle.rec_syntax.proofs.SpecRows.{add, conditional}
use Rattle.rx_term.specs.Tree.{Tree, Appl, none, more}
use Rattle.rec_sorts.specs.Evaluation.{Over, Eval}
use Rattle.rec_trace.specs.Trace.{Firing, Trace}

abbrev z : Tree
z = Appl (codes "z") false none none

abbrev s : Tree → Tree
s t = Appl (codes "s") false (more t none) none

abbrev plus : Tree → Tree → Tree
plus t u = Appl (codes "plus") false (more t (more u none)) none

abbrev f : Tree → Tree
f t = Appl (codes "f") false (more t none) none

-- a firing's whole term afterwards, and what is left
record Shown : Type 0 where
  whole : Tree
  left : ℕ

abbrev shown : List Firing → List Shown
shown fs = map (λ x. record { whole = x.after; left = x.left }) fs

abbrev zero_term : Term
zero_term = term 0 "z" []

-- plus(s(s(z)),s(z)) with three steps
three : shown (Trace add 3 (term 0 "plus" (term 0 "s" (term 0 "s" (zero_term ∷ []) ∷ []) ∷ term 0 "s" (zero_term ∷ []) ∷ []))).firings
    ≡ record { whole = s (plus (s z) (s z)); left = 2 } ∷ record { whole = s (s (plus z (s z))); left = 1 } ∷ record { whole = s (s (s z)); left = 0 } ∷ []
unfolding Trace Eval
three = refl

-- with one fewer the trace ends over the limit, and the two steps are there
two : shown (Trace add 2 (term 0 "plus" (term 0 "s" (term 0 "s" (zero_term ∷ []) ∷ []) ∷ term 0 "s" (zero_term ∷ []) ∷ []))).firings
    ≡ record { whole = s (plus (s z) (s z)); left = 1 } ∷ record { whole = s (s (plus z (s z))); left = 0 } ∷ []
unfolding Trace Eval
two = refl

two_over : (Trace add 2 (term 0 "plus" (term 0 "s" (term 0 "s" (zero_term ∷ []) ∷ []) ∷ term 0 "s" (zero_term ∷ []) ∷ []))).outcome ≡ Over
unfolding Trace Eval
two_over = refl

-- a rule with a condition that fails is not shown, and its steps are spent
second : shown (Trace conditional 3 (term 0 "f" (zero_term ∷ []))).firings ≡ record { whole = s z; left = 0 } ∷ []
unfolding Trace Eval
second = refl

second_over : Trace conditional 2 (term 0 "f" (zero_term ∷ [])) ≡ record { firings = []; outcome = Over }
unfolding Trace Eval
second_over = refl
