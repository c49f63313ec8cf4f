-- The slots that a body names, one by one.
use Rattle.std.proofs.Common.{◌≡◌, ℕ, ◌<◌, ◌^◌, ◌⊎◌, inl, inr, List, [], ◌∷◌, ◌++◌, sym, ap, subst, arith}
use Rattle.std.specs.Prelude.{Option}
use Rattle.std.proofs.lemmas.Bool.Decides.{eqb_tells}
use Rattle.rx_arena.specs.declared.Slot.{Slot}
use Rattle.rx_arena.specs.Put.{times}
use Rattle.rx_arena.specs.Arena.{ArenaState, IsTaken, IsArena}
use Rattle.rx_arena.proofs.PutLemmas.{one_or_two, one_if-same, times-append}
use Rattle.rx_sweep.specs.Reach.{words, annotations}
use Rattle.rx_sweep.specs.Inner.Marking.{Marks}
use Rattle.rx_sweep.proofs.MarkStepLemmas.{marks_none, marks_then, marks_by}

words-is : (k a b : ℕ) (kind : ℕ) → kind ≡ k → words kind a b ≡ words k a b
words-is k a b kind e = ap (λ z. words z a b) e

pub words-list : (kind a b : ℕ) → kind ≡ 2 → words kind a b ≡ a ∷ b ∷ []
words-list kind a b e = words-is 2 a b kind e

pub words-application : (kind a b : ℕ) → kind ≡ 3 → words kind a b ≡ b ∷ []
words-application kind a b e = words-is 3 a b kind e

pub words-placeholder : (kind a b : ℕ) → kind ≡ 4 → words kind a b ≡ a ∷ []
words-placeholder kind a b e = words-is 4 a b kind e

-- a taken slot's number fits a link
pub taken_small : (a : ArenaState) (s : ℕ) → IsArena a → IsTaken a s → s < 2 ^ 32
taken_small a s law h = omega (arith, law.below s h, law.small_cap)

pub first_in : (s : ℕ) (ss : List ℕ) → 0 < times s (s ∷ ss)
first_in s ss = omega (arith, one_if-same s)

pub second_in : (s t : ℕ) → 0 < times s (t ∷ s ∷ [])
second_in s t = omega (arith, one_if-same s)

in_one : (s t : ℕ) → 0 < times t (s ∷ []) → t ≡ s
in_one s t h = elim (one_or_two s t) [ inl e ↦ sym e.1 | inr e ↦ absurd (omega (arith, h, e.0)) ]

one_in : (s t : ℕ) → t ≡ s → 0 < times t (s ∷ [])
one_in s t e = subst (λ z. 0 < times z (s ∷ [])) (sym e) (first_in s [])

-- a slot of a list of one is marked
pub marks_list_one : (a b : ArenaState) (s : ℕ) (ss : List ℕ) → ss ≡ s ∷ [] → Marks a b (λ k. k ≡ s) → Marks a b (λ k. 0 < times k ss)
marks_list_one a b s ss e m =
    subst (λ z. Marks a b (λ k. 0 < times k z)) (sym e) (marks_by a b (λ k. k ≡ s) (λ k. 0 < times k (s ∷ [])) (λ k h. one_in s k h) (λ k h. in_one s k h) m)

-- the slots of one list and another
pub marks_append : (a b c : ArenaState) (xs ys : List ℕ) → Marks a b (λ k. 0 < times k xs) → Marks b c (λ k. 0 < times k ys)
    → Marks a c (λ k. 0 < times k (xs ++ ys))
marks_append a b c xs ys m n =
    marks_by a c (λ k. (0 < times k xs) ⊎ (0 < times k ys)) (λ k. 0 < times k (xs ++ ys))
    (λ k h. elim h [ inl p ↦ omega (arith, p, times-append k xs ys) | inr p ↦ omega (arith, p, times-append k xs ys) ])
    (λ k h. elim (some_or_none (times k xs)) [ inl p ↦ inl p | inr p ↦ inr (omega (arith, p, h, times-append k xs ys)) ])
    (marks_then a b c (λ k. 0 < times k xs) (λ k. 0 < times k ys) m n)
  where
    some_or_none : (n : ℕ) → (0 < n) ⊎ (n ≡ 0)
    some_or_none n = elim (eqb_tells n 0) [ inl h ↦ inr h.1 | inr h ↦ inl (omega (arith, h.1)) ]

pub marks_list_none : (a : ArenaState) (ss : List ℕ) → ss ≡ [] → Marks a a (λ k. 0 < times k ss)
marks_list_none a ss e = marks_none a (λ k. 0 < times k ss) (λ k h. let none = subst (λ z. 0 < times k z) e h in absurd (omega (arith, none)))

pub in_words : (anns : Option Slot) (k : ℕ) (ws : List ℕ) → 0 < times k ws → 0 < times k (annotations anns ++ ws)
in_words anns k ws h = omega (arith, h, times-append k (annotations anns) ws)

pub in_annotations : (anns : Option Slot) (k : ℕ) (ws : List ℕ) → 0 < times k (annotations anns) → 0 < times k (annotations anns ++ ws)
in_annotations anns k ws h = omega (arith, h, times-append k (annotations anns) ws)
