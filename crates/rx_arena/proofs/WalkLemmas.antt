-- A walk along a chain, from slot to slot.
use Rattle.std.proofs.Common.{◌≡◌, ℕ, ◌<◌, ◌≤◌, ◌⊎◌, inl, inr, List, [], ◌∷◌, ◌++◌, length, Some, None, refl, sym, ap, subst, ◌∙◌, arith}
use Rattle.std.specs.Prelude.{Option, cond, nat_eq}
use Rattle.std.proofs.lemmas.List.{append-nil, append_assoc}
use Rattle.std.proofs.lemmas.Bool.Decides.{eqb_tells}
use Rattle.rx_arena.specs.declared.Slot.{Slot}
use Rattle.rx_arena.specs.Put.{one_if, times}
use Rattle.rx_arena.specs.Arena.{ArenaState, chain_at, InChain, IsFirst, IsArena}
use Rattle.rx_arena.proofs.PutLemmas.{one_or_two, one_if-same, times_in-at, times-append}

-- the list from the slot on
abbrev pub rest_from : ℕ → List ℕ → List ℕ
rest_from s [] = []
rest_from s (t ∷ ts) = cond (nat_eq t s) (t ∷ ts) (rest_from s ts)

-- what is left of the walk
abbrev pub left_of : Option Slot → List ℕ → List ℕ
left_of None ss = []
left_of (Some s) ss = rest_from s.0 ss

rest_from-first : (s : ℕ) (before rest : List ℕ) → ((t : ℕ) → times t (before ++ s ∷ rest) ≤ 1) → rest_from s (before ++ s ∷ rest) ≡ s ∷ rest
rest_from-first s [] rest once = elim (eqb_tells s s) [
  | inl h ↦ ap (λ b. cond b (s ∷ rest) (rest_from s rest)) h.0
  | inr h ↦ absurd (h.1 refl)
]
rest_from-first s (b ∷ bs) rest once = elim (eqb_tells b s) [
  | inl h ↦ (let one : one_if b s ≡ 1 = ap (λ y. cond y 1 0) h.0 in absurd (omega (arith, once s, one, one_if-same s, times-append s bs (s ∷ rest))))
  | inr h ↦ ap (λ y. cond y (b ∷ bs ++ s ∷ rest) (rest_from s (bs ++ s ∷ rest))) h.0 ∙ rest_from-first s bs rest (λ t. omega (arith, once t))
]

pub none_of : {X : Type 0} (o : Option X) → ((x : X) → o ≡ Some x → ⊥) → o ≡ None
none_of None h = refl
none_of (Some x) h = absurd (h x refl)

-- where the walk is in the list
pub record Walk (ss : List ℕ) (next : Option Slot) : Type 0 where
  pub before : List ℕ
  pub after : List ℕ
  pub split : ss ≡ before ++ after
  pub first : IsFirst next after

abbrev pub walk_begins : (ss : List ℕ) (next : Option Slot) → IsFirst next ss → Walk ss next
walk_begins ss next h = record { before = []; after = ss; split = refl; first = h }

left_of-split : (before after : List ℕ) (next : Option Slot) → IsFirst next after → ((t : ℕ) → times t (before ++ after) ≤ 1)
    → left_of next (before ++ after) ≡ after
left_of-split before after None h once = sym h
left_of-split before after (Some s) h once =
    subst (λ z. rest_from s.0 (before ++ z) ≡ z) (sym h.1) (rest_from-first s.0 before h.0 (subst (λ z. (t : ℕ) → times t (before ++ z) ≤ 1) h.1 once))

pub left_of-walk : (ss : List ℕ) (next : Option Slot) (w : Walk ss next) → ((t : ℕ) → times t ss ≤ 1) → left_of next ss ≡ w.after
left_of-walk ss next w once =
    ap (left_of next) w.split ∙ left_of-split w.before w.after next w.first (subst (λ z. (t : ℕ) → times t z ≤ 1) w.split once)

-- the walk has passed the whole list
pub walked : (ss : List ℕ) (next : Option Slot) (w : Walk ss next) → next ≡ None → w.before ≡ ss
walked ss next w e = sym (w.split ∙ ap (λ z. w.before ++ z) (subst (λ z. IsFirst z w.after) e w.first) ∙ append-nil w.before)

-- one slot further
module _ (ss : List ℕ) (next : Option Slot) (w : Walk ss next) (s : Slot) (is : next ≡ Some s) where
  abbrev pub here : IsFirst (Some s) w.after
  here = subst (λ z. IsFirst z w.after) is w.first

  pub walk_split : ss ≡ w.before ++ s.0 ∷ here.0
  walk_split = w.split ∙ ap (λ z. w.before ++ z) here.1

  pub walk_at : 0 < times s.0 ss
  walk_at = subst (λ z. 0 < times s.0 z) (sym walk_split) (omega (arith, times-append s.0 w.before (s.0 ∷ here.0), one_if-same s.0))

  abbrev pub walk_on : (far : Option Slot) → ((before after : List ℕ) → ss ≡ before ++ s.0 ∷ after → IsFirst far after) → Walk ss far
  walk_on far found = record {
    before = w.before ++ s.0 ∷ [];
    after = here.0;
    split = walk_split ∙ sym (append_assoc w.before (s.0 ∷ []) here.0);
    first = found w.before here.0 walk_split;
  }

  -- what is passed is what was passed, and this slot
  pub passed : (k : ℕ) → 0 < times k (w.before ++ s.0 ∷ []) → (0 < times k w.before) ⊎ (k ≡ s.0)
  passed k h = elim (one_or_two s.0 k) [
    | inl e ↦ inr (sym e.1)
    | inr e ↦ inl (omega (arith, h, e.0, times-append k w.before (s.0 ∷ [])))
  ]

  pub left_less : (far : Option Slot) → ((before after : List ℕ) → ss ≡ before ++ s.0 ∷ after → IsFirst far after) → ((t : ℕ) → times t ss ≤ 1)
      → length (left_of far ss) < length (left_of next ss)
  left_less far found once =
      let now = ap length (left_of-walk ss next w once ∙ here.1) in
      let then = ap length (left_of-walk ss far (walk_on far found) once) in
      omega (arith, now, then)

-- a chain's slots are in it once, and in the chains
pub chain_once : (a : ArenaState) → IsArena a → (c t : ℕ) → times t (chain_at a c) ≤ 1
chain_once a law c t = omega (arith, law.alone t, times_in-at t a.chains c)

pub chain_in : (a : ArenaState) (c s : ℕ) → 0 < times s (chain_at a c) → InChain a s
chain_in a c s h = omega (arith, h, times_in-at s a.chains c)
