-- What follows for other slots from what an arena's calls ensure.
use Rattle.std.proofs.Common.{◌≡◌, ◌≢◌, ℕ, ◌<◌, inl, inr, List, ◌∷◌, ◌++◌, get_or, Some, None, IfSome, refl, sym, ap, subst, ◌∙◌, arith}
use Rattle.std.specs.Prelude.{Option, Bool}
use Rattle.std.specs.Option.{option_map}
use Rattle.rx_arena.specs.declared.Slot.{Slot}
use Rattle.rx_arena.specs.Put.{times, put, altered}
use Rattle.rx_arena.specs.Arena.{Taken, ArenaState, taken_at, IsTaken, chain_at, InChain, roots_at, root_count, with_marking, IsFirst, IsArena}
use Rattle.rx_arena.proofs.PutLemmas.{one_or_two, one_if-same, get_or-put_same, get_or-put_other, times_in-at, times-append}
use Rattle.rx_arena.proofs.ChainLemmas.{some_chain, split_at}

-- a slot was free before it was taken, and so is another than one that was taken before
pub two_slots : (a : ArenaState) (s k : ℕ) → IsTaken a s → taken_at a k ≡ None → s ≢ k
two_slots a s k taken none e = let here = subst (λ z. taken_at a z ≡ None) (sym e) none in let some = taken.1 in absurd (cc)

module _ (old new : ArenaState) (k : ℕ) (u : Taken) (is : new.cells ≡ put old.cells k (Some u)) where
  pub just_taken : taken_at new k ≡ Some u
  just_taken = ap (λ (z : List (Option Taken)). get_or z k None) is ∙ get_or-put_same old.cells k (Some u)

  pub taken_else : (s : ℕ) → s ≢ k → taken_at new s ≡ taken_at old s
  taken_else s ne = ap (λ (z : List (Option Taken)). get_or z s None) is ∙ get_or-put_other old.cells k s (Some u) ne

pub in_chain_at : (a : ArenaState) (c s : ℕ) → 0 < times s (chain_at a c) → InChain a s
in_chain_at a c s h = omega (arith, h, times_in-at s a.chains c)

roots-marking : (c : Option Taken) (y : Bool) → root_count (option_map (with_marking y) c) ≡ root_count c
roots-marking None y = refl
roots-marking (Some t) y = refl

-- a mark protects nothing
pub roots_marked : (old new : ArenaState) (k : ℕ) (y : Bool) → new.cells ≡ altered k (with_marking y) old.cells → (s : ℕ) → roots_at new s ≡ roots_at old s
roots_marked old new k y is s =
    ap (λ (z : List (Option Taken)). root_count (get_or z s None)) is
    ∙ elim (one_or_two s k) as (λ _. root_count (get_or (altered k (with_marking y) old.cells) s None) ≡ roots_at old s) [
      | inl h ↦ subst (λ z. root_count (get_or (altered k (with_marking y) old.cells) z None) ≡ roots_at old z) (sym h.1)
          (ap root_count (get_or-put_same old.cells k (option_map (with_marking y) (get_or old.cells k None))) ∙ roots-marking (get_or old.cells k None) y)
      | inr h ↦ ap root_count (get_or-put_other old.cells k s (option_map (with_marking y) (get_or old.cells k None)) h.1)
    ]

-- the first slot of a chain is in it
pub first_chained : (a : ArenaState) (c : ℕ) (first : Option Slot) → IsFirst first (chain_at a c) → IfSome first (λ s. InChain a s.0)
first_chained a c None h = tt
first_chained a c (Some s) h = in_chain_at a c s.0 (subst (λ z. 0 < times s.0 z) (sym h.1) (omega (arith, one_if-same s.0)))

-- and is taken
pub first_taken : (a : ArenaState) (c : ℕ) (first : Option Slot) → IsArena a → IsFirst first (chain_at a c) → IfSome first (λ s. IsTaken a s.0)
first_taken a c None law h = tt
first_taken a c (Some s) law h = law.chained_taken s.0 (first_chained a c (Some s) h)

-- the slot after one is in a chain
pub next_chained : (a : ArenaState) (k : ℕ) (next : Option Slot) → InChain a k
    → ((c : ℕ) (before after : List ℕ) → chain_at a c ≡ before ++ k ∷ after → IsFirst next after) → IfSome next (λ s. InChain a s.0)
next_chained a k None h found = tt
next_chained a k (Some s) h found =
    let at = some_chain k a.chains h in
    let split = split_at k (chain_at a at.0) at.2 in
    let here : IsFirst (Some s) split.1.0 = found at.0 split.0 split.1.0 split.1.1 in
    let after : 0 < times s.0 split.1.0 = subst (λ z. 0 < times s.0 z) (sym here.1) (omega (arith, one_if-same s.0)) in
    in_chain_at a at.0 s.0 (subst (λ z. 0 < times s.0 z) (sym split.1.1) (omega (arith, after, times-append s.0 split.0 (k ∷ split.1.0))))
