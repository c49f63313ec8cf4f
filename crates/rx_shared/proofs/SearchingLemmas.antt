-- A search along a chain.
use Rattle.std.proofs.Common.{◌≡◌, ◌≢◌, ℕ, List, ◌∷◌, ◌++◌, inl, inr, Some, None, subst, arith}
use Rattle.std.specs.Prelude.{Option}
use Rattle.rx_arena.specs.declared.CellBody.{CellBody}
use Rattle.rx_arena.specs.declared.Slot.{Slot}
use Rattle.rx_arena.specs.Arena.{Taken, ArenaState, taken_at, chain_at, IsFirst}
use Rattle.rx_arena.proofs.WalkLemmas.{Walk, walk_begins, walk_on, walked, passed}
use Rattle.rx_shared.specs.Inner.Finding.{IsAbsent}

-- the slots that were passed do not hold the body
pub record Search (a : ArenaState) (c : ℕ) (b : CellBody) (next : Option Slot) : Type 0 where
  pub walk : Walk (chain_at a c) next
  pub absent : IsAbsent a b walk.before

pub search_begins : (a : ArenaState) (c : ℕ) (b : CellBody) (next : Option Slot) → IsFirst next (chain_at a c) → Search a c b next
search_begins a c b next h = record { walk = walk_begins (chain_at a c) next h; absent = λ s t lt e. absurd (omega (arith, lt)) }

pub searched : (a : ArenaState) (c : ℕ) (b : CellBody) (next : Option Slot) → Search a c b next → next ≡ None → IsAbsent a b (chain_at a c)
searched a c b next s e = subst (IsAbsent a b) (walked (chain_at a c) next s.walk e) s.absent

pub search_on : (a : ArenaState) (c : ℕ) (b : CellBody) (next : Option Slot) (s : Search a c b next) (k : Slot) (is : next ≡ Some k)
    (far : Option Slot) → ((before after : List ℕ) → chain_at a c ≡ before ++ k.0 ∷ after → IsFirst far after)
    → ((t : Taken) → taken_at a k.0 ≡ Some t → t.body ≢ b) → Search a c b far
search_on a c b next s k is far found differs = record {
  walk = walk_on (chain_at a c) next s.walk k is far found;
  absent = λ j t lt e. elim (passed (chain_at a c) next s.walk k is j lt)
      [ inl p ↦ s.absent j t p e | inr p ↦ differs t (subst (λ z. taken_at a z ≡ Some t) p e) ];
}
