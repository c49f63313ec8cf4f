-- What is not protected in a bank's arena is not protected in the bank.
use Rattle.std.proofs.Common.{◌≡◌, ℕ, zero, suc, ◌<◌, ◌⊎◌, inl, inr, Some, refl, ap, arith}
use Rattle.std.specs.Prelude.{Bool, false, IsTrue, ◌↔◌}
use Rattle.rx_term.specs.Store.{Store}
use Rattle.rx_term.specs.Steps.{IsSound}
use Rattle.rx_term.specs.declared.Term.{Term}
use Rattle.rx_arena.specs.Arena.{ArenaState, Taken, taken_at, roots_at, root_count}
use Rattle.rx_shared.specs.Mirror.{Mirrors}

zero_or_more : (n : ℕ) → (n ≡ 0) ⊎ (0 < n)
zero_or_more zero = inl refl
zero_or_more (suc n) = inr (omega arith)

counts : (a : ArenaState) (s : ℕ) (x : Taken) → taken_at a s ≡ Some x → roots_at a s ≡ x.roots
counts a s x e = ap root_count e

pub no_roots : (w : Store) (a : ArenaState) → IsSound w → Mirrors w a → (t : Term) → roots_at a t.0 ≡ 0 → w.roots t.0 ≡ 0
no_roots w a sound m t z = elim (zero_or_more (w.roots t.0)) [
  | inl e ↦ e
  | inr p ↦ (let taken = (m.slots t).0 (sound.rooted_held t p) in let e = m.roots t taken.0 taken.1 in let f = counts a t.0 taken.0 taken.1 in
      omega (arith, e, f, z, p))
]

-- what is not above 0
pub not_more : (b : Bool) (n : ℕ) → b ≡ false → (IsTrue b ↔ (0 < n)) → n ≡ 0
not_more b zero e h = refl
not_more b (suc n) e h = let t : IsTrue b = h.1 (omega arith) in cc
