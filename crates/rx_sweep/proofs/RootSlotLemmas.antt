-- The protected slots are marked, slot by slot.
use Rattle.std.proofs.Common.{◌≡◌, ℕ, ◌+◌, ◌<◌, ◌≤◌, ◌⊎◌, inl, inr, Some, None, refl, sym, ap, subst, arith}
use Rattle.std.specs.Prelude.{Option}
use Rattle.std.proofs.lemmas.Bool.{cases_lt}
use Rattle.rx_arena.specs.Arena.{Taken, ArenaState, taken_at, IsTaken, root_count, roots_at, IsArena}
use Rattle.rx_sweep.specs.Inner.Marking.{Marks}
use Rattle.rx_sweep.proofs.BareLemmas.{same_roots}
use Rattle.rx_sweep.proofs.RootStepLemmas.{below_next}
use Rattle.rx_sweep.proofs.MarkStepLemmas.{marks_none, marks_then, marks_by}

-- the protected slots below k are marked
pub record RootSlots (init : ArenaState) (k : ℕ) (self : ArenaState) : Type 0 where
  pub law : IsArena self
  pub marks : Marks init self (λ s. (s < k) × (0 < roots_at init s))

pub root_slots_begin : (init : ArenaState) → IsArena init → RootSlots init 0 init
root_slots_begin init law = record { law = law; marks = marks_none init (λ s. (s < 0) × (0 < roots_at init s)) (λ s h. absurd (omega (arith, h.0))) }

pub protected_taken : (a : ArenaState) (s : ℕ) → 0 < roots_at a s → IsTaken a s
protected_taken a s h = by_cell (taken_at a s) refl where
  by_cell : (o : Option Taken) → taken_at a s ≡ o → IsTaken a s
  by_cell None e = absurd (let none : roots_at a s ≡ 0 = ap root_count e in omega (arith, h, none))
  by_cell (Some t) e = (t, e)

module _ (init : ArenaState) (k : ℕ) (self : ArenaState) (inv : RootSlots init k self) where
  roots : (s : ℕ) → roots_at self s ≡ roots_at init s
  roots = same_roots init self inv.marks.same

  pub root_slots_on : (two : ArenaState) → IsArena two → Marks self two (λ s. (s ≡ k) × (0 < roots_at self s)) → RootSlots init (k + 1) two
  root_slots_on two law m = record {
    law = law;
    marks = marks_by init two (λ s. ((s < k) × (0 < roots_at init s)) ⊎ ((s ≡ k) × (0 < roots_at self s))) (λ s. (s < k + 1) × (0 < roots_at init s))
        (λ s h. elim h [ inl p ↦ (omega (arith, p.0), p.1) | inr p ↦ (omega (arith, p.0), subst (λ n. 0 < n) (roots s) p.1) ])
        (λ s h. elim (below_next s k h.0) [ inl p ↦ inl (p, h.1) | inr p ↦ inr (p, subst (λ n. 0 < n) (sym (roots s)) h.1) ])
        (marks_then init self two (λ s. (s < k) × (0 < roots_at init s)) (λ s. (s ≡ k) × (0 < roots_at self s)) inv.marks m);
  }

  pub root_slots_end : ((s : ℕ) → k ≤ s → taken_at init s ≡ None) → Marks init self (λ s. 0 < roots_at init s)
  root_slots_end past = marks_by init self (λ s. (s < k) × (0 < roots_at init s)) (λ s. 0 < roots_at init s) (λ s h. h.1)
      (λ s h. elim (cases_lt s k) [
        | inl p ↦ (p, h)
        | inr p ↦ absurd (let none : roots_at init s ≡ 0 = ap root_count (past s (omega (arith, p))) in omega (arith, h, none))
      ])
      inv.marks
