-- What a write of one slot, and a slot more, do to the heap.
use Rattle.std.proofs.Common.{List, [], ◌∷◌, ◌++◌, length, ℕ, ◌≡◌, ◌≢◌, ◌≤◌, ◌<◌, Some, None, sym, ap, ◌∙◌, subst, inl, inr, arith, slice_get}
use Rattle.std.proofs.lemmas.Bool.Decides.{eqb_tells}
use Rattle.std.specs.Prelude.{slice_set}
use Rattle.std.proofs.lemmas.Grind.{common_steps, elements}
use Rattle.std.proofs.lemmas.Option.{slice_get_past}
use Rattle.rx_term.specs.Heap.{Cell}
use Rattle.rx_plain.specs.Slots.{heap_of, roots_of, cell_in, cell_at, count_in}
use Rattle.rx_plain.specs.declared.slots.Slot.{Slot}

-- ys is xs with a cell in slot i, which was free
pub record Puts (xs ys : List Slot) (i : ℕ) (x : Cell) : Type 0 where
  pub within : i < length ys
  pub longer : length xs ≤ length ys
  pub taken : heap_of ys i ≡ Some x
  pub others : (t : ℕ) → t ≢ i → heap_of ys t ≡ heap_of xs t
  pub roots : (t : ℕ) → roots_of ys t ≡ roots_of xs t
  pub free : heap_of xs i ≡ None

pub get-set_same : (xs : List Slot) (i : ℕ) (s : Slot) → i < length xs → slice_get (slice_set xs i s) i ≡ Some s
get-set_same xs i s lt = grind (arith, elements)

pub get-set_other : (xs : List Slot) (i t : ℕ) (s : Slot) → t ≢ i → slice_get (slice_set xs i s) t ≡ slice_get xs t
get-set_other xs i t s ne = grind (arith, elements)

get-push_same : (xs : List Slot) (s : Slot) → slice_get (xs ++ s ∷ []) (length xs) ≡ Some s
get-push_same xs s = grind (arith, elements)

get-push_other : (xs : List Slot) (t : ℕ) (s : Slot) → t ≢ length xs → slice_get (xs ++ s ∷ []) t ≡ slice_get xs t
get-push_other xs t s ne = grind (arith, elements)

-- a slot with this cell, not rooted
abbrev Fresh : Slot → Cell → Type 0
Fresh s x = (cell_in s.body ≡ Some x) × (s.roots ≡ 0)

-- a slot that is free is not rooted
abbrev Unrooted : List Slot → Type 0
Unrooted xs = (t : ℕ) → heap_of xs t ≡ None → roots_of xs t ≡ 0

pub Puts-set : (xs : List Slot) (i : ℕ) (s : Slot) (x : Cell) → i < length xs → heap_of xs i ≡ None → Unrooted xs → Fresh s x → Puts xs (slice_set xs i s) i x
Puts-set xs i s x lt free unrooted fresh = record {
  within = grind (arith, elements);
  longer = grind (arith, elements);
  taken = ap cell_at (get-set_same xs i s lt) ∙ fresh.0;
  others = λ t ne. ap cell_at (get-set_other xs i t s ne);
  roots = λ t. elim (eqb_tells t i) [
    | inl p ↦ subst (λ j. roots_of (slice_set xs i s) j ≡ roots_of xs j) (sym p.1) (ap count_in (get-set_same xs i s lt) ∙ fresh.1 ∙ sym (unrooted i free))
    | inr p ↦ ap count_in (get-set_other xs i t s p.1)
  ];
  free = free;
}

pub Puts-push : (xs : List Slot) (s : Slot) (x : Cell) → Fresh s x → Puts xs (xs ++ s ∷ []) (length xs) x
Puts-push xs s x fresh = record {
  within = grind (arith, common_steps);
  longer = grind (arith, common_steps);
  taken = ap cell_at (get-push_same xs s) ∙ fresh.0;
  others = λ t ne. ap cell_at (get-push_other xs t s ne);
  roots = λ t. elim (eqb_tells t (length xs)) [
    | inl p ↦ subst (λ j. roots_of (xs ++ s ∷ []) j ≡ roots_of xs j) (sym p.1)
        (ap count_in (get-push_same xs s) ∙ fresh.1 ∙ sym (ap count_in (slice_get_past xs (length xs) (omega arith))))
    | inr p ↦ ap count_in (get-push_other xs t s p.1)
  ];
  free = ap cell_at (slice_get_past xs (length xs) (omega arith));
}

pub Unrooted-puts : (xs ys : List Slot) (i : ℕ) (x : Cell) → Puts xs ys i x → Unrooted xs → Unrooted ys
Unrooted-puts xs ys i x p old t e = p.roots t ∙ elim (eqb_tells t i) [
  | inl q ↦ (let a : heap_of ys i ≡ None = subst (λ j. heap_of ys j ≡ None) q.1 e in let b : heap_of ys i ≡ Some x = p.taken in cc)
  | inr q ↦ old t (sym (p.others t q.1) ∙ e)
]
