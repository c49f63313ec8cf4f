-- Another count in one slot.
use Rattle.std.proofs.Common.{List, length, ℕ, ◌≡◌, ◌≤◌, ◌<◌, None, IsSome, refl, sym, ap, ◌∙◌, subst, inl, inr, arith, vec_capacity, get_or}
use Rattle.std.proofs.lemmas.Bool.Decides.{eqb_tells}
use Rattle.std.proofs.lemmas.Option.{slice_get-get_or}
use Rattle.rx_term.specs.Steps.{with_count}
use Rattle.rx_term.specs.Heap.{Least, is_whole}
use Rattle.rx_names.specs.Names.{symbols_of}
use Rattle.rx_term.specs.declared.Term.{Term}
use Rattle.rx_plain.specs.declared.slots.Slot.{Slot}
use Rattle.rx_plain.specs.Slots.{heap_of, roots_of, cell_at, count_in}
use Rattle.rx_plain.specs.State.{store_of, store_from}
use Rattle.rx_plain.proofs.SlotLemmas.{get-set_same, get-set_other}
use Rattle.std.specs.Prelude.{slice_set, if◌then◌else◌, ◌==◌}
use Rattle.std.proofs.lemmas.Grind.{elements}
use Rattle.rx_plain.specs.declared.bank.PlainBank.{PlainBank}
use Rattle.rx_plain.specs.Inner.Soundness.{table}
use Rattle.rx_term.proofs.BankLemmas.{content-unique}
use Rattle.rx_plain.proofs.ReadingLemmas.{read-cell}

-- another count in one slot
abbrev pub recounted : Slot → ℕ → Slot
recounted s n = record { body = s.body; roots = n; mark = s.mark }

module _ (xs : List Slot) (i : ℕ) (s : Slot) (n : ℕ) (lt : i < length xs) (here : s ≡ get_or xs i s) where
  pub recount-heap : heap_of (slice_set xs i (recounted s n)) ≡ heap_of xs
  recount-heap = λ j t. at t j where
    at : (t : ℕ) → heap_of (slice_set xs i (recounted s n)) t ≡ heap_of xs t
    at t = elim (eqb_tells t i) [
      | inl p ↦ subst (λ k. heap_of (slice_set xs i (recounted s n)) k ≡ heap_of xs k) (sym p.1)
          (ap cell_at (get-set_same xs i (recounted s n) lt) ∙ sym (read-cell xs i s lt here))
      | inr p ↦ ap cell_at (get-set_other xs i t (recounted s n) p.1)
    ]

  pub recount-roots : roots_of (slice_set xs i (recounted s n)) ≡ (λ k. if k == i then n else roots_of xs k)
  recount-roots = λ j t. at t j where
    at : (t : ℕ) → roots_of (slice_set xs i (recounted s n)) t ≡ (if t == i then n else roots_of xs t)
    at t = elim (eqb_tells t i) [
      | inl p ↦ rw p.0 (subst (λ k. roots_of (slice_set xs i (recounted s n)) k ≡ n) (sym p.1) (ap count_in (get-set_same xs i (recounted s n) lt)))
      | inr p ↦ rw p.0 (ap count_in (get-set_other xs i t (recounted s n) p.1))
    ]

  pub read-roots : roots_of xs i ≡ s.roots
  read-roots = ap count_in (slice_get-get_or xs i s lt) ∙ ap (λ r. r.roots) (sym here)

  pub recount-len : length (slice_set xs i (recounted s n)) ≡ length xs
  recount-len = grind (arith, elements)

-- a count more or less changes nothing else
pub recount-store : (b : PlainBank) (t : Term) (s : Slot) (n : ℕ) (lt : t.0 < length b.slots.items) (here : s ≡ get_or b.slots.items t.0 s)
    (w : Least (is_whole (heap_of (slice_set b.slots.items t.0 (recounted s n))) (table b) (length (slice_set b.slots.items t.0 (recounted s n)))))
    → store_from (symbols_of b.names) (slice_set b.slots.items t.0 (recounted s n)) w b.cap b.taken (vec_capacity b.slots) ≡ with_count (store_of b) t n
recount-store b t s n lt here w =
    let ys = slice_set b.slots.items t.0 (recounted s n) in
    let content = content-unique (table b) (heap_of b.slots.items) (heap_of ys) (length b.slots.items) (length ys)
    (recount-heap b.slots.items t.0 s n lt here) (recount-len b.slots.items t.0 s n lt here) b.whole w in
    let roots = recount-roots b.slots.items t.0 s n lt here in
    λ j. record { content = content j; symbols = symbols_of b.names; roots = roots j; cap = b.cap; spare = (store_of b).spare }

-- another count in a taken slot keeps what is known of counts
pub recount-unrooted : (xs : List Slot) (i : ℕ) (s : Slot) (n : ℕ) (lt : i < length xs) (here : s ≡ get_or xs i s) → IsSome (heap_of xs i)
    → ((t : ℕ) → heap_of xs t ≡ None → roots_of xs t ≡ 0) → (t : ℕ) → heap_of (slice_set xs i (recounted s n)) t ≡ None
    → roots_of (slice_set xs i (recounted s n)) t ≡ 0
recount-unrooted xs i s n lt here taken old t e =
    let before : heap_of xs t ≡ None = sym (ap (λ h. h t) (recount-heap xs i s n lt here)) ∙ e in
    elim (eqb_tells t i) [
      | inl p ↦ absurd (let a : IsSome (heap_of xs t) = subst (λ k. IsSome (heap_of xs k)) (sym p.1) taken in let z : ⊥ = cc in z)
      | inr p ↦ ap (λ r. r t) (recount-roots xs i s n lt here) ∙ rw p.0 (old t before)
    ]

pub recount-counts : (xs : List Slot) (i : ℕ) (s : Slot) (n : ℕ) (lt : i < length xs) (here : s ≡ get_or xs i s) → n ≤ 65535
    → ((t : ℕ) → roots_of xs t ≤ 65535) → (t : ℕ) → roots_of (slice_set xs i (recounted s n)) t ≤ 65535
recount-counts xs i s n lt here fits old t =
    let e = ap (λ r. r t) (recount-roots xs i s n lt here) in
    elim (eqb_tells t i) [
      | inl p ↦ subst (λ k. k ≤ 65535) (sym (e ∙ rw p.0 refl)) fits
      | inr p ↦ subst (λ k. k ≤ 65535) (sym (e ∙ rw p.0 refl)) (old t)
    ]
