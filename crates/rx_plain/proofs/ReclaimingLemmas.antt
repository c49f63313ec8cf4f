-- What a store keeps when the slots that are not marked are freed.
use Rattle.std.proofs.Common.{List, [], length, map, take, get_or, ℕ, zero, suc, ◌≡◌, ◌+◌, ◌≤◌, ◌<◌, Bool, true, false, Option, Some}
use Rattle.std.proofs.Common.{None, IsSome, is_some, refl, sym, ap, ◌∙◌, subst, inl, inr, arith, Contains, vec_capacity, add-one}
use Rattle.std.specs.Prelude.{if◌then◌else◌, count_by}
use Rattle.std.specs.FinMap as fin
use Rattle.std.specs.Ordering.{nat_cmp}
use Rattle.std.proofs.lemmas.Option.{slice_get-get_or}
use Rattle.std.proofs.Math.Seq.{take-length, drop-length}
use Rattle.std.proofs.lemmas.List.{append-nil}
use Rattle.std.proofs.Common.{drop, ◌++◌}
use Rattle.std.proofs.lemmas.List.Sums.{count_by_more_no, count_by_more_yes, count_by-le-length}
use Rattle.rx_term.specs.Tree.{Tree}
use Rattle.rx_term.specs.Parts.{parts}
use Rattle.rx_term.specs.Store.{tree_at}
use Rattle.rx_term.specs.Steps.{Reclaims, IsReached, IsKeptRoot}
use Rattle.rx_term.specs.Heap.{Cell, Table, links, tree_of, tabulate, put_some, kept_slots, Least, IsDistinct, is_whole, content_of, content_by}
use Rattle.rx_term.specs.declared.Term.{Term}
use Rattle.rx_term.proofs.HeapLemmas.{least, whole-at, past-tabulate}
use Rattle.rx_term.proofs.StoreLemmas.{some-value, len-insert-new}
use Rattle.rx_term.proofs.ContentLemmas.{untaken, content-at, cell-of}
use Rattle.rx_term.proofs.ReclaimLemmas.{kept-whole, kept-heap, kept-content, only-content, kept-part, linked-part, link-part}
use Rattle.rx_names.specs.Names.{symbols_of}
use Rattle.rx_plain.specs.Slots.{heap_of, roots_of, marks_of, is_taken, swept_of, cell_at}
use Rattle.rx_plain.specs.Marks.{Reaches, IsStart, AreLinksWithin}
use Rattle.rx_plain.specs.State.{store_of, store_from}
use Rattle.rx_plain.proofs.SweepLemmas.{swept-heap, swept-roots, swept-length}
use Rattle.rx_plain.specs.Inner.Soundness.{table, taken-le, cell-within, bank-heap, sound}
use Rattle.rx_term.proofs.BankLemmas.{same_ref}
use Rattle.rx_plain.proofs.ReadingLemmas.{held-cell, cell-there}
use Rattle.rx_term.proofs.BankLemmas.{whole-along, content-unique}
use Rattle.rx_plain.specs.declared.slots.Slot.{Slot}
use Rattle.rx_plain.specs.declared.bank.PlainBank.{PlainBank}

-- as many trees as taken slots
module _ (zs : List Slot) (m : Table) (n : ℕ) (whole : is_whole (heap_of zs) m (length zs) n ≡ true) where
  free_slot : Slot
  free_slot = record { body = None; roots = 0; mark = false }

  taken-at : (k : ℕ) → k < length zs → is_some (heap_of zs k) ≡ is_taken (get_or zs k free_slot)
  taken-at k lt = ap (λ o. is_some (cell_at o)) (slice_get-get_or zs k free_slot lt) ∙ cell-there (get_or zs k free_slot).body

  tabulate-count : (k : ℕ) → k ≤ length zs → fin.len (tabulate k (tree_of (heap_of zs) m n)) ≡ count_by is_taken (take k zs)
  tabulate-count zero le = fin.len-empty nat_cmp Tree
  tabulate-count (suc k) le = by_cell (heap_of zs k) refl (tabulate-count k (omega arith)) where
    f : ℕ → Option Tree
    f = tree_of (heap_of zs) m n

    put-none : (o : Option Tree) → o ≡ None → fin.len (tabulate k f) ≡ count_by is_taken (take k zs) → is_taken (get_or zs k free_slot) ≡ false
        → fin.len (put_some (tabulate k f) k o) ≡ count_by is_taken (take (suc k) zs)
    put-none o q before free = rw q (before ∙ sym (count_by_more_no is_taken zs k free_slot (omega arith) free)
        ∙ ap (λ j. count_by is_taken (take j zs)) (add-one k))

    put-some : (o : Option Tree) (u : Tree) → o ≡ Some u → fin.len (tabulate k f) ≡ count_by is_taken (take k zs)
        → is_taken (get_or zs k free_slot) ≡ true → fin.len (put_some (tabulate k f) k o) ≡ count_by is_taken (take (suc k) zs)
    put-some o u q before there =
        let a = len-insert-new (tabulate k f) k u (past-tabulate k k f (omega arith)) in
        let b = count_by_more_yes is_taken zs k free_slot (omega arith) there in
        let c : count_by is_taken (take (k + 1) zs) ≡ count_by is_taken (take (suc k) zs) = ap (λ j. count_by is_taken (take j zs)) (add-one k) in
        rw q (omega (arith, a, b, c, before))

    by_cell : (o : Option Cell) → heap_of zs k ≡ o → fin.len (tabulate k f) ≡ count_by is_taken (take k zs)
        → fin.len (put_some (tabulate k f) k (f k)) ≡ count_by is_taken (take (suc k) zs)
    by_cell None q before = put-none (f k) (untaken (heap_of zs) m n k q) before (sym (taken-at k (omega arith)) ∙ ap is_some q)
    by_cell (Some x) q before =
        let v = some-value (f k) (whole-at (heap_of zs) m (length zs) n k whole (omega arith) (ap is_some q)) in
        put-some (f k) v.0 v.1 before (sym (taken-at k (omega arith)) ∙ ap is_some q)

pub count-content : (zs : List Slot) (m : Table) (w : Least (is_whole (heap_of zs) m (length zs)))
    → fin.len (content_by (heap_of zs) m (length zs) w) ≡ count_by is_taken zs
unfolding content_by
count-content zs m w = tabulate-count zs m w.0 w.1.passes (length zs) (omega arith) ∙ ap (count_by is_taken) (take-length zs)

module _ (b : PlainBank) (marked ys : List Slot) (extra : List Term) (r : Reaches b.slots.items marked extra) (swept : ys ≡ map swept_of marked)
    (held : (t : Term) → Contains extra t → IsSome (tree_at (store_of b) t)) where
  abbrev keep : ℕ → Bool
  keep = marks_of marked

  closed-keep : (t i : ℕ) (x : Cell) → keep t ≡ true → heap_of b.slots.items t ≡ Some x → Contains (links x) i → keep i ≡ true
  closed-keep t i x k e c = r.closed t i x k (ap (λ h. h t) r.heap ∙ e) c

  heap-after : heap_of ys ≡ kept_slots keep (heap_of b.slots.items)
  heap-after = ap heap_of swept ∙ (λ j t. swept-heap marked t j) ∙ ap (kept_slots keep) r.heap

  pub reclaimed-len : length ys ≡ length b.slots.items
  reclaimed-len = ap length swept ∙ swept-length marked ∙ r.len

  whole-after : is_whole (kept_slots keep (heap_of b.slots.items)) (table b) (length b.slots.items) b.whole.0 ≡ true
  whole-after = kept-whole (heap_of b.slots.items) (table b) (length b.slots.items) b.whole.0 (bank-heap b) keep closed-keep

  least-after : Least (is_whole (kept_slots keep (heap_of b.slots.items)) (table b) (length b.slots.items))
  least-after = least (is_whole (kept_slots keep (heap_of b.slots.items)) (table b) (length b.slots.items)) b.whole.0 whole-after

  pub reclaimed-whole : Least (is_whole (heap_of ys) (table b) (length ys))
  reclaimed-whole = whole-along (table b) (kept_slots keep (heap_of b.slots.items)) (heap_of ys) (length b.slots.items) (length ys) heap-after
      reclaimed-len least-after

  content-after : (w : Least (is_whole (heap_of ys) (table b) (length ys)))
      → content_by (heap_of ys) (table b) (length ys) w ≡ content_of (kept_slots keep (heap_of b.slots.items)) (table b) (length b.slots.items) least-after.0
  unfolding content_by
  content-after w = content-unique (table b) (kept_slots keep (heap_of b.slots.items)) (heap_of ys) (length b.slots.items) (length ys) heap-after
      reclaimed-len least-after w

  pub reclaimed-distinct : IsDistinct (heap_of ys)
  reclaimed-distinct = subst IsDistinct (sym heap-after) (kept-heap (heap_of b.slots.items) (table b) (length b.slots.items) b.whole.0 (bank-heap b)
      keep closed-keep b.whole.0 whole-after).distinct

  -- what is not kept is not rooted
  not-rooted : (t : ℕ) → keep t ≡ false → roots_of b.slots.items t ≡ 0
  not-rooted t k = by_count (roots_of b.slots.items t) refl where
    by_count : (c : ℕ) → roots_of b.slots.items t ≡ c → roots_of b.slots.items t ≡ 0
    by_count zero e = e
    by_count (suc c) e = absurd (let p : keep t ≡ true = r.started t (inl (omega (arith, e))) in cc)

  pub reclaimed-roots : roots_of ys ≡ roots_of b.slots.items
  reclaimed-roots = ap roots_of swept ∙ (λ j t. at t j) where
    by_mark : (t : ℕ) (k : Bool) → keep t ≡ k → (if k then roots_of marked t else 0) ≡ roots_of b.slots.items t
    by_mark t true e = ap (λ f. f t) r.roots
    by_mark t false e = sym (not-rooted t e)

    at : (t : ℕ) → roots_of (map swept_of marked) t ≡ roots_of b.slots.items t
    at t = swept-roots marked t ∙ by_mark t (keep t) refl

  pub reclaimed-unrooted : (t : ℕ) → heap_of ys t ≡ None → roots_of ys t ≡ 0
  reclaimed-unrooted t e = ap (λ f. f t) reclaimed-roots ∙ by_mark (keep t) refl (sym (ap (λ h. h t) heap-after) ∙ e) where
    by_mark : (k : Bool) → keep t ≡ k → (if k then heap_of b.slots.items t else None) ≡ None → roots_of b.slots.items t ≡ 0
    by_mark true k q = b.unrooted t q
    by_mark false k q = not-rooted t k

  -- a slot to begin with is held
  start-held : (s : ℕ) → IsStart b.slots.items extra s → IsSome (fin.get (store_of b).content s)
  start-held s h = elim h [
    | inl p ↦ (sound b).rooted_held (record { 0 = s }) p
    | inr p ↦ subst (λ k. IsSome (fin.get (store_of b).content k)) p.2 (held p.0 p.1)
  ]

  kept-root : (s : Term) → IsKeptRoot (store_of b) extra s → keep s.0 ≡ true
  kept-root s h = r.started s.0 (elim h [ inl p ↦ inl p | inr p ↦ inr (s, p, refl) ])

  root-kept : (s : ℕ) → IsStart b.slots.items extra s → IsKeptRoot (store_of b) extra (record { 0 = s })
  root-kept s h = elim h [ inl p ↦ inl p | inr p ↦ inr (subst (Contains extra) (same_ref p.0 (record { 0 = s }) p.2) p.1) ]

  module _ (w : Least (is_whole (heap_of ys) (table b) (length ys))) where
    kept-after : (t : Term) (u : Tree) → tree_at (store_of b) t ≡ Some u → IsReached (store_of b) extra u
        → fin.get (content_by (heap_of ys) (table b) (length ys) w) t.0 ≡ Some u
    unfolding content_by
    kept-after t u e (s, (v, root, at, part)) =
        let k = kept-part (heap_of b.slots.items) (table b) (length b.slots.items) b.whole.0 (bank-heap b) keep closed-keep least-after.0
        least-after.1.passes s.0 t.0 u v (kept-root s root) at part e in
        ap (λ c. fin.get c t.0) (content-after w) ∙ kept-content (heap_of b.slots.items) (table b) (length b.slots.items) b.whole.0 (bank-heap b) keep
        closed-keep least-after.0 least-after.1.passes t.0 u k e

    only-after : (t : Term) (u : Tree) → fin.get (content_by (heap_of ys) (table b) (length ys) w) t.0 ≡ Some u
        → (tree_at (store_of b) t ≡ Some u) × IsReached (store_of b) extra u
    unfolding content_by
    only-after t u e =
        let o = only-content (heap_of b.slots.items) (table b) (length b.slots.items) b.whole.0 (bank-heap b) keep closed-keep least-after.0
        least-after.1.passes t.0 u (sym (ap (λ c. fin.get c t.0) (content-after w)) ∙ e) in
        let l = linked-part (heap_of b.slots.items) (table b) (length b.slots.items) b.whole.0 (bank-heap b) (IsStart b.slots.items extra) start-held
        t.0 (r.only t.0 o.0) in
        let same : l.1.1.0 ≡ u = (let p = l.1.1.3 in let q = o.1 in cc) in
        (o.1, (record { 0 = l.0 }, (l.1.0, root-kept l.0 l.1.1.1, l.1.1.2, subst (Contains (parts l.1.0)) same l.1.1.4)))

    pub reclaimed : (taken : ℕ) → taken ≡ count_by is_taken ys → Reclaims (store_of b)
        (store_from (symbols_of b.names) ys w b.cap taken (vec_capacity b.slots)) extra
    reclaimed taken count = record {
      kept = kept-after;
      only = only-after;
      beside = record { symbols = refl; roots = reclaimed-roots; cap = refl };
      room = (
          let after = count-content ys (table b) w in
          let before = b.counted in
          let shorter = count_by-le-length is_taken ys in
          let len = reclaimed-len in
          let bounded = b.bounded in
          let stored = b.slots.ok in
          let old = taken-le b in
          omega arith);
    }

-- a store's slots name slots of the store
pub bank-within : (b : PlainBank) → AreLinksWithin b.slots.items
unfolding content_by
bank-within b t i x e c =
    let v = whole-at (heap_of b.slots.items) (table b) (length b.slots.items) b.whole.0 t b.whole.1.passes (cell-within b.slots.items t x e) (ap is_some e) in
    let u = some-value (tree_of (heap_of b.slots.items) (table b) b.whole.0 t) v in
    let at = content-at (heap_of b.slots.items) (table b) (length b.slots.items) b.whole.0 (bank-heap b) t ∙ u.1 in
    let y = cell-of (heap_of b.slots.items) (table b) (length b.slots.items) b.whole.0 (bank-heap b) t u.0 at in
    let same : y.0 ≡ x = (let p = y.1 in cc) in
    let w = link-part (λ k. fin.get (store_of b).content k) (table b) y.0 u.0 i y.2 (subst (λ z. Contains (links z) i) (sym same) c) in
    let z = held-cell b i (ap is_some w.1) in
    cell-within b.slots.items i z.0 z.1

-- a vector's slots after a write of them all
abbrev pub written : ℕ → List Slot → List Slot → List Slot
written n xs items = take n (xs ++ drop (length xs) items)

pub written-same : (n : ℕ) (xs items : List Slot) → n ≡ length items → length xs ≡ length items → written n xs items ≡ xs
written-same n xs items p q =
    let gone : drop (length xs) items ≡ [] = ap (λ k. drop k items) q ∙ drop-length items in
    ap (λ k. take k (xs ++ drop (length xs) items)) (p ∙ sym q) ∙ ap (λ zs. take (length xs) (xs ++ zs)) gone ∙ ap (take (length xs)) (append-nil xs)
    ∙ take-length xs

-- both writes back, of the marked slots and then of the swept ones, are whole
pub swept-back : (n : ℕ) (xs marked read new : List Slot) → n ≡ length xs → length marked ≡ length xs → read ≡ written n marked xs
    → new ≡ map swept_of read → (written n new (written n marked xs) ≡ new) × (new ≡ map swept_of marked)
swept-back n xs marked read new size len seen frees =
    let back = written-same n marked xs size len in
    let done : new ≡ map swept_of marked = frees ∙ ap (map swept_of) (seen ∙ back) in
    let fits : length new ≡ length (written n marked xs) = ap length done ∙ swept-length marked ∙ sym (ap length back) in
    (written-same n new (written n marked xs) (size ∙ sym len ∙ sym (ap length back)) fits, done)
