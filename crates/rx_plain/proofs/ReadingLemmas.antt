-- What a read of a slot says of its tree.
use Rattle.std.proofs.Common.{List, length, ℕ, ◌≡◌, ◌<◌, Option, Some, None, IsSome, is_some, refl, sym, ap, ◌∙◌, subst, get_or, ℤ, arith}
use Rattle.std.specs.FinMap as map
use Rattle.std.proofs.lemmas.Option.{slice_get-get_or}
use Rattle.rx_term.specs.Tree.{Tree, Int, Items, Trees, none, more, annotated, annotations, is_i32}
use Rattle.std.specs.Option.{option_and_then}
use Rattle.rx_term.specs.Kinds.{HasAnns}
use Rattle.rx_term.specs.Store.{tree_at, part_at, anns_of, list_unless_empty}
use Rattle.rx_term.specs.Heap.{Cell, cell_tree, noted_tree, Notes, int_tree, content_by}
use Rattle.rx_term.proofs.HeapLemmas.{if-some, with_notes-parts, said}
use Rattle.rx_term.proofs.ContentLemmas.{cell-of}
use Rattle.rx_term.proofs.StoreLemmas.{some-value}
use Rattle.rx_term.proofs.NoteLemmas.{says-notes, anns-list}
use Rattle.rx_term.specs.declared.Term.{Term}
use Rattle.rx_plain.specs.declared.slots.Slot.{Slot}
use Rattle.rx_plain.specs.Slots.{notes_of, heap_of, cell_in, cell_at}
use Rattle.rx_plain.specs.State.{store_of}
use Rattle.rx_plain.specs.declared.slots.Body.{Body}
use Rattle.rx_plain.specs.declared.bank.PlainBank.{PlainBank}
use Rattle.rx_plain.specs.Inner.Soundness.{table, cell-within, bank-heap}

-- a held reference has a cell, which says its tree
pub held-cell : (b : PlainBank) (t : ℕ) → IsSome (map.get (store_of b).content t)
    → (x : Cell) × (heap_of b.slots.items t ≡ Some x) × (map.get (store_of b).content t ≡ cell_tree (λ k. map.get (store_of b).content k) (table b) x)
unfolding content_by
held-cell b t held =
    let u = some-value (map.get (store_of b).content t) held in
    let x = cell-of (heap_of b.slots.items) (table b) (length b.slots.items) b.whole.0 (bank-heap b) t u.0 u.1 in
    (x.0, x.1, u.1 ∙ sym (said (λ k. map.get (store_of b).content k) (table b) x.0 u.0 x.2))

-- and a slot
pub held-within : (b : PlainBank) (t : Term) → IsSome (tree_at (store_of b) t) → t.0 < length b.slots.items
held-within b t h = let x = held-cell b t.0 h in cell-within b.slots.items t.0 x.0 x.1

-- which the store's vector has
pub held-index : (b : PlainBank) (t : Term) → IsSome (tree_at (store_of b) t) → t.0 < b.slots.len
held-index b t h = let lt = held-within b t h in let size = b.slots.ok.0 in omega arith

-- what a read of a slot says of the heap
pub read-cell : (xs : List Slot) (t : ℕ) (s : Slot) → t < length xs → s ≡ get_or xs t s → heap_of xs t ≡ cell_in s.body
read-cell xs t s lt e = ap cell_at (slice_get-get_or xs t s lt) ∙ ap (λ r. cell_in r.body) (sym e)

pub body-there : (o : Option Body) → IsSome (cell_in o) → IsSome o
body-there None e = e
body-there (Some b) e = refl

pub cell-there : (o : Option Body) → is_some (cell_in o) ≡ is_some o
cell-there None = refl
cell-there (Some b) = refl

-- the tree of an integer's cell is an integer
pub int-cell : (c : ℕ → Option Tree) (o : Option Tree) (notes : Option ℕ) (z : ℤ) → o ≡ noted_tree c (int_tree z) notes → IsSome o
    → (anns : Trees) × (o ≡ Some (Int z anns))
int-cell c o None z e held =
    let u = some-value o held in
    let p = if-some (is_i32 z) (Int z none) u.0 (sym e ∙ u.1) in
    (none, u.1 ∙ ap (λ v. let w : Option Tree = Some v in w) (sym p.1))
int-cell c o (Some a) z e held =
    let u = some-value o held in
    let p = with_notes-parts (int_tree z) (c a) u.0 (sym e ∙ u.1) in
    let q = if-some (is_i32 z) (Int z none) p.0 p.1.1.1 in
    (more p.1.0 p.1.1.0, u.1 ∙ ap (λ v. let w : Option Tree = Some v in w) (sym p.1.1.3 ∙ ap (λ v. annotated v (more p.1.0 p.1.1.0)) (sym q.1)))

pub body-anns : (b : PlainBank) (t : Term) (o : Option Term) (x : Cell) → heap_of b.slots.items t.0 ≡ Some x → x.notes ≡ notes_of o
    → IsSome (tree_at (store_of b) t) → HasAnns (store_of b) t o
unfolding content_by
body-anns b t o x holds notes held = by_tree (annotations u.0) refl o refl where
  u : (v : Tree) × (tree_at (store_of b) t ≡ Some v)
  u = some-value (tree_at (store_of b) t) held

  known_notes : Notes (λ k. map.get (store_of b).content k) (notes_of o) (annotations u.0)
  known_notes = (
      let y = cell-of (heap_of b.slots.items) (table b) (length b.slots.items) b.whole.0 (bank-heap b) t.0 u.0 u.1 in
      let same : y.0 ≡ x = (let p = y.1 in let q = holds in cc) in
      let n = says-notes (λ k. map.get (store_of b).content k) (table b) y.0 u.0 y.2 in
      subst (λ l. Notes (λ k. map.get (store_of b).content k) l (annotations u.0)) (ap (λ z. z.notes) same ∙ notes) n)

  of_list : part_at anns_of (store_of b) t ≡ list_unless_empty (annotations u.0)
  of_list = ap (option_and_then anns_of) u.1 ∙ anns-list u.0

  by_tree : (anns : Trees) → annotations u.0 ≡ anns → (p : Option Term) → o ≡ p → HasAnns (store_of b) t p
  by_tree none e None q = of_list ∙ ap list_unless_empty e
  by_tree none e (Some a) q = absurd (let n : notes_of (Some a) ≡ None =
      subst (λ p. notes_of p ≡ None) q (subst (λ l. Notes (λ k. map.get (store_of b).content k) (notes_of o) l) e known_notes) in let z : ⊥ = cc in z)
  by_tree (more v vs) e None q =
      absurd (let n = subst (λ p. Notes (λ k. map.get (store_of b).content k) (notes_of p) (more v vs)) q
      (subst (λ l. Notes (λ k. map.get (store_of b).content k) (notes_of o) l) e known_notes) in let w : None ≡ Some n.0 = n.1 in let z : ⊥ = cc in z)
  by_tree (more v vs) e (Some a) q =
      let n = subst (λ p. Notes (λ k. map.get (store_of b).content k) (notes_of p) (more v vs)) q
      (subst (λ l. Notes (λ k. map.get (store_of b).content k) (notes_of o) l) e known_notes) in
      let w : a.0 ≡ n.0 = (let r : Some a.0 ≡ Some n.0 = n.1 in cc) in
      let listed : part_at anns_of (store_of b) t ≡ Some (Items (more v vs) none) = of_list ∙ ap list_unless_empty e in
      (ap is_some listed, ap (map.get (store_of b).content) w ∙ n.2 ∙ sym listed)
