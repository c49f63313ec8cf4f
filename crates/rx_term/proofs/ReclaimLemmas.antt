-- What stays of a heap whose kept slots name kept slots alone.
use Rattle.std.proofs.Common.{[], ◌∷◌, ◌++◌, ℕ, suc, zero, ◌≡◌, ◌⊎◌, Bool, true, false, Option, Some, None}
use Rattle.std.proofs.Common.{IsSome, is_some, refl, sym, ap, ◌∙◌, subst, inl, inr, arith, Contains}
use Rattle.std.specs.Prelude.{if◌then◌else◌}
use Rattle.std.proofs.lemmas.List.Elements.{Contains-append_left, Contains-append_right, Contains-append_cases}
use Rattle.rx_term.specs.Tree.{Tree, Int, Appl, Items, Hole, Trees, none, more, annotations}
use Rattle.rx_term.specs.Parts.{parts}
use Rattle.rx_term.proofs.PartsLemmas.{cons_head, cons_tail, cons_cases, no_element, notes-part, item-part}
use Rattle.rx_term.proofs.PartsLemmas.{rest-part, args-part, inner-part, parts-self, parts-trans}
use Rattle.rx_term.specs.Heap.{Node, number, empty, pair, application, placeholder, IsLinked, start, along, Cell}
use Rattle.rx_term.specs.Heap.{Heap, Table, tree_of, Notes, Says, links, node_links, notes_links, kept_slots}
use Rattle.std.specs.FinMap as map
use Rattle.rx_term.specs.Heap.{IsHeap, is_whole, content_of}
use Rattle.rx_term.proofs.ContentLemmas.{known, content-at, cell-of, content-closed, content-one_place}
use Rattle.rx_term.proofs.StoreLemmas.{some-value}
use Rattle.rx_term.proofs.HeapLemmas.{whole-at, whole-from, opens, closes, kept-tree_of}

-- what a cell says of the slots that it names, told of each of them alone
module _ (c d : ℕ → Option Tree) (m : Table) (x : Cell) (known : (i : ℕ) (v : Tree) → Contains (links x) i → c i ≡ Some v → d i ≡ Some v) where
  note-link : (i : ℕ) → x.notes ≡ Some i → Contains (links x) i
  note-link i e = Contains-append_right (node_links x.node) (notes_links x.notes) i (rw e (cons_head i []))

  node-link : (n : Node) (i : ℕ) → x.node ≡ n → Contains (node_links n) i → Contains (links x) i
  node-link n i e h = Contains-append_left (node_links x.node) (notes_links x.notes) i (rw e h)

  Notes-linked : (anns : Trees) → Notes c x.notes anns → Notes d x.notes anns
  Notes-linked none h = h
  Notes-linked (more v vs) (i, a, b) = (i, a, known i _ (note-link i a) b)

  pub Says-linked : (u : Tree) → Says c m x u → Says d m x u
  Says-linked (Int z anns) (a, f, t) = (a, f, Notes-linked anns t)
  Says-linked (Items none anns) (a, t) = (a, Notes-linked anns t)
  Says-linked (Items (more v vs) anns) (i, (j, e, a, b, t)) = (
    i,
    (
      j,
      e,
      known i v (node-link (pair i j) i e (cons_head i (j ∷ []))) a,
      known j (Items vs none) (node-link (pair i j) j e (cons_tail i (j ∷ []) j (cons_head j []))) b,
      Notes-linked anns t,
    ),
  )
  Says-linked (Appl name quoted args anns) (s, (j, e, g, b, t)) =
      (s, (j, e, g, known j (Items args none) (node-link (application s j) j e (cons_head j [])) b, Notes-linked anns t))
  Says-linked (Hole v anns) (i, e, a, t) = (i, e, known i v (node-link (placeholder i) i e (cons_head i [])) a, Notes-linked anns t)

module _ (h : Heap) (m : Table) (keep : ℕ → Bool) (closed : (t i : ℕ) (x : Cell) → keep t ≡ true → h t ≡ Some x → Contains (links x) i → keep i ≡ true) where
  stays : (t : ℕ) (x : Cell) → keep t ≡ true → h t ≡ Some x → kept_slots keep h t ≡ Some x
  stays t x k e = rw k e

  -- a kept slot has its tree still
  pub kept-tree : (n t : ℕ) (u : Tree) → keep t ≡ true → tree_of h m n t ≡ Some u → tree_of (kept_slots keep h) m n t ≡ Some u
  kept-tree zero t u k e = let o = opens h m zero t u e in absurd (omega (arith, o.1.1))
  kept-tree (suc n) t u k e =
      let o = opens h m (suc n) t u e in
      let j : o.0 ≡ n = omega (arith, o.1.1) in
      let s = subst (λ j. Says (tree_of h m j) m o.1.0 u) j o.1.3 in
      closes (kept_slots keep h) m n t o.1.0 u (stays t o.1.0 k o.1.2)
      (Says-linked (tree_of h m n) (tree_of (kept_slots keep h) m n) m o.1.0 (λ i v l q. kept-tree n i v (closed t i o.1.0 k o.1.2 l) q) u s)

  only-kept : (t : ℕ) (x : Cell) (b : Bool) → keep t ≡ b → (if b then h t else None) ≡ Some x → (keep t ≡ true) × (h t ≡ Some x)
  only-kept t x true k e = (k, e)
  only-kept t x false k e = cc

  -- and no other slot has a tree
  pub only-kept-tree : (n t : ℕ) (u : Tree) → tree_of (kept_slots keep h) m n t ≡ Some u → (keep t ≡ true) × (tree_of h m n t ≡ Some u)
  only-kept-tree n t u e =
      let o = opens (kept_slots keep h) m n t u e in (
        (only-kept t o.1.0 (keep t) refl o.1.2).0,
        kept-tree_of (kept_slots keep h) h m m (λ s x q. (only-kept s x (keep s) refl q).1) (λ s g q. q) n n t u (omega arith) e,
      )

-- the tree of a slot that a cell names is a part of the cell's tree
module _ (c : ℕ → Option Tree) (m : Table) where
  notes-linked : (u : Tree) (l : Option ℕ) (i : ℕ) → Notes c l (annotations u) → Contains (notes_links l) i → (v : Tree) × (c i ≡ Some v) × Contains (parts u) v
  notes-linked u l i n h = by_notes (annotations u) refl n where
    by_notes : (anns : Trees) → annotations u ≡ anns → Notes c l anns → (v : Tree) × (c i ≡ Some v) × Contains (parts u) v
    by_notes none e n = absurd (no_element _ (subst (λ k. Contains (notes_links k) i) n h))
    by_notes (more v vs) e (j, a, b) = elim (cons_cases j [] i (subst (λ k. Contains (notes_links k) i) a h)) [
      | inl q ↦ (Items (more v vs) none, ap c (sym q) ∙ b, notes-part u v vs e)
      | inr q ↦ absurd (no_element _ q)
    ]

  link-in : (n : Node) (l : Option ℕ) (x : Cell) (i : ℕ) → x.node ≡ n → x.notes ≡ l → Contains (links x) i
      → Contains (node_links n) i ⊎ Contains (notes_links l) i
  link-in n l x i e q h = Contains-append_cases (node_links n) (notes_links l) i
      (subst (λ k. Contains (node_links k ++ notes_links l) i) e (subst (λ k. Contains (node_links x.node ++ notes_links k) i) q h))

  one-link : (j i : ℕ) → Contains (j ∷ []) i → j ≡ i
  one-link j i h = elim (cons_cases j [] i h) [ inl e ↦ e | inr q ↦ absurd (no_element _ q) ]

  -- the tree of a slot that a cell names is a part of the cell's tree
  pub link-part : (x : Cell) (u : Tree) (i : ℕ) → Says c m x u → Contains (links x) i → (v : Tree) × (c i ≡ Some v) × Contains (parts u) v
  link-part x (Int z anns) i (a, f, n) h = elim (link-in (number z) x.notes x i a refl h)
      [ inl q ↦ absurd (no_element _ q) | inr q ↦ notes-linked (Int z anns) x.notes i n q ]
  link-part x (Items none anns) i (a, n) h = elim (link-in empty x.notes x i a refl h)
      [ inl q ↦ absurd (no_element _ q) | inr q ↦ notes-linked (Items none anns) x.notes i n q ]
  link-part x (Items (more v vs) anns) i (j, (k, e, a, b, n)) h = elim (link-in (pair j k) x.notes x i e refl h) [
    | inl q ↦ elim (cons_cases j (k ∷ []) i q) [
      | inl p ↦ (v, ap c (sym p) ∙ a, item-part v vs anns)
      | inr p ↦ (Items vs none, ap c (sym (one-link k i p)) ∙ b, rest-part v vs anns)
    ]
    | inr q ↦ notes-linked (Items (more v vs) anns) x.notes i n q
  ]
  link-part x (Appl name quoted args anns) i (s, (j, e, g, b, n)) h = elim (link-in (application s j) x.notes x i e refl h) [
    | inl q ↦ (Items args none, ap c (sym (one-link j i q)) ∙ b, args-part name quoted args anns)
    | inr q ↦ notes-linked (Appl name quoted args anns) x.notes i n q
  ]
  link-part x (Hole v anns) i (j, e, a, n) h = elim (link-in (placeholder j) x.notes x i e refl h) [
    | inl q ↦ (v, ap c (sym (one-link j i q)) ∙ a, inner-part v anns)
    | inr q ↦ notes-linked (Hole v anns) x.notes i n q
  ]

-- what is linked from some slots is linked from those that these are linked from
pub IsLinked-trans : {h : Heap} {P Q : ℕ → Type 0} {t : ℕ} → ((s : ℕ) → P s → IsLinked h Q s) → IsLinked h P t → IsLinked h Q t
IsLinked-trans f (start p) = f _ p
IsLinked-trans f (along l e c) = along (IsLinked-trans f l) e c

-- the tree of a linked slot is a part of the tree of a slot to begin with
module _ (h : Heap) (m : Table) (len n : ℕ) (heap : IsHeap h m len n) (from : ℕ → Type 0) (each : (s : ℕ) → from s
    → IsSome (map.get (content_of h m len n) s)) where
  pub linked-part : (t : ℕ) → IsLinked h from t
      → (s : ℕ) × ((u : Tree) × ((v : Tree) × from s × (map.get (content_of h m len n) s ≡ Some u) × (map.get (content_of h m len n) t ≡ Some v)
      × Contains (parts u) v))
  linked-part t (start p) = let u = some-value (map.get (content_of h m len n) t) (each t p) in (t, (u.0, (u.0, p, u.1, u.1, parts-self u.0)))
  linked-part i (along {t = t} {x = x} l e c) =
      let r = linked-part t l in
      let y = cell-of h m len n heap t r.1.1.0 r.1.1.3 in
      let same : y.0 ≡ x = (let p = y.1 in cc) in
      let w = link-part (λ k. map.get (content_of h m len n) k) m y.0 r.1.1.0 i y.2 (subst (λ z. Contains (links z) i) (sym same) c) in
      (r.0, (r.1.0, (w.0, r.1.1.1, r.1.1.2, w.1, parts-trans r.1.0 r.1.1.0 w.0 r.1.1.4 w.2)))

-- the kept slots of a whole heap are a whole heap, at the same depth
module _ (h : Heap) (m : Table) (len n : ℕ) (heap : IsHeap h m len n) (keep : ℕ → Bool) (closed : (t i : ℕ) (x : Cell) → keep t ≡ true → h t ≡ Some x
    → Contains (links x) i → keep i ≡ true) where
  some-kept : (t : ℕ) (b : Bool) → keep t ≡ b → IsSome (if b then h t else None) → (keep t ≡ true) × IsSome (h t)
  some-kept t true k s = (k, s)
  some-kept t false k s = cc

  pub kept-whole : is_whole (kept_slots keep h) m len n ≡ true
  kept-whole = whole-from (kept_slots keep h) m len n (λ t lt held. (
      let k = some-kept t (keep t) refl held in
      let v = some-value (tree_of h m n t) (whole-at h m len n t heap.whole lt k.1) in
      ap is_some (kept-tree h m keep closed n t v.0 k.0 v.1)))

  pub kept-heap : (d : ℕ) → is_whole (kept_slots keep h) m len d ≡ true → IsHeap (kept_slots keep h) m len d
  kept-heap d w = record {
    bounded = λ t le. none_of (keep t) (heap.bounded t le);
    distinct = λ s t held e. (
        let k = some-kept s (keep s) refl held in
        let x = some-value (h s) k.1 in
        let p : kept_slots keep h s ≡ Some x.0 = stays h m keep closed s x.0 k.0 x.1 in
        let q = only-kept h m keep closed t x.0 (keep t) refl (sym e ∙ p) in
        heap.distinct s t k.1 (x.1 ∙ sym q.1));
    whole = w;
    symbols = heap.symbols;
  } where
    none_of : (b : Bool) {t : ℕ} → h t ≡ None → (if b then h t else None) ≡ None
    none_of true e = e
    none_of false e = refl

  -- what a collection leaves: the kept references, with their trees
  module _ (d : ℕ) (w : is_whole (kept_slots keep h) m len d ≡ true) where
    pub kept-content : (t : ℕ) (u : Tree) → keep t ≡ true → map.get (content_of h m len n) t ≡ Some u
        → map.get (content_of (kept_slots keep h) m len d) t ≡ Some u
    kept-content t u k e = known (kept_slots keep h) m len d (kept-heap d w) n t u (kept-tree h m keep closed n t u k (sym (content-at h m len n heap t) ∙ e))

    pub only-content : (t : ℕ) (u : Tree) → map.get (content_of (kept_slots keep h) m len d) t ≡ Some u
        → (keep t ≡ true) × (map.get (content_of h m len n) t ≡ Some u)
    only-content t u e =
        let o = only-kept-tree h m keep closed d t u (sym (content-at (kept_slots keep h) m len d (kept-heap d w) t) ∙ e) in
        (o.0, known h m len n heap d t u o.1)

    -- a tree that is a part of a kept slot's tree keeps its slot
    pub kept-part : (r t : ℕ) (u v : Tree) → keep r ≡ true → map.get (content_of h m len n) r ≡ Some v → Contains (parts v) u
        → map.get (content_of h m len n) t ≡ Some u → keep t ≡ true
    kept-part r t u v k e p q =
        let s = content-closed (kept_slots keep h) m len d (kept-heap d w) r v u (kept-content r v k e) p in
        let o = only-content s.0 u s.1 in
        subst (λ j. keep j ≡ true) (content-one_place h m len n heap s.0 t u o.1 q) o.0
