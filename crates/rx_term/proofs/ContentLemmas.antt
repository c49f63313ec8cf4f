-- The content of a heap: what a new cell adds to it.
use Rattle.std.proofs.Common.{ℕ, suc, zero, ◌≡◌, ◌≢◌, ◌≤◌, ◌<◌, true, Option, Some, None, IsSome}
use Rattle.std.proofs.Common.{is_some, IsTrue, refl, sym, ap, ◌∙◌, subst, inl, inr, arith, Contains}
use Rattle.std.specs.Ordering.{nat_cmp}
use Rattle.std.specs.Cmp.{nat_cmp_total}
use Rattle.std.specs.FinMap as map
use Rattle.std.proofs.lemmas.Bool.Decides.{eqb_tells}
use Rattle.rx_term.specs.Tree.{Tree, is_tree}
use Rattle.rx_term.specs.Parts.{parts}
use Rattle.rx_term.specs.Name.{Signature}
use Rattle.rx_term.specs.Heap.{Cell, Heap, Table, tree_of, Says, IsHeap, IsTable, IsDistinct, is_whole, content_of, tabulate, put_some}
use Rattle.rx_term.proofs.StoreLemmas.{some-value, inserted, not_inserted, len-insert-new}
use Rattle.rx_term.proofs.HeapLemmas.{valid-tree, opens, closes, Says-some, Says-alike, kept-tree_of, lt_or_le}
use Rattle.rx_term.proofs.HeapLemmas.{one_tree, one_place, reaches, get-tabulate, past-tabulate, whole-at, whole-from}

pub untaken : (h : Heap) (m : Table) (n t : ℕ) → h t ≡ None → tree_of h m n t ≡ None
unfolding tree_of
untaken h m zero t e = refl
untaken h m (suc n) t e = rw e refl

module _ (h : Heap) (m : Table) (len n : ℕ) (heap : IsHeap h m len n) where
  -- the tree that a slot has
  abbrev at : ℕ → Option Tree
  at t = map.get (content_of h m len n) t

  pub content-at : (t : ℕ) → map.get (content_of h m len n) t ≡ tree_of h m n t
  content-at t = elim (lt_or_le t len) [
    | inl lt ↦ get-tabulate len t (tree_of h m n) lt
    | inr le ↦ past-tabulate len t (tree_of h m n) le ∙ sym (untaken h m n t (heap.bounded t le))
  ]

  -- a tree found at any depth is in the content
  pub known : (k t : ℕ) (u : Tree) → tree_of h m k t ≡ Some u → map.get (content_of h m len n) t ≡ Some u
  known k t u e =
      let o = opens h m k t u e in
      let held : IsSome (h t) = ap is_some o.1.2 in
      elim (lt_or_le t len) [
        | inl lt ↦ (
            let v = some-value (tree_of h m n t) (whole-at h m len n t heap.whole lt held) in
            content-at t ∙ v.1 ∙ ap (λ w. let y : Option Tree = Some w in y) (one_tree h m n k t v.0 u v.1 e))
        | inr le ↦ (let p : h t ≡ None = heap.bounded t le in let q : h t ≡ Some o.1.0 = o.1.2 in cc)
      ]

  -- a slot that holds a cell of a tree has that tree
  pub holds-cell : (t : ℕ) (x : Cell) (u : Tree) → h t ≡ Some x → Says at m x u → map.get (content_of h m len n) t ≡ Some u
  holds-cell t x u e s =
      known (suc n) t u (closes h m n t x u e (Says-some at (tree_of h m n) m m (λ s g q. q) x u (λ k v _ q. sym (content-at k) ∙ q) s))

  -- and a slot with a tree holds a cell of it
  pub cell-of : (t : ℕ) (u : Tree) → map.get (content_of h m len n) t ≡ Some u → (x : Cell) × (h t ≡ Some x) × Says at m x u
  cell-of t u e =
      let o = opens h m n t u (sym (content-at t) ∙ e) in
      (o.1.0, o.1.2, Says-some (tree_of h m o.0) at m m (λ s g q. q) o.1.0 u (λ k v _ q. known o.0 k v q) o.1.3)

  pub content-one_place : (s t : ℕ) (u : Tree) → map.get (content_of h m len n) s ≡ Some u → map.get (content_of h m len n) t ≡ Some u → s ≡ t
  content-one_place s t u a b = one_place h m heap.distinct heap.symbols n n s t u (sym (content-at s) ∙ a) (sym (content-at t) ∙ b)

  pub content-closed : (t : ℕ) (u v : Tree) → map.get (content_of h m len n) t ≡ Some u → Contains (parts u) v
      → (s : ℕ) × (map.get (content_of h m len n) s ≡ Some v)
  content-closed t u v e p = let r = reaches h m n t u v (sym (content-at t) ∙ e) p in (r.0, known r.1.0 r.0 v r.1.1)

  -- each tree is valid
  pub content-valid : (t : ℕ) (u : Tree) → map.get (content_of h m len n) t ≡ Some u → IsTrue (is_tree u)
  content-valid t u e = valid-tree h m heap.symbols n t u (sym (content-at t) ∙ e)

  -- if no slot holds a cell, none has its tree
  pub absent-tree : (x : Cell) (u : Tree) → Says at m x u → ((t : ℕ) → h t ≢ Some x) → (t : ℕ) → map.get (content_of h m len n) t ≢ Some u
  absent-tree x u s nowhere t e =
      let y = cell-of t u e in
      let same : y.0 ≡ x = Says-alike at at m content-one_place heap.symbols.apart y.0 x u y.2 s in
      nowhere t (y.1 ∙ ap (λ w. let z : Option Cell = Some w in z) same)

-- a new cell in a free slot: the heap with it is one, and its tree is added to the content
module _ (h g : Heap) (m : Table) (len wide n i : ℕ) (x : Cell) (u : Tree) (heap : IsHeap h m len n)
    (wider : len ≤ wide) (within : i < wide) (free : h i ≡ None) (taken : g i ≡ Some x) (others : (t : ℕ) → t ≢ i → g t ≡ h t)
    (new : (t : ℕ) → h t ≢ Some x) (says_tree : Says (at h m len n heap) m x u) where
  grown : (t : ℕ) (y : Cell) → h t ≡ Some y → g t ≡ Some y
  grown t y e = elim (eqb_tells t i) [
    | inl p ↦ (let a : h i ≡ Some y = subst (λ j. h j ≡ Some y) p.1 e in cc)
    | inr p ↦ others t p.1 ∙ e
  ]

  old-tree : (t : ℕ) (v : Tree) → tree_of h m n t ≡ Some v → tree_of g m (suc n) t ≡ Some v
  old-tree t v e = kept-tree_of h g m m grown (λ s d q. q) n (suc n) t v (omega arith) e

  new-tree : tree_of g m (suc n) i ≡ Some u
  new-tree = closes g m n i x u taken (Says-some (at h m len n heap) (tree_of g m n) m m (λ s d q. q) x u (λ k v _ q.
      kept-tree_of h g m m grown (λ s d p. p) n n k v (omega arith) (sym (content-at h m len n heap k) ∙ q)) says_tree)

  pub new-whole : is_whole g m wide (suc n) ≡ true
  new-whole = whole-from g m wide (suc n) (λ t lt held. elim (eqb_tells t i) [
    | inl p ↦ subst (λ j. IsSome (tree_of g m (suc n) j)) (sym p.1) (ap is_some new-tree)
    | inr p ↦ (
        let old : IsSome (h t) = subst IsSome (others t p.1) held in
        let y = some-value (h t) old in
        elim (lt_or_le t len) [
          | inl below ↦ (let v = some-value (tree_of h m n t) (whole-at h m len n t heap.whole below old) in ap is_some (old-tree t v.0 v.1))
          | inr above ↦ (let q : h t ≡ None = heap.bounded t above in let r : h t ≡ Some y.0 = y.1 in absurd (let z : ⊥ = cc in z))
        ])
  ])

  pub new-distinct : IsDistinct g
  new-distinct s t held e = elim (eqb_tells s i) [
    | inl p ↦ elim (eqb_tells t i) [
      | inl q ↦ p.1 ∙ sym q.1
      | inr q ↦ absurd (new t (sym (others t q.1) ∙ sym e ∙ ap g p.1 ∙ taken))
    ]
    | inr p ↦ elim (eqb_tells t i) [
      | inl q ↦ absurd (new s (sym (others s p.1) ∙ e ∙ ap g q.1 ∙ taken))
      | inr q ↦ heap.distinct s t (subst IsSome (others s p.1) held) (sym (others s p.1) ∙ e ∙ others t q.1)
    ]
  ]

  pub new-heap : (k : ℕ) → is_whole g m wide k ≡ true → IsHeap g m wide k
  new-heap k w = record {
    bounded = λ t le. others t (λ e. omega arith) ∙ heap.bounded t (omega arith);
    distinct = new-distinct;
    whole = w;
    symbols = heap.symbols;
  }

  module _ (k : ℕ) (whole : is_whole g m wide k ≡ true) where
    pub new-made : map.get (content_of g m wide k) i ≡ Some u
    new-made = known g m wide k (new-heap k whole) (suc n) i u new-tree

    pub new-others : (t : ℕ) → t ≢ i → map.get (content_of g m wide k) t ≡ map.get (content_of h m len n) t
    new-others t ne = as_before (map.get (content_of h m len n) t) refl where
      as_before : (o : Option Tree) → map.get (content_of h m len n) t ≡ o → map.get (content_of g m wide k) t ≡ o
      as_before (Some v) e = known g m wide k (new-heap k whole) (suc n) t v (old-tree t v (sym (content-at h m len n heap t) ∙ e))
      as_before None e = content-at g m wide k (new-heap k whole) t ∙ untaken g m k t (others t ne ∙ empty_slot (h t) refl) where
        empty_slot : (o : Option Cell) → h t ≡ o → h t ≡ None
        empty_slot None q = q
        empty_slot (Some y) q = elim (lt_or_le t len) [
          | inl lt ↦ (let v = some-value (tree_of h m n t) (whole-at h m len n t heap.whole lt (ap is_some q)) in
              let z : map.get (content_of h m len n) t ≡ Some v.0 = content-at h m len n heap t ∙ v.1 in cc)
          | inr le ↦ heap.bounded t le
        ]

    pub new-content : content_of g m wide k ≡ map.insert (content_of h m len n) i u
    new-content = map.same_map nat_cmp_total map.nat_cmp-IsAntisymmetric _ _ (λ q. elim (eqb_tells q i) [
      | inl p ↦ subst (λ j. map.get (content_of g m wide k) j ≡ map.get (map.insert (content_of h m len n) i u) j) (sym p.1)
          (new-made ∙ sym (inserted (content_of h m len n) i u))
      | inr p ↦ new-others q p.1 ∙ sym (not_inserted (content_of h m len n) i q u p.1)
    ])

-- a content has as many trees as slots at most, and as many if each slot has one
pub len-tabulate-le : (len : ℕ) (f : ℕ → Option Tree) → map.len (tabulate len f) ≤ len
len-tabulate-le zero f = let e = map.len-empty nat_cmp Tree in omega arith
len-tabulate-le (suc k) f = put_len (f k) (len-tabulate-le k f) where
  put_len : (o : Option Tree) → map.len (tabulate k f) ≤ k → map.len (put_some (tabulate k f) k o) ≤ suc k
  put_len None le = omega arith
  put_len (Some v) le = let e = len-insert-new (tabulate k f) k v (past-tabulate k k f (omega arith)) in omega arith

pub len-tabulate-all : (len : ℕ) (f : ℕ → Option Tree) → ((t : ℕ) → t < len → IsSome (f t)) → map.len (tabulate len f) ≡ len
len-tabulate-all zero f each = map.len-empty nat_cmp Tree
len-tabulate-all (suc k) f each = put_len (f k) (each k (omega arith)) (len-tabulate-all k f (λ t lt. each t (omega arith))) where
  put_len : (o : Option Tree) → IsSome o → map.len (tabulate k f) ≡ k → map.len (put_some (tabulate k f) k o) ≡ suc k
  put_len None some e = cc
  put_len (Some v) some e = let q = len-insert-new (tabulate k f) k v (past-tabulate k k f (omega arith)) in omega arith

-- more symbols: the heap is one still, with the same content
module _ (h : Heap) (m l : Table) (len n : ℕ) (heap : IsHeap h m len n)
    (grows : (s : ℕ) (g : Signature) → m s ≡ Some g → l s ≡ Some g) (table : IsTable l) where
  same-tree : (t : ℕ) (v : Tree) → tree_of h m n t ≡ Some v → tree_of h l n t ≡ Some v
  same-tree t v e = kept-tree_of h h m l (λ s x q. q) grows n n t v (omega arith) e

  pub table-whole : is_whole h l len n ≡ true
  table-whole = whole-from h l len n (λ t lt held. (let v = some-value (tree_of h m n t) (whole-at h m len n t heap.whole lt held) in
      ap is_some (same-tree t v.0 v.1)))

  pub table-heap : (k : ℕ) → is_whole h l len k ≡ true → IsHeap h l len k
  table-heap k w = record { bounded = heap.bounded; distinct = heap.distinct; whole = w; symbols = table }

  pub table-content : (k : ℕ) → is_whole h l len k ≡ true → content_of h l len k ≡ content_of h m len n
  table-content k w = map.same_map nat_cmp_total map.nat_cmp-IsAntisymmetric _ _ (λ t. as_before t (map.get (content_of h m len n) t) refl) where
    as_before : (t : ℕ) (o : Option Tree) → map.get (content_of h m len n) t ≡ o → map.get (content_of h l len k) t ≡ o
    as_before t (Some v) e = known h l len k (table-heap k w) n t v (same-tree t v (sym (content-at h m len n heap t) ∙ e))
    as_before t None e = content-at h l len k (table-heap k w) t ∙ untaken h l k t (empty_slot (h t) refl) where
      empty_slot : (o : Option Cell) → h t ≡ o → h t ≡ None
      empty_slot None q = q
      empty_slot (Some y) q = elim (lt_or_le t len) [
        | inl lt ↦ (let v = some-value (tree_of h m n t) (whole-at h m len n t heap.whole lt (ap is_some q)) in
            let z : map.get (content_of h m len n) t ≡ Some v.0 = content-at h m len n heap t ∙ v.1 in cc)
        | inr le ↦ heap.bounded t le
      ]
