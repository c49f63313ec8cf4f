-- Cells that name one another: their trees are unique, differ where the cells do, and outlive the cells that they do not name.
use Rattle.std.proofs.Common.{◌++◌, ℕ, suc, zero, ◌≡◌, ◌≢◌, ◌⊎◌, ◌+◌, ◌≤◌, ◌<◌, Bool, true, false, Option, Some}
use Rattle.std.proofs.Common.{None, IsSome, is_some, refl, sym, ap, ◌∙◌, subst, inl, inr, arith, Contains, eq-eqb}
use Rattle.std.proofs.lemmas.Bool.{eqb-true}
use Rattle.std.specs.Cmp.Derive.{both_true}
use Rattle.std.specs.Prelude.{IsTrue}
use Rattle.rx_term.proofs.TreeLemmas.{both_parts}
use Rattle.std.specs.Prelude.{if◌then◌else◌}
use Rattle.std.specs.Option.{option_and_then}
use Rattle.std.specs.FinMap as map
use Rattle.std.specs.Ordering.{nat_cmp}
use Rattle.std.proofs.lemmas.Bool.Decides.{eqb_tells, nat_tests}
use Rattle.std.specs.FinMap.{gets}
use Rattle.std.specs.Prelude.{not, ◌||◌}
use Rattle.std.proofs.Math.Dec.{eqb}
use Rattle.rx_term.specs.Tree.{Tree, Int, Appl, Items, Hole, Trees, none, more, count_of, annotated, annotations, is_i32, is_tree, are_trees}
use Rattle.rx_term.specs.Parts.{parts, list_parts, annotation_parts}
use Rattle.rx_term.proofs.PartsLemmas.{cons_cases, no_element, list_parts-parts, notes-part, item-part, rest-part, args-part, inner-part}
use Rattle.std.proofs.lemmas.List.Elements.{Contains-append_cases}
use Rattle.rx_term.specs.Name.{Signature}
use Rattle.rx_term.specs.Store.{longer, applied, held_open}
use Rattle.rx_term.specs.Heap.{Node, number, empty, pair, application, placeholder, Cell, Heap, Table, with_notes, node_tree, noted_tree}
use Rattle.rx_term.specs.Heap.{cell_tree, put_some, tabulate, tree_of, Notes, Says, IsDistinct, IsTable, is_whole, IsLeast}

eqb_same : (n : ℕ) → eqb n n ≡ true
eqb_same n = eq-eqb n n refl

module _ (c d : ℕ → Option Tree) (m n : Table) (known_symbol : (s : ℕ) (g : Signature) → m s ≡ Some g → n s ≡ Some g) where
  Notes-some : (u : Tree) (l : Option ℕ) (anns : Trees) → annotations u ≡ anns
      → ((k : ℕ) (v : Tree) → Contains (parts u) v → c k ≡ Some v → d k ≡ Some v) → Notes c l anns → Notes d l anns
  Notes-some u l none e known h = h
  Notes-some u l (more v vs) e known (i, a, b) = (i, a, known _ _ (notes-part u v vs e) b)

  -- a cell says the same where the parts of its tree are known in the same places
  pub Says-some : (x : Cell) (u : Tree) → ((k : ℕ) (v : Tree) → Contains (parts u) v → c k ≡ Some v → d k ≡ Some v) → Says c m x u → Says d n x u
  Says-some x (Int z anns) known (a, f, t) = (a, f, Notes-some (Int z anns) _ _ refl known t)
  Says-some x (Items none anns) known (a, t) = (a, Notes-some (Items none anns) _ _ refl known t)
  Says-some x (Items (more v vs) anns) known (i, (j, e, a, b, t)) =
      (i, (j, e, known i v (item-part v vs anns) a, known j (Items vs none) (rest-part v vs anns) b, Notes-some (Items (more v vs) anns) _ _ refl known t))
  Says-some x (Appl name quoted args anns) known (s, (j, e, g, b, t)) =
      (s, (j, e, known_symbol _ _ g, known j (Items args none) (args-part name quoted args anns) b, Notes-some (Appl name quoted args anns) _ _ refl known t))
  Says-some x (Hole v anns) known (i, e, a, t) =
      (i, e, known i v (inner-part v anns) a, Notes-some (Hole v anns) _ _ refl known t)

module _ (c : ℕ → Option Tree) (m : Table) where
  noted-said : (o : Option Tree) (l : Option ℕ) (u : Tree) (anns : Trees) → o ≡ Some u → annotated u none ≡ u → Notes c l anns
      → noted_tree c o l ≡ Some (annotated u anns)
  noted-said o l u none e plain h = rw (h, e, plain) refl
  noted-said o l u (more v vs) e plain (i, a, b) = rw (a, e, b) refl

  -- a cell of a tree has this tree
  pub said : (x : Cell) (u : Tree) → Says c m x u → cell_tree c m x ≡ Some u
  said x (Int z anns) (a, f, n) = noted-said _ _ (Int z none) anns (rw a (rw f refl)) refl n
  said x (Items none anns) (a, n) = noted-said _ _ (Items none none) anns (rw a refl) refl n
  said x (Items (more v vs) anns) (i, (j, e, a, b, n)) = noted-said _ _ (Items (more v vs) none) anns (rw (e, a, b) refl) refl n
  said x (Appl name quoted args anns) (s, (j, e, g, b, n)) = noted-said _ _ (Appl name quoted args none) anns
      (rw (e, g, b) (rw (eqb_same (count_of args)) refl)) refl n
  said x (Hole v anns) (i, e, a, n) = noted-said _ _ (Hole v none) anns (rw (e, a) refl) refl n

  -- what the four ways to make a tree were given
  longer-parts : (a b : Option Tree) (u : Tree) → longer a b ≡ Some u
      → (x : Tree) × ((xs : Trees) × (a ≡ Some x) × (b ≡ Some (Items xs none)) × (Items (more x xs) none ≡ u))
  longer-parts None b u e = cc
  longer-parts (Some x) None u e = cc
  longer-parts (Some x) (Some (Int z anns)) u e = cc
  longer-parts (Some x) (Some (Appl name quoted args anns)) u e = cc
  longer-parts (Some x) (Some (Items xs none)) u e = (x, (xs, refl, refl, cc))
  longer-parts (Some x) (Some (Items xs (more y ys))) u e = cc
  longer-parts (Some x) (Some (Hole v anns)) u e = cc

pub if-some : (b : Bool) (t u : Tree) → (if b then Some t else None) ≡ Some u → (b ≡ true) × (t ≡ u)
if-some true t u e = (refl, cc)
if-some false t u e = cc

applied-parts : (g : Option Signature) (b : Option Tree) (u : Tree) → applied g b ≡ Some u
    → (s : Signature) × ((args : Trees) × (g ≡ Some s) × (b ≡ Some (Items args none)) × (count_of args ≡ s.arity) × (Appl s.name s.quoted args none ≡ u))
applied-parts None b u e = cc
applied-parts (Some s) None u e = cc
applied-parts (Some s) (Some (Int z anns)) u e = cc
applied-parts (Some s) (Some (Appl name quoted args anns)) u e = cc
applied-parts (Some s) (Some (Items xs none)) u e =
    let p = if-some (eqb (count_of xs) s.arity) (Appl s.name s.quoted xs none) u e in
    (s, (xs, refl, refl, eqb-true _ _ p.0, p.1))
applied-parts (Some s) (Some (Items xs (more y ys))) u e = cc
applied-parts (Some s) (Some (Hole v anns)) u e = cc

held_open-parts : (a : Option Tree) (u : Tree) → held_open a ≡ Some u → (x : Tree) × (a ≡ Some x) × (Hole x none ≡ u)
held_open-parts None u e = cc
held_open-parts (Some x) u e = (x, refl, cc)

pub with_notes-parts : (a b : Option Tree) (u : Tree) → with_notes a b ≡ Some u
    → (t : Tree) × ((x : Tree) × ((xs : Trees) × (a ≡ Some t) × (b ≡ Some (Items (more x xs) none)) × (annotated t (more x xs) ≡ u)))
with_notes-parts None b u e = cc
with_notes-parts (Some x) None u e = cc
with_notes-parts (Some x) (Some (Int z anns)) u e = cc
with_notes-parts (Some x) (Some (Appl name quoted args anns)) u e = cc
with_notes-parts (Some x) (Some (Items none anns)) u e = cc
with_notes-parts (Some x) (Some (Items (more y ys) none)) u e = (x, (y, (ys, refl, refl, cc)))
with_notes-parts (Some x) (Some (Items (more y ys) (more z zs))) u e = cc
with_notes-parts (Some x) (Some (Hole v anns)) u e = cc

module _ (c : ℕ → Option Tree) (m : Table) where
  pub node-says : (n : Node) (l : Option ℕ) (u : Tree) (anns : Trees) → node_tree c m n ≡ Some u → Notes c l anns
      → Says c m (record { node = n; notes = l }) (annotated u anns) × (annotated u none ≡ u)
  node-says (number z) l u anns e h =
      let p = if-some (is_i32 z) (Int z none) u e in
      subst (λ v. Says c m (record { node = number z; notes = l }) (annotated v anns) × (annotated v none ≡ v)) p.1 ((refl, p.0, h), refl)
  node-says empty l u anns e h =
      let q : Items none none ≡ u = cc in
      subst (λ v. Says c m (record { node = empty; notes = l }) (annotated v anns) × (annotated v none ≡ v)) q ((refl, h), refl)
  node-says (pair i j) l u anns e h =
      let p = longer-parts c m (c i) (c j) u e in
      subst (λ v. Says c m (record { node = pair i j; notes = l }) (annotated v anns) × (annotated v none ≡ v)) p.1.3 ((i, (j, refl, p.1.1, p.1.2, h)), refl)
  node-says (application s j) l u anns e h =
      let p = applied-parts (m s) (c j) u e in
      let g = p.0 in
      let e' : m s ≡ Some (record { name = g.name; quoted = g.quoted; arity = count_of p.1.0 }) =
      p.1.1 ∙ ap (λ n. Some (record { name = g.name; quoted = g.quoted; arity = n })) (sym p.1.3) in
      subst (λ v. Says c m (record { node = application s j; notes = l }) (annotated v anns) × (annotated v none ≡ v)) p.1.4
      ((s, (j, refl, e', p.1.2, h)), refl)
  node-says (placeholder i) l u anns e h =
      let p = held_open-parts (c i) u e in
      subst (λ v. Says c m (record { node = placeholder i; notes = l }) (annotated v anns) × (annotated v none ≡ v)) p.2 ((i, refl, p.1, h), refl)

  noted-says : (n : Node) (l : Option ℕ) (u : Tree) → noted_tree c (node_tree c m n) l ≡ Some u → Says c m (record { node = n; notes = l }) u
  noted-says n None u e = let p = node-says n None u none e refl in subst (Says c m (record { node = n; notes = None })) p.1 p.0
  noted-says n (Some a) u e =
      let p = with_notes-parts (node_tree c m n) (c a) u e in
      let q = node-says n (Some a) p.0 (more p.1.0 p.1.1.0) p.1.1.1 (a, refl, p.1.1.2) in
      subst (Says c m (record { node = n; notes = Some a })) p.1.1.3 q.0

  -- a cell that has a tree is one of this tree
  pub says : (x : Cell) (u : Tree) → cell_tree c m x ≡ Some u → Says c m x u
  says x u e = noted-says x.node x.notes u e

-- two cells of one tree are alike, if each tree is in one place only
module _ (c d : ℕ → Option Tree) (m : Table) (one_place : (i j : ℕ) (v : Tree) → c i ≡ Some v → d j ≡ Some v → i ≡ j)
    (one_symbol : (s t : ℕ) (g : Signature) → m s ≡ Some g → m t ≡ Some g → s ≡ t) where
  Notes-alike : (k l : Option ℕ) (anns : Trees) → Notes c k anns → Notes d l anns → k ≡ l
  Notes-alike k l none a b = cc
  Notes-alike k l (more v vs) (i, a, p) (j, b, q) = let e : i ≡ j = one_place i j _ p q in cc

  same_cell : (x y : Cell) → x.node ≡ y.node → x.notes ≡ y.notes → x ≡ y
  same_cell x y p q = λ i. record { node = p i; notes = q i }

  pub Says-alike : (x y : Cell) (u : Tree) → Says c m x u → Says d m y u → x ≡ y
  Says-alike x y (Int z anns) (a, f, t) (b, g, s) = same_cell x y (cc) (Notes-alike _ _ anns t s)
  Says-alike x y (Items none anns) (a, t) (b, s) = same_cell x y (cc) (Notes-alike _ _ anns t s)
  Says-alike x y (Items (more v vs) anns) (i, (j, e, a, b, t)) (i', (j', e', a', b', s)) =
      let p : i ≡ i' = one_place _ _ _ a a' in
      let q : j ≡ j' = one_place _ _ _ b b' in
      same_cell x y (cc) (Notes-alike _ _ anns t s)
  Says-alike x y (Appl name quoted args anns) (i, (j, e, a, b, t)) (i', (j', e', a', b', s)) =
      let p : i ≡ i' = one_symbol _ _ _ a a' in
      let q : j ≡ j' = one_place _ _ _ b b' in
      same_cell x y (cc) (Notes-alike _ _ anns t s)
  Says-alike x y (Hole v anns) (i, e, a, t) (i', e', a', s) =
      let p : i ≡ i' = one_place _ _ _ a a' in
      same_cell x y (cc) (Notes-alike _ _ anns t s)

module _ (h : Heap) (m : Table) where
  -- a slot with a tree holds a cell of it
  pub opens : (n t : ℕ) (u : Tree) → tree_of h m n t ≡ Some u → (k : ℕ) × ((x : Cell) × (n ≡ suc k) × (h t ≡ Some x) × Says (tree_of h m k) m x u)
  unfolding tree_of
  opens zero t u e = cc
  opens (suc k) t u e = opened (h t) refl e where
    opened : (o : Option Cell) → h t ≡ o → option_and_then (cell_tree (tree_of h m k) m) o ≡ Some u
        → (j : ℕ) × ((x : Cell) × (suc k ≡ suc j) × (h t ≡ Some x) × Says (tree_of h m j) m x u)
    opened None q e = cc
    opened (Some x) q e = (k, (x, refl, q, says (tree_of h m k) m x u e))

  -- a slot that holds a cell of a tree has that tree
  pub closes : (k t : ℕ) (x : Cell) (u : Tree) → h t ≡ Some x → Says (tree_of h m k) m x u → tree_of h m (suc k) t ≡ Some u
  unfolding tree_of
  closes k t x u e s = rw e (said (tree_of h m k) m x u s)

pub lt_or_le : (t n : ℕ) → (t < n) ⊎ (n ≤ t)
lt_or_le t zero = inr (omega arith)
lt_or_le t (suc n) = elim (eqb_tells t n) [
  | inl p ↦ inl (omega (arith, p.1))
  | inr p ↦ elim (lt_or_le t n)
      [ inl q ↦ inl (omega arith) | inr q ↦ inr (omega (arith, p.1)) ]
]

-- a larger heap and table, and a larger depth, keep each tree
pub kept-tree_of : (h g : Heap) (m l : Table) → ((t : ℕ) (x : Cell) → h t ≡ Some x → g t ≡ Some x)
    → ((s : ℕ) (d : Signature) → m s ≡ Some d → l s ≡ Some d) → (n k t : ℕ) (u : Tree) → n ≤ k → tree_of h m n t ≡ Some u → tree_of g l k t ≡ Some u
kept-tree_of h g m l cells symbols zero k t u le e = let o = opens h m zero t u e in absurd (omega (arith, o.1.1))
kept-tree_of h g m l cells symbols (suc n) zero t u le e = absurd (omega arith)
kept-tree_of h g m l cells symbols (suc n) (suc k) t u le e =
    let o = opens h m (suc n) t u e in
    let j : o.0 ≡ n = omega (arith, o.1.1) in
    let s = subst (λ j. Says (tree_of h m j) m o.1.0 u) j o.1.3 in
    closes g l k t o.1.0 u (cells _ _ o.1.2) (Says-some (tree_of h m n) (tree_of g l k) m l symbols o.1.0 u (λ i v _ p.
    kept-tree_of h g m l cells symbols n k i v (omega arith) p) s)

module _ (h : Heap) (m : Table) where
  pub deeper : (n k t : ℕ) (u : Tree) → n ≤ k → tree_of h m n t ≡ Some u → tree_of h m k t ≡ Some u
  deeper = kept-tree_of h h m m (λ t x e. e) (λ s g e. e)

  -- a slot has one tree at most
  pub one_tree : (n k t : ℕ) (u v : Tree) → tree_of h m n t ≡ Some u → tree_of h m k t ≡ Some v → u ≡ v
  one_tree n k t u v p q =
      let a : tree_of h m (n + k) t ≡ Some u = deeper n (n + k) t u (omega arith) p in
      let b : tree_of h m (n + k) t ≡ Some v = deeper k (n + k) t v (omega arith) q in
      cc

-- a part of a tree is the tree, or a part of the tree of a slot that the cell names
abbrev FromLink : (ℕ → Option Tree) → Tree → Type 0
FromLink c v = (i : ℕ) × ((w : Tree) × (c i ≡ Some w) × Contains (parts w) v)

module _ (c : ℕ → Option Tree) (m : Table) where
  notes-in : (l : Option ℕ) (anns : Trees) (v : Tree) → Notes c l anns → Contains (annotation_parts anns) v → FromLink c v
  notes-in l none v n h = absurd (no_element _ h)
  notes-in l (more w ws) v (i, a, b) h = (i, (Items (more w ws) none, b, subst (λ ps. Contains ps v) (list_parts-parts (more w ws)) h))

  pub part-in : (x : Cell) (u v : Tree) → Says c m x u → Contains (parts u) v → (u ≡ v) ⊎ FromLink c v
  part-in x (Int z anns) v (a, f, t) h =
      elim (cons_cases (Int z anns) (annotation_parts anns) v h) [ inl e ↦ inl e | inr q ↦ inr (notes-in _ anns v t q) ]
  part-in x (Items none anns) v (a, t) h =
      elim (cons_cases (Items none anns) (annotation_parts anns) v h) [ inl e ↦ inl e | inr q ↦ inr (notes-in _ anns v t q) ]
  part-in x (Items (more w ws) anns) v (i, (j, e, a, b, t)) h =
      elim (cons_cases (Items (more w ws) anns) ((parts w ++ list_parts ws) ++ annotation_parts anns) v h) [
        | inl e ↦ inl e
        | inr q ↦ elim (Contains-append_cases (parts w ++ list_parts ws) (annotation_parts anns) v q) [
          | inl r ↦ elim (Contains-append_cases (parts w) (list_parts ws) v r) [
            | inl y ↦ inr (i, (w, a, y))
            | inr y ↦ inr (j, (Items ws none, b, subst (λ ps. Contains ps v) (list_parts-parts ws) y))
          ]
          | inr r ↦ inr (notes-in _ anns v t r)
        ]
      ]
  part-in x (Appl name quoted args anns) v (s, (j, e, g, b, t)) h =
      elim (cons_cases (Appl name quoted args anns) (list_parts args ++ annotation_parts anns) v h) [
        | inl e ↦ inl e
        | inr q ↦ elim (Contains-append_cases (list_parts args) (annotation_parts anns) v q) [
          | inl y ↦ inr (j, (Items args none, b, subst (λ ps. Contains ps v) (list_parts-parts args) y))
          | inr r ↦ inr (notes-in _ anns v t r)
        ]
      ]
  part-in x (Hole w anns) v (i, e, a, t) h =
      elim (cons_cases (Hole w anns) (parts w ++ annotation_parts anns) v h) [
        | inl e ↦ inl e
        | inr q ↦ elim (Contains-append_cases (parts w) (annotation_parts anns) v q) [
          | inl y ↦ inr (i, (w, a, y))
          | inr r ↦ inr (notes-in _ anns v t r)
        ]
      ]

module _ (h : Heap) (m : Table) where
  -- each part of a slot's tree has a slot
  pub reaches : (n t : ℕ) (u v : Tree) → tree_of h m n t ≡ Some u → Contains (parts u) v → (s : ℕ) × ((k : ℕ) × (tree_of h m k s ≡ Some v))
  reaches zero t u v e p = let o = opens h m zero t u e in absurd (omega (arith, o.1.1))
  reaches (suc n) t u v e p =
      let o = opens h m (suc n) t u e in
      let j : o.0 ≡ n = omega (arith, o.1.1) in
      let s = subst (λ j. Says (tree_of h m j) m o.1.0 u) j o.1.3 in
      elim (part-in (tree_of h m n) m o.1.0 u v s p) [
        | inl q ↦ (t, (suc n, e ∙ ap (λ w. let y : Option Tree = Some w in y) q))
        | inr q ↦ reaches n q.0 q.1.0 v q.1.1 q.1.2
      ]

  -- a tree is in one slot only, if no two slots hold the same
  pub one_place : IsDistinct h → IsTable m → (n k s t : ℕ) (u : Tree) → tree_of h m n s ≡ Some u → tree_of h m k t ≡ Some u → s ≡ t
  one_place d q zero k s t u a b = let o = opens h m zero s u a in absurd (omega (arith, o.1.1))
  one_place d q (suc n) k s t u a b =
      let o = opens h m (suc n) s u a in
      let p = opens h m k t u b in
      let j : o.0 ≡ n = omega (arith, o.1.1) in
      let said = subst (λ j. Says (tree_of h m j) m o.1.0 u) j o.1.3 in
      let e : o.1.0 ≡ p.1.0 = Says-alike (tree_of h m n) (tree_of h m p.0) m (λ i j v x y. one_place d q n p.0 i j v x y) q.apart o.1.0 p.1.0 u said p.1.3 in
      let held : IsSome (h s) = ap is_some o.1.2 in
      d s t held (o.1.2 ∙ ap (λ w. let y : Option Cell = Some w in y) e ∙ sym p.1.2)

-- a cell's tree is valid where the trees of slots are
module _ (c : ℕ → Option Tree) (m : Table) (table : IsTable m) (each : (i : ℕ) (v : Tree) → c i ≡ Some v → IsTrue (is_tree v)) where
  items-valid : (i : ℕ) (ts : Trees) → c i ≡ Some (Items ts none) → are_trees ts ≡ true
  items-valid i ts e = (both_parts (are_trees ts) true (each i (Items ts none) e)).0

  notes-valid : (l : Option ℕ) (anns : Trees) → Notes c l anns → are_trees anns ≡ true
  notes-valid l none n = refl
  notes-valid l (more v vs) (i, a, b) = items-valid i (more v vs) b

  pub valid-cell : (x : Cell) (u : Tree) → Says c m x u → IsTrue (is_tree u)
  valid-cell x (Int z anns) (a, f, n) = both_true f (notes-valid _ anns n)
  valid-cell x (Items none anns) (a, n) = both_true refl (notes-valid _ anns n)
  valid-cell x (Items (more v vs) anns) (i, (j, e, a, b, n)) = both_true (both_true (each i v a) (items-valid j vs b)) (notes-valid _ anns n)
  valid-cell x (Appl name quoted args anns) (s, (j, e, g, b, n)) =
      both_true (both_true (table.valid s (record { name = name; quoted = quoted; arity = count_of args }) g) (items-valid j args b)) (notes-valid _ anns n)
  valid-cell x (Hole v anns) (i, e, a, n) = both_true (each i v a) (notes-valid _ anns n)

pub valid-tree : (h : Heap) (m : Table) → IsTable m → (n t : ℕ) (u : Tree) → tree_of h m n t ≡ Some u → IsTrue (is_tree u)
valid-tree h m table zero t u e = let o = opens h m zero t u e in absurd (omega (arith, o.1.1))
valid-tree h m table (suc n) t u e =
    let o = opens h m (suc n) t u e in
    let j : o.0 ≡ n = omega (arith, o.1.1) in
    valid-cell (tree_of h m n) m table (valid-tree h m table n) o.1.0 u (subst (λ j. Says (tree_of h m j) m o.1.0 u) j o.1.3)

put-same : {X : Type 0} (m : map.FinMap nat_cmp X) (k : ℕ) (o : Option X) → map.get m k ≡ None → map.get (put_some m k o) k ≡ o
put-same m k None e = e
put-same m k (Some v) e = grind (arith, gets, nat_tests)

put-other : {X : Type 0} (m : map.FinMap nat_cmp X) (k q : ℕ) (o : Option X) → q ≢ k → map.get (put_some m k o) q ≡ map.get m q
put-other m k q None n = refl
put-other m k q (Some v) n = grind (arith, gets, nat_tests)

-- what is at each key of a table of values
pub past-tabulate : {X : Type 0} (len q : ℕ) (f : ℕ → Option X) → len ≤ q → map.get (tabulate len f) q ≡ None
past-tabulate zero q f le = map.get-empty nat_cmp q
past-tabulate (suc k) q f le = put-other (tabulate k f) k q (f k) (λ e. omega arith) ∙ past-tabulate k q f (omega arith)

pub get-tabulate : {X : Type 0} (len q : ℕ) (f : ℕ → Option X) → q < len → map.get (tabulate len f) q ≡ f q
get-tabulate zero q f lt = absurd (omega arith)
get-tabulate (suc k) q f lt = elim (eqb_tells q k) [
  | inl p ↦ subst (λ j. map.get (put_some (tabulate k f) k (f k)) j ≡ f j) (sym p.1) (put-same (tabulate k f) k (f k) (past-tabulate k k f (omega arith)))
  | inr p ↦ put-other (tabulate k f) k q (f k) p.1 ∙ get-tabulate k q f (omega (arith, p.1))
]

-- the slots of a whole heap have trees
cell_whole : (a b : Bool) → (not a || b) ≡ true → a ≡ true → b ≡ true
cell_whole true b e h = e
cell_whole false b e h = cc

pub whole-at : (h : Heap) (m : Table) (len n t : ℕ) → is_whole h m len n ≡ true → t < len → IsSome (h t) → IsSome (tree_of h m n t)
whole-at h m zero n t e lt held = absurd (omega arith)
whole-at h m (suc k) n t e lt held =
    let p = both_parts _ _ e in
    elim (eqb_tells t k) [
      | inl q ↦ subst (λ j. IsSome (tree_of h m n j)) (sym q.1) (cell_whole _ _ p.0 (subst (λ j. IsSome (h j)) q.1 held))
      | inr q ↦ whole-at h m k n t p.1 (omega (arith, q.1)) held
    ]

cell_whole-from : (a b : Bool) → (a ≡ true → b ≡ true) → (not a || b) ≡ true
cell_whole-from true b f = f refl
cell_whole-from false b f = refl

pub whole-from : (h : Heap) (m : Table) (len n : ℕ) → ((t : ℕ) → t < len → IsSome (h t) → IsSome (tree_of h m n t)) → is_whole h m len n ≡ true
whole-from h m zero n each = refl
whole-from h m (suc k) n each = both_true (cell_whole-from _ _ (each k (omega arith))) (whole-from h m k n (λ t lt. each t (omega arith)))

-- a number that passes leads to the least one
pub least : (p : ℕ → Bool) (n : ℕ) → p n ≡ true → (k : ℕ) × IsLeast p k
least p zero e = (zero, record { passes = e; none_below = λ k lt. absurd (omega arith) })
least p (suc n) e = found (p zero) refl (λ _. least (λ j. p (suc j)) n e) where
  found : (b : Bool) → p zero ≡ b → (Unit {0} → (k : ℕ) × IsLeast (λ j. p (suc j)) k) → (k : ℕ) × IsLeast p k
  found true q f = (zero, record { passes = q; none_below = λ k lt. absurd (omega arith) })
  found false q f =
      let r = f tt in
      (suc r.0, record { passes = r.1.passes; none_below = λ k. below r.0 r.1 q k })
    where
      below : (r : ℕ) → IsLeast (λ j. p (suc j)) r → p zero ≡ false → (k : ℕ) → k < suc r → p k ≡ false
      below r l q zero lt = q
      below r l q (suc k) lt = l.none_below k (omega arith)
