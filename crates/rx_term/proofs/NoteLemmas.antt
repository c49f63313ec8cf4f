-- Annotations of a cell and of its tree.
use Rattle.std.proofs.Common.{ℕ, ◌≡◌, Option, Some, None, IsSome, is_some, refl, sym, ap, ◌∙◌}
use Rattle.std.specs.FinMap as map
use Rattle.rx_term.specs.Tree.{Tree, Int, Appl, Items, Hole, Trees, none, more, annotated, annotations}
use Rattle.rx_term.specs.Store.{Store, tree_at, noted, anns_of, list_unless_empty}
use Rattle.rx_term.specs.Heap.{Cell, Node, node_tree, with_notes, noted_tree, Table, Says, Notes}
use Rattle.rx_term.specs.Bank.{tree_of_cell, IsNotesOf}
use Rattle.rx_term.specs.declared.Term.{Term}
use Rattle.rx_term.proofs.HeapLemmas.{with_notes-parts, node-says}

annotated-twice : (u : Tree) (a c : Trees) → annotated (annotated u a) c ≡ annotated u c
annotated-twice (Int z anns) a c = refl
annotated-twice (Appl name quoted args anns) a c = refl
annotated-twice (Items items anns) a c = refl
annotated-twice (Hole v anns) a c = refl

-- what both sides of a make of annotations were given
noted-given : (a c : Option Tree) → IsSome (noted a c) → (t : Tree) × ((ts : Trees) × (a ≡ Some t) × (c ≡ Some (Items ts none)))
noted-given None c e = cc
noted-given (Some t) None e = cc
noted-given (Some t) (Some (Int z anns)) e = cc
noted-given (Some t) (Some (Appl name quoted args anns)) e = cc
noted-given (Some t) (Some (Items ts none)) e = (t, (ts, refl, refl))
noted-given (Some t) (Some (Items ts (more v vs))) e = cc
noted-given (Some t) (Some (Hole v anns)) e = cc

-- what gets annotations is held
pub noted-held : (a c : Option Tree) → IsSome (noted a c) → IsSome a
noted-held a c e = ap is_some (noted-given a c e).1.1

noted-at : (a c : Option Tree) (t : Tree) (ts : Trees) → a ≡ Some t → c ≡ Some (Items ts none) → noted a c ≡ Some (annotated t ts)
noted-at a c t ts p q = rw (p, q) refl

with_notes-at : (a c : Option Tree) (t v : Tree) (vs : Trees) → a ≡ Some t → c ≡ Some (Items (more v vs) none) → with_notes a c ≡ Some (annotated t (more v vs))
with_notes-at a c t v vs p q = rw (p, q) refl

-- the tree of a node below its annotations
bare : (c : ℕ → Option Tree) (m : Table) (n : Node) (l : Option ℕ) (t : Tree) → noted_tree c (node_tree c m n) l ≡ Some t
    → (u : Tree) × (node_tree c m n ≡ Some u) × (annotated u none ≡ u) × ((a : Trees) → annotated t a ≡ annotated u a)
bare c m n None t e = (t, e, (node-says c m n None t none e refl).1, λ a. refl)
bare c m n (Some i) t e =
    let p = with_notes-parts (node_tree c m n) (c i) t e in
    (p.0, p.1.1.1, (node-says c m n None p.0 none p.1.1.1 refl).1, λ a. ap (λ v. annotated v a) (sym p.1.1.3) ∙ annotated-twice p.0 (more p.1.0 p.1.1.0) a)

-- a cell with other annotations is of the annotated tree
pub annotated-cell : (w : Store) (n : Node) (l r : Option ℕ) (t a : Term) → tree_at w t ≡ tree_of_cell w (record { node = n; notes = l })
    → IsSome (noted (tree_at w t) (tree_at w a)) → IsNotesOf (tree_at w a) a.0 r
    → tree_of_cell w (record { node = n; notes = r }) ≡ noted (tree_at w t) (tree_at w a)
annotated-cell w n l r t a tree held notes = by_notes r notes where
  given : (v : Tree) × ((ts : Trees) × (tree_at w t ≡ Some v) × (tree_at w a ≡ Some (Items ts none)))
  given = noted-given (tree_at w t) (tree_at w a) held

  low : (u : Tree) × (node_tree (λ k. map.get w.content k) (λ s. map.get w.symbols s) n ≡ Some u) × (annotated u none ≡ u)
      × ((b : Trees) → annotated given.0 b ≡ annotated u b)
  low = bare (λ k. map.get w.content k) (λ s. map.get w.symbols s) n l given.0 (sym tree ∙ given.1.1)

  right : noted (tree_at w t) (tree_at w a) ≡ Some (annotated low.0 given.1.0)
  right = noted-at (tree_at w t) (tree_at w a) given.0 given.1.0 given.1.1 given.1.2 ∙ ap (λ v. let o : Option Tree = Some v in o) (low.3 given.1.0)

  by_list : (ts : Trees) → given.1.0 ≡ ts → IsNotesOf (tree_at w a) a.0 None → annotated low.0 given.1.0 ≡ low.0
  by_list none e no_list = ap (annotated low.0) e ∙ low.2
  by_list (more v vs) e no_list = absurd (no_list v vs none (given.1.2 ∙ ap (λ b. let o : Option Tree = Some (Items b none) in o) e))

  by_notes : (q : Option ℕ) → IsNotesOf (tree_at w a) a.0 q → tree_of_cell w (record { node = n; notes = q }) ≡ noted (tree_at w t) (tree_at w a)
  by_notes None e = low.1 ∙ ap (λ v. let o : Option Tree = Some v in o) (sym (by_list given.1.0 refl e)) ∙ sym right
  by_notes (Some s) (same, (v, (vs, (anns, e)))) =
      let list : given.1.0 ≡ more v vs = (let p = given.1.2 in cc) in
      let link : map.get w.content s ≡ Some (Items (more v vs) none) =
      ap (map.get w.content) same ∙ given.1.2 ∙ ap (λ b. let o : Option Tree = Some (Items b none) in o) list in
      with_notes-at (node_tree (λ k. map.get w.content k) (λ s. map.get w.symbols s) n) (map.get w.content s) low.0 v vs low.1 link
      ∙ ap (λ b. let o : Option Tree = Some (annotated low.0 b) in o) (sym list) ∙ sym right

-- a cell's annotations are those of its tree
pub says-notes : (c : ℕ → Option Tree) (m : Table) (x : Cell) (u : Tree) → Says c m x u → Notes c x.notes (annotations u)
says-notes c m x (Int z anns) s = s.2
says-notes c m x (Items none anns) s = s.1
says-notes c m x (Items (more v vs) anns) s = s.1.4
says-notes c m x (Appl name quoted args anns) s = s.1.4
says-notes c m x (Hole v anns) s = s.3

pub anns-list : (u : Tree) → anns_of u ≡ list_unless_empty (annotations u)
anns-list (Int z anns) = refl
anns-list (Items items anns) = refl
anns-list (Appl name quoted args anns) = refl
anns-list (Hole v anns) = refl
