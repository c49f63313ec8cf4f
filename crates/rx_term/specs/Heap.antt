-- The trees that cells represent. A cell may name any other cell, before or after it, as long as
-- none leads back to itself.
use Rattle.std.specs.Prelude.{ℕ, ◌≡◌, ◌<◌, ◌≤◌, Bool, true, false, ◌||◌, ◌&&◌, not, if◌then◌else◌}
use Rattle.std.specs.Prelude.{List}
use Rattle.std.specs.Prelude.{[], ◌∷◌, ◌++◌, ℤ, Option, Some, None, IsSome, is_some, IsTrue}
use Rattle.std.specs.Prelude.{Contains}
use Rattle.std.proofs.Common.{zero, suc, arith}
use Rattle.std.proofs.Math.Bool.{Bool-set}
use mathlib.Core.HLevel.{Σ_prop_path}
use Rattle.std.specs.Option.{option_and_then}
use Rattle.std.specs.Ordering.{nat_cmp}
use Rattle.std.specs.FinMap as map
use Rattle.rx_term.specs.Tree.{Tree, Int, Appl, Items, Hole, Trees, none, more, count_of, annotated}
use Rattle.rx_term.specs.Tree.{is_i32}
use Rattle.rx_term.specs.Name.{Signature, is_name}
use Rattle.rx_term.specs.Store.{longer, applied, held_open}

-- the contents of a cell without its annotations: slots, after the symbol's number for an
-- application
pub data Node : Type 0 where
  number : ℤ → Node
  empty : Node
  pair : ℕ → ℕ → Node
  application : ℕ → ℕ → Node
  placeholder : ℕ → Node

-- a cell: its node, and the slot of its annotation list, if there is one
pub record Cell : Type 0 where
  pub node : Node
  pub notes : Option ℕ

-- the slots that are taken, with their cells
abbrev pub Heap : Type 0
Heap = ℕ → Option Cell

-- the signatures of symbols
abbrev pub Table : Type 0
Table = ℕ → Option Signature

-- with_notes t a: the tree with the items of a list that is not empty as its annotations
abbrev pub with_notes : Option Tree → Option Tree → Option Tree
with_notes (Some t) (Some (Items (more x xs) none)) = Some (annotated t (more x xs))
with_notes t a = None

-- int_tree z: the tree of an integer, if it fits in 32 bits
abbrev pub int_tree : ℤ → Option Tree
int_tree z = if is_i32 z then Some (Int z none) else None

-- node_tree c m node: the tree of a node, from the trees `c` of slots
abbrev pub node_tree : (ℕ → Option Tree) → Table → Node → Option Tree
node_tree c m (number z) = int_tree z
node_tree c m empty = Some (Items none none)
node_tree c m (pair i j) = longer (c i) (c j)
node_tree c m (application s j) = applied (m s) (c j)
node_tree c m (placeholder i) = held_open (c i)

-- noted_tree c t notes: the tree with the annotations of a slot, from the trees `c` of slots
abbrev pub noted_tree : (ℕ → Option Tree) → Option Tree → Option ℕ → Option Tree
noted_tree c t None = t
noted_tree c t (Some a) = with_notes t (c a)

-- cell_tree c m x: the tree of a cell, from the trees `c` of slots
abbrev pub cell_tree : (ℕ → Option Tree) → Table → Cell → Option Tree
cell_tree c m x = noted_tree c (node_tree c m x.node) x.notes

-- tree_of h m n t: the tree of a slot, if the links below it are at most `n` deep
unfoldable pub tree_of : Heap → Table → ℕ → ℕ → Option Tree
tree_of h m zero t = None
tree_of h m (suc n) t = option_and_then (cell_tree (tree_of h m n) m) (h t)

-- Notes c l anns: the slot `l` has these annotations; none for an empty list
abbrev pub Notes : (ℕ → Option Tree) → Option ℕ → Trees → Type 0
Notes c l none = l ≡ None
Notes c l (more v vs) = (i : ℕ) × (l ≡ Some i) × (c i ≡ Some (Items (more v vs) none))

-- Says c m x t: the cell represents this tree, by cases on the tree
abbrev pub Says : (ℕ → Option Tree) → Table → Cell → Tree → Type 0
Says c m x (Int z anns) = (x.node ≡ number z) × IsTrue (is_i32 z) × Notes c x.notes anns
Says c m x (Items none anns) = (x.node ≡ empty) × Notes c x.notes anns
Says c m x (Items (more v vs) anns) = (i : ℕ)
    × ((j : ℕ) × (x.node ≡ pair i j) × (c i ≡ Some v) × (c j ≡ Some (Items vs none))
    × Notes c x.notes anns)
Says c m x (Appl name quoted args anns) = (s : ℕ)
    × ((j : ℕ) × (x.node ≡ application s j)
    × (m s ≡ Some (record { name = name; quoted = quoted; arity = count_of args }))
    × (c j ≡ Some (Items args none)) × Notes c x.notes anns)
Says c m x (Hole v anns) = (i : ℕ) × (x.node ≡ placeholder i) × (c i ≡ Some v)
    × Notes c x.notes anns

-- IsDistinct h: no two taken slots have the same cell
abbrev pub IsDistinct : Heap → Type 0
IsDistinct h = (s t : ℕ) → IsSome (h s) → h s ≡ h t → s ≡ t

-- is_whole h m len n: each taken slot below `len` has a tree of at most depth `n`
abbrev pub is_whole : Heap → Table → ℕ → ℕ → Bool
is_whole h m zero n = true
is_whole h m (suc k) n = (not (is_some (h k)) || is_some (tree_of h m n k)) && is_whole h m k n

-- IsLeast p n: `n` is the least number that passes a test
pub record IsLeast (p : ℕ → Bool) (n : ℕ) : Type 0 where
  pub passes : p n ≡ true
  pub none_below : (k : ℕ) → k < n → p k ≡ false

-- the least number that passes a test, if there is one
abbrev pub Least : (ℕ → Bool) → Type 0
Least p = (n : ℕ) × IsLeast p n

-- there is at most one proof that a number is the least
IsLeast-prop : (p : ℕ → Bool) (n : ℕ) → IsProp (IsLeast p n)
IsLeast-prop p n = hlevel Bool-set

-- of two least numbers neither is smaller
none_before : (p : ℕ → Bool) (x y : Least p) → x.0 < y.0 → ⊥
none_before p x y lt = let a : p x.0 ≡ false = y.1.none_below x.0 lt in
    let b : p x.0 ≡ true = x.1.passes in cc

-- there is at most one least number
pub Least-prop : (p : ℕ → Bool) → IsProp (Least p)
Least-prop p x y = let same : x.0 ≡ y.0 = omega (arith, none_before p x y, none_before p y x) in
    Σ_prop_path (IsLeast-prop p) same

-- put_some m k o: the map with the value of `k`, if there is one
abbrev pub put_some : {X : Type 0} → map.FinMap nat_cmp X → ℕ → Option X → map.FinMap nat_cmp X
put_some m k None = m
put_some m k (Some u) = map.insert m k u

-- tabulate len f: the map of `f` for the numbers below `len`
abbrev pub tabulate : {X : Type 0} → ℕ → (ℕ → Option X) → map.FinMap nat_cmp X
tabulate zero f = map.empty
tabulate (suc k) f = put_some (tabulate k f) k (f k)

-- content_of h m len n: the trees of all slots below `len`, which are at most `n` deep
abbrev pub content_of : Heap → Table → ℕ → ℕ → map.FinMap nat_cmp Tree
content_of h m len n = tabulate len (tree_of h m n)

-- IsTable m: no two symbols have the same signature, and each name is valid
pub record IsTable (m : Table) : Type 0 where
  pub apart : (s t : ℕ) (g : Signature) → m s ≡ Some g → m t ≡ Some g → s ≡ t
  pub valid : (s : ℕ) (g : Signature) → m s ≡ Some g → IsTrue (is_name g.name g.quoted)

-- IsHeap h m len n: a heap of slots below `len`, no two equal, each with a tree at most `n` deep
pub record IsHeap (h : Heap) (m : Table) (len n : ℕ) : Type 0 where
  pub bounded : (t : ℕ) → len ≤ t → h t ≡ None
  pub distinct : IsDistinct h
  pub whole : is_whole h m len n ≡ true
  pub symbols : IsTable m

-- content_by h m len w: the trees of all slots below `len`, if each taken slot has one
unfoldable pub content_by : (h : Heap) (m : Table) (len : ℕ) → Least (is_whole h m len)
    → map.FinMap nat_cmp Tree
content_by h m len w = content_of h m len w.0

-- node_links node: the slots that a node names
abbrev pub node_links : Node → List ℕ
node_links (number z) = []
node_links empty = []
node_links (pair i j) = i ∷ j ∷ []
node_links (application s j) = j ∷ []
node_links (placeholder i) = i ∷ []

-- notes_links notes: the slot of the annotations, if there is one
abbrev pub notes_links : Option ℕ → List ℕ
notes_links None = []
notes_links (Some a) = a ∷ []

-- links x: the slots that a cell names
abbrev pub links : Cell → List ℕ
links x = node_links x.node ++ notes_links x.notes

-- kept_slots keep h: only the slots that pass the test
abbrev pub kept_slots : (ℕ → Bool) → Heap → Heap
kept_slots keep h t = if keep t then h t else None

-- IsLinked h from t: `t` is one of the slots in `from`, or a slot that is reached from them names
-- it
pub data IsLinked (h : Heap) (from : ℕ → Type 0) : ℕ → Type 0 where
  start : {t : ℕ} → from t → IsLinked h from t
  along : {t i : ℕ} {x : Cell} → IsLinked h from t → h t ≡ Some x → Contains (links x) i
      → IsLinked h from i
