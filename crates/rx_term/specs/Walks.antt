-- Definitions for building and walking trees through a store.
use Rattle.std.specs.Prelude.{◌≡◌, List, [], ◌∷◌, ◌++◌, Option, Some, None, IsSome, Contains, map}
use Rattle.std.specs.Prelude.{unwrap_or}
use Rattle.rx_term.specs.Parts.{parts, annotation_parts}
use Rattle.rx_term.specs.Tree.{Tree, Trees, Items, none, list_of, annotations, to_list}
use Rattle.rx_term.specs.Store.{Store, tree_at}
use Rattle.rx_term.specs.declared.Term.{Term}

-- held_tree w r: the tree of a reference, or the empty list if there is none
abbrev pub held_tree : Store → Term → Tree
held_tree w r = unwrap_or (tree_at w r) (list_of none)

-- held_trees w rs: the trees of these references, in order
abbrev pub held_trees : Store → List Term → List Tree
held_trees w rs = map (held_tree w) rs

-- HaveTrees w rs ts: each reference has the tree with the same index
abbrev pub HaveTrees : Store → List Term → List Tree → Type 0
HaveTrees w [] [] = Unit {0}
HaveTrees w (r ∷ rs) (t ∷ ts) = (tree_at w r ≡ Some t) × HaveTrees w rs ts
HaveTrees w rs ts = ⊥

-- Lists w rs tree: the tree is the list of the trees of these references
abbrev pub Lists : Store → List Term → Option Tree → Type 0
Lists w rs tree = (ts : Trees) × HaveTrees w rs (to_list ts) × (tree ≡ Some (Items ts none))

-- parts_of o: the parts of the tree of a reference
abbrev pub parts_of : Option Tree → List Tree
parts_of None = []
parts_of (Some t) = parts t

-- all_parts w rs: the parts of the trees of these references
abbrev pub all_parts : Store → List Term → List Tree
all_parts w [] = []
all_parts w (r ∷ rs) = parts_of (tree_at w r) ++ all_parts w rs

-- AllHeld w rs: the store has each of these references
abbrev pub AllHeld : Store → List Term → Type 0
AllHeld w rs = (t : Term) → Contains rs t → IsSome (tree_at w t)

-- PushesInside: references of the parts below the root, except its annotations, were pushed
pub record PushesInside (w : Store) (u : Term) (old new : List Term) : Type 0 where
  pub tree : Tree
  pub kids : List Term
  pub here : tree_at w u ≡ Some tree
  pub pushed : new ≡ old ++ kids
  pub held : AllHeld w kids
  pub covers : parts tree ≡ tree ∷ (all_parts w kids ++ annotation_parts (annotations tree))

-- PushesAnns: a reference of the annotation list was pushed, if there is one
pub record PushesAnns (w : Store) (u : Term) (old new : List Term) : Type 0 where
  pub tree : Tree
  pub kids : List Term
  pub here : tree_at w u ≡ Some tree
  pub pushed : new ≡ old ++ kids
  pub held : AllHeld w kids
  pub covers : annotation_parts (annotations tree) ≡ all_parts w kids
