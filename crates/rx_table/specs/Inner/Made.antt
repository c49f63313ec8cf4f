-- Terms of a store that were made of the parts of a tree of another store.
use Rattle.std.specs.Prelude.{ℕ, ◌≡◌, ◌++◌, List, [], ◌∷◌, Some, get_or, length, map, take}
use Rattle.rx_term.specs.Tree.{Tree, Trees, Int, Appl, Items, Hole, none, more, annotations, list_of}
use Rattle.rx_term.specs.Store.{Store, tree_at}
use Rattle.rx_term.specs.Walks.{HaveTrees}
use Rattle.rx_term.specs.declared.Term.{Term}
use Rattle.rx_table.specs.Inner.Walk.{trees_of}

-- each f ts: what `f` gives for the trees, in order
abbrev pub each : (Tree → Tree) → Trees → Trees
each f none = none
each f (more t ts) = more (f t) (each f ts)

-- remade f t: a tree with what `f` gives for the trees one step inside of it
abbrev pub remade : (Tree → Tree) → Tree → Tree
remade f (Int z anns) = Int z (each f anns)
remade f (Appl name quoted args anns) = Appl name quoted (each f args) (each f anns)
remade f (Items items anns) = Items (each f items) (each f anns)
remade f (Hole inner anns) = Hole (f inner) (each f anns)

-- IsBare w r: the term has no annotations of its own
abbrev pub IsBare : Store → Term → Type 0
IsBare w r = (u : Tree) × (tree_at w r ≡ Some u) × (annotations u ≡ none)

-- picked made inside: the terms with these indices
abbrev pub picked : List Term → List ℕ → List Term
picked made inside = map (λ i. get_or made i (record { 0 = 0 })) inside

-- AreMade v ns f w made: the store `w` has what `f` gives for the trees of the first references
abbrev pub AreMade : Store → List ℕ → (Tree → Tree) → Store → List Term → Type 0
AreMade v ns f w made = HaveTrees w made (map f (trees_of v (take (length made) ns)))
