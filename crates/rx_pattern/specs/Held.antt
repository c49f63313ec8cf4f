-- The effect of matching and making on a store.
use Rattle.std.specs.Prelude.{◌≡◌, ◌⊎◌, Bool, true, false, List, [], Option, Some, None}
use Rattle.rx_term.specs.Tree.{Tree, Trees, none, Items, list_of}
use Rattle.rx_term.specs.Store.{Store, tree_at}
use Rattle.rx_term.specs.Walks.{HaveTrees}
use Rattle.rx_term.specs.declared.Term.{Term}

-- Binds w bs out found: the result of a match, with references of the bindings
abbrev pub Binds : Store → Option (List Tree) → List Term → Bool → Type 0
Binds w (Some bs) out true = HaveTrees w out bs
Binds w None out false = out ≡ []
Binds w bs out found = ⊥

-- IsBareList w u: the tree is `[]`, or a list of the store without its annotations
abbrev pub IsBareList : Store → Tree → Type 0
IsBareList w u = (u ≡ list_of none)
    ⊎ ((r : Term) × (ts : Trees) × (anns : Trees) × (tree_at w r ≡ Some (Items ts anns))
    × (u ≡ list_of ts))

-- AddsOnlyLists old new: each new tree is such a list, and the symbols are unchanged
pub record AddsOnlyLists (old new : Store) : Type 0 where
  pub lists : (t : Term) (u : Tree) → tree_at new t ≡ Some u
      → (tree_at old t ≡ Some u) ⊎ IsBareList old u
  pub symbols : new.symbols ≡ old.symbols
