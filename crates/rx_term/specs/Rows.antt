-- The results of the test cases for stores.
use Rattle.std.specs.Prelude.{◌≡◌, pos, Some}
use Rattle.rx_term.specs.Tree.{Tree, Int, Hole, none, more}
use Rattle.rx_term.specs.Store.{Store, tree_at}
use Rattle.rx_term.specs.declared.Term.{Term}

-- HasTree w u: some reference has the tree
abbrev pub HasTree : Store → Tree → Type 0
HasTree w u = (t : Term) × (tree_at w t ≡ Some u)

-- a placeholder of 7 with the annotation 7
abbrev pub noted_seven : Tree
noted_seven = Hole (Int (pos 7) none) (more (Int (pos 7) none) none)
