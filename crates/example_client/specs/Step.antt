-- One rewriting step with two patterns.
use Rattle.std.specs.Prelude.{◌≡◌, List, Option, Some, None, Ok}
use Rattle.rx_term.specs.Tree.{Tree}
use Rattle.rx_term.specs.Store.{Store, tree_at}
use Rattle.rx_term.specs.declared.Term.{Term}
use Rattle.rx_pattern.specs.Matching.{matching}
use Rattle.rx_pattern.specs.Filling.{filling}

-- IsStep w left right u r: none if the left pattern does not match the tree; otherwise the tree
-- that the right one makes of the bindings
abbrev pub IsStep : Store → Tree → Tree → Tree → Option Term → Type 0
IsStep w left right u None = matching left u ≡ None
IsStep w left right u (Some r) = (bs : List Tree) × (v : Tree) × (matching left u ≡ Some bs)
    × (filling right bs ≡ Ok v) × (tree_at w r ≡ Some v)
