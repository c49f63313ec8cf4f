-- The value of a pattern in contracts, and its invariant.
use Rattle.rx_term.specs.Tree.{Tree}
use Rattle.rx_pattern.specs.Nodes.{tree_of_nodes, AreNodes}
use Rattle.rx_pattern.specs.declared.pattern.Pattern.TheInside.{Inside}

-- tree_of a: the tree of the pattern
abbrev pub tree_of : Inside → Tree
tree_of a = tree_of_nodes a.nodes.items

-- IsPatternCode a: the nodes are those of their tree, which is a pattern
abbrev pub IsPatternCode : Inside → Type 0
IsPatternCode a = AreNodes a.nodes.items
