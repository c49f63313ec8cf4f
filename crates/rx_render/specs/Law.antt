-- Properties of the two forms in which terms are printed for readers.
use Rattle.std.specs.Prelude.{◌≡◌, IsTrue, Contains, length, map}
use Rattle.std.specs.List.{IsDistinct}
use Rattle.rx_term.specs.Tree.{Tree, is_tree, tree_eq}
use Rattle.rx_term.specs.Parts.{own_parts, part_count, parts}
use Rattle.rx_text.specs.Grammar.{Spells}
use Rattle.rx_render.specs.Graph.{links, order}
use Rattle.rx_render.specs.Laid.{laid}
use Rattle.rx_render.specs.declared.layout.Indentation.{Indentation}

-- LaidSpells: the text over several lines spells its tree, with every width and without one
abbrev pub LaidSpells : Type 0
LaidSpells = (l : Indentation) (t : Tree) → IsTrue (is_tree t) → Spells (laid l t) t

-- ListsParts t: the order has each different part exactly once, and `part_count` of them
pub record ListsParts (t : Tree) : Type 0 where
  pub once : IsDistinct tree_eq (order t)
  pub all : (p : Tree) → Contains (parts t) p → Contains (order t) p
  pub only : (p : Tree) → Contains (order t) p → Contains (parts t) p
  pub count : length (order t) ≡ part_count t

-- OrderListsParts: this holds for each tree
abbrev pub OrderListsParts : Type 0
OrderListsParts = (t : Tree) → ListsParts t

-- LinksAreOwnParts: the edges from a node lead to its own parts
abbrev pub LinksAreOwnParts : Type 0
LinksAreOwnParts = (t : Tree) → map (λ l. l.part) (links t) ≡ own_parts t
