-- The steps that the nodes of a pattern represent.
use Rattle.std.specs.Prelude.{◌≡◌, List, [], map, Some, IsTrue}
use Rattle.rx_term.specs.Tree.{Tree, is_tree}
use Rattle.rx_pattern.specs.Pattern.{is_pattern, PlaceholderKind, AnyTerm, AnyInt, AnyStr, AnyAppl}
use Rattle.rx_pattern.specs.Pattern.{AnyPlaceholder, AnyList}
use Rattle.rx_pattern.specs.Code.{code, tree_of_steps, Step, Number, Named, Listing, Holding, End}
use Rattle.rx_pattern.specs.Code.{Item, Rest}
use Rattle.rx_pattern.specs.declared.nodes.Class.{Class}
use Rattle.rx_pattern.specs.declared.nodes.Class.TheVariants as class
use Rattle.rx_pattern.specs.declared.nodes.Node.{Node}
use Rattle.rx_pattern.specs.declared.nodes.Node.TheVariants as node

-- kind_of_class c: the kind of a placeholder
abbrev pub kind_of_class : Class → PlaceholderKind
kind_of_class class.Term = AnyTerm
kind_of_class class.Int = AnyInt
kind_of_class class.Str = AnyStr
kind_of_class class.Appl = AnyAppl
kind_of_class class.Placeholder = AnyPlaceholder
kind_of_class class.List = AnyList

-- step_of node: the step of a node
abbrev pub step_of : Node → Step
step_of (node.Integer z) = Number z
step_of (node.Application name) = Named name.bytes.items name.quoted
step_of node.List = Listing
step_of (node.Placeholder class) = Holding (Some (kind_of_class class))
step_of node.End = End
step_of node.Item = Item
step_of node.Rest = Rest

-- tree_of_nodes nodes: the tree that the nodes spell
abbrev pub tree_of_nodes : List Node → Tree
tree_of_nodes nodes = tree_of_steps (map step_of nodes)

-- AreNodes nodes: the nodes are those of their tree, which is a pattern; its integers fit and its
-- names are names
pub record AreNodes (nodes : List Node) : Type 0 where
  pub code : map step_of nodes ≡ code (tree_of_nodes nodes) []
  pub pattern : IsTrue (is_pattern (tree_of_nodes nodes))
  pub valid : IsTrue (is_tree (tree_of_nodes nodes))
