-- Properties of tables.
use Rattle.std.specs.Prelude.{◌≡◌, ℕ, ◌≤◌, ◌^◌, Some, None, Contains, IsTrue, length}
use Rattle.std.specs.List.{IsDistinct}
use Rattle.rx_term.specs.Tree.{Tree, is_tree, tree_eq}
use Rattle.rx_term.specs.Parts.{part_count}
use Rattle.rx_table.specs.Table.{different, shared, subterms, table, uses}
use Rattle.rx_table.specs.Opened.{broken_by_table, tree_of_table}

-- TableOpens: the tree of the table of a tree is that tree
abbrev pub TableOpens : Type 0
TableOpens = (t : Tree) → tree_of_table (table t) ≡ Some t

-- TableIsTree: the table of a tree has numbers and names in range
abbrev pub TableIsTree : Type 0
TableIsTree = (t : Tree) → IsTrue (is_tree t) → part_count t ≤ 2 ^ 31 → IsTrue (is_tree (table t))

-- TableIsShort: the shared parts, which have elements, are distinct, each is used twice or more,
-- and there are no more of them than parts
pub record TableIsShort : Type 0 where
  pub distinct : (t : Tree) → IsDistinct tree_eq (shared t)
  pub used : (t p : Tree) → Contains (shared t) p → 2 ≤ uses (different (subterms t)) p
  pub few : (t : Tree) → length (shared t) ≤ part_count t

-- OpensOrBreaks: a tree breaks a rule if and only if it has no tree as a table
pub record OpensOrBreaks : Type 0 where
  pub opens : (t u : Tree) → tree_of_table t ≡ Some u → broken_by_table t ≡ None
  pub breaks : (t : Tree) (rule : ℕ) → broken_by_table t ≡ Some rule → tree_of_table t ≡ None
