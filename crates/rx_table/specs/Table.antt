-- Tables. The table of a tree is a list: an element for each shared part, each after those inside of
-- it, and then the tree itself. In an element, a shared part is written as the number of its element
-- in a placeholder, and a placeholder of the tree is written with a list in it.
use Rattle.std.specs.Prelude.{ℕ, Bool, ◌&&◌, List, [], ◌∷◌, ◌++◌, pos, if◌then◌else◌}
use Rattle.std.specs.Prelude.{count_by, filter, flat_map, length, map, nat_le, nat_lt}
use Rattle.std.specs.List.{list_any, position_or_len}
use Rattle.indexmap.specs.IndexSet.{insert_all}
use Rattle.rx_term.specs.Tree.{Tree, Trees, Int, Appl, Items, Hole, none, more, tree_eq}
use Rattle.rx_term.specs.Tree.{from_list, list_of, to_list}
use Rattle.rx_text.specs.Canon.{canon}

-- direct t: the trees one step inside of a tree: items, arguments or the inner tree, and then the
-- annotations
abbrev pub direct : Tree → List Tree
direct (Int z anns) = to_list anns
direct (Appl name quoted args anns) = to_list args ++ to_list anns
direct (Items items anns) = to_list items ++ to_list anns
direct (Hole inner anns) = inner ∷ to_list anns

abbrev mutual
  -- subterms t: the tree and all trees inside of it, each after those inside of it, from left to
  -- right
  pub subterms : Tree → List Tree
  subterms (Int z anns) = subterms_all anns ++ Int z anns ∷ []
  subterms (Appl name quoted args anns) = (subterms_all args ++ subterms_all anns)
      ++ Appl name quoted args anns ∷ []
  subterms (Items items anns) = (subterms_all items ++ subterms_all anns) ++ Items items anns ∷ []
  subterms (Hole inner anns) = (subterms inner ++ subterms_all anns) ++ Hole inner anns ∷ []

  pub subterms_all : Trees → List Tree
  subterms_all none = []
  subterms_all (more t ts) = subterms t ++ subterms_all ts

-- different ts: each tree of a list once, at its first occurrence
abbrev pub different : List Tree → List Tree
different ts = insert_all tree_eq [] ts

-- uses qs p: how often the tree `p` is one step inside of one of the trees `qs`
abbrev pub uses : List Tree → Tree → ℕ
uses qs p = count_by (tree_eq p) (flat_map direct qs)

-- is_shared qs p: the tree `p` is used at least twice by `qs`, and its text has more than 8 bytes
abbrev pub is_shared : List Tree → Tree → Bool
is_shared qs p = nat_le 2 (uses qs p) && nat_lt 8 (length (canon p))

-- shared t: the different subterms of a tree that are shared by its different subterms
abbrev pub shared : Tree → List Tree
shared t = let qs = different (subterms t) in filter (is_shared qs) qs

-- reference n: the number of an element in a placeholder
abbrev pub reference : ℕ → Tree
reference n = Hole (Int (pos n) none) none

-- numbered ps t e: the number of the element of `t` if it is one of `ps`, otherwise `e`
abbrev pub numbered : List Tree → Tree → Tree → Tree
numbered ps t e = if list_any (tree_eq t) ps then reference (position_or_len (tree_eq t) ps) else e

abbrev mutual
  -- entry ps t: the element of a tree, if the trees `ps` have elements: these are numbers inside of
  -- it, and the inner tree of a placeholder is put in a list
  pub entry : List Tree → Tree → Tree
  entry ps (Int z anns) = Int z (written_all ps anns)
  entry ps (Appl name quoted args anns) =
      Appl name quoted (written_all ps args) (written_all ps anns)
  entry ps (Items items anns) = Items (written_all ps items) (written_all ps anns)
  entry ps (Hole inner anns) =
      Hole (list_of (more (numbered ps inner (entry ps inner)) none)) (written_all ps anns)

  -- written_all ps ts: trees as they are written inside of an element
  pub written_all : List Tree → Trees → Trees
  written_all ps none = none
  written_all ps (more t ts) = more (numbered ps t (entry ps t)) (written_all ps ts)

-- written ps t: a tree as it is written inside of an element
abbrev pub written : List Tree → Tree → Tree
written ps t = numbered ps t (entry ps t)

-- table t: the table of a tree
abbrev pub table : Tree → Tree
table t = let ps = shared t in list_of (from_list (map (entry ps) ps ++ written ps t ∷ []))
