-- The tree of a table. A table is a list without annotations that has an element. In an element, a
-- placeholder is a number of an earlier element, or has a list of one item in it.
use Rattle.std.specs.Prelude.{ℕ, List, [], ◌∷◌, ◌++◌, Option, Some, None, ℤ, pos, negsuc, slice_get}
use Rattle.std.specs.Prelude.{length}
use Rattle.std.specs.Option.{option_and_then, option_map, option_map_or}
use Rattle.rx_term.specs.Tree.{Tree, Trees, Int, Appl, Items, Hole, none, more}

-- element es z: the item with this index, if there is one
abbrev pub element : {A : Type 0} → List A → ℤ → Option A
element es (pos n) = slice_get es n
element es (negsuc n) = None

-- both f a b: `f` of two values, if both are there
abbrev pub both : {A B C : Type 0} → (A → B → C) → Option A → Option B → Option C
both f (Some a) (Some b) = Some (f a b)
both f a b = None

abbrev mutual
  -- opened es t: the tree that an element `t` stands for, if `es` are those of the elements before
  -- it: a number in a placeholder stands for one of them, and a list of one item in a placeholder
  -- for its item in a placeholder
  pub opened : List Tree → Tree → Option Tree
  opened es (Int z anns) = option_map (Int z) (opened_all es anns)
  opened es (Appl name quoted args anns) =
      both (Appl name quoted) (opened_all es args) (opened_all es anns)
  opened es (Items items anns) = both Items (opened_all es items) (opened_all es anns)
  opened es (Hole (Int z none) none) = element es z
  opened es (Hole (Items (more t none) none) anns) = both Hole (opened es t) (opened_all es anns)
  opened es (Hole t anns) = None

  pub opened_all : List Tree → Trees → Option Trees
  opened_all es none = Some none
  opened_all es (more t ts) = both more (opened es t) (opened_all es ts)

-- last_opened es t ts: the tree of the last of the elements `t` and `ts`, if all of them open
abbrev pub last_opened : List Tree → Tree → Trees → Option Tree
last_opened es t none = opened es t
last_opened es t (more v vs) =
    option_and_then (λ u. last_opened (es ++ u ∷ []) v vs) (opened es t)

-- tree_of_table t: the tree of a table
abbrev pub tree_of_table : Tree → Option Tree
tree_of_table (Items (more t ts) none) = last_opened [] t ts
tree_of_table t = None

-- broken_from es ts: the number of the first of the elements `ts` that does not open, counted with
-- the elements before it
abbrev pub broken_from : List Tree → Trees → Option ℕ
broken_from es none = None
broken_from es (more t ts) =
    option_map_or (λ u. broken_from (es ++ u ∷ []) ts) (opened es t) (Some (length es))

-- broken_element t: the number of the first element of a list that does not open
abbrev pub broken_element : Tree → Option ℕ
broken_element (Items ts anns) = broken_from [] ts
broken_element t = None

-- broken_by_table t: the rule that a tree breaks as a table: 1, a table is a list without annotations
-- that has an element; 2, a placeholder is the number of an earlier element or has a list of one
-- item in it, and number, placeholder of a number and list have no annotations
abbrev pub broken_by_table : Tree → Option ℕ
broken_by_table (Items (more t ts) none) = option_map (λ n. 2) (broken_from [] (more t ts))
broken_by_table t = Some 1
