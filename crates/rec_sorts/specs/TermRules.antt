-- The six rules of input terms, each as a test of the whole list. The specification violates none
-- of its own rules.
use Rattle.std.specs.Prelude.{ℕ, Bool, true, false, ◌||◌, not, List, [], ◌∷◌, ◌++◌, Option, Some}
use Rattle.std.specs.Prelude.{None, flat_map, length, nat_eq}
use Rattle.std.specs.Bool.{beq}
use Rattle.std.specs.List.{list_any, position}
use Rattle.std.specs.Option.{option_and_then, option_eq}
use Rattle.rx_term.specs.Tree.{Tree, Trees, Appl, Items, none, more, to_list, annotations}
use Rattle.rx_term.specs.Name.{plain_name}
use Rattle.rec_syntax.specs.Tokens.{Word}
use Rattle.rec_syntax.specs.Syntax.{Declaration, Spec}
use Rattle.rec_sorts.specs.Lookup.{symbol, same_sort}

-- nodes t: a tree and its arguments at every depth
abbrev mutual
  pub nodes : Tree → List Tree
  nodes (Appl name quoted args anns) = Appl name quoted args anns ∷ nodes_all args
  nodes t = t ∷ []

  pub nodes_all : Trees → List Tree
  nodes_all none = []
  nodes_all (more t ts) = nodes t ++ nodes_all ts

-- arguments t: the arguments of a tree; none if it is not an application
abbrev pub arguments : Tree → Trees
arguments (Appl name quoted args anns) = args
arguments t = none

-- elements t: the elements of a list without annotations
abbrev pub elements : Tree → Option (List Tree)
elements (Items items none) = Some (to_list items)
elements t = None

-- is_no_application t: a tree is not an application
abbrev pub is_no_application : Tree → Bool
is_no_application (Appl name quoted args anns) = false
is_no_application t = true

-- is_annotated t: a tree has annotations
abbrev pub is_annotated : Tree → Bool
is_annotated t = elim (annotations t) [ none ↦ false | more a as' ↦ true ]

-- tree_symbol y t: the declaration of the symbol with the name and quoted flag of a tree
abbrev pub tree_symbol : Spec → Tree → Option Declaration
tree_symbol y (Appl name quoted args anns) =
    elim (beq quoted (not (plain_name name))) [ true ↦ symbol y name | false ↦ None ]
tree_symbol y t = None

-- is_undeclared y t: the name of a tree is not that of a declared symbol
abbrev pub is_undeclared : Spec → Tree → Bool
is_undeclared y t = elim (tree_symbol y t) [ Some d ↦ false | None ↦ true ]

-- is_ill_filled y t: a tree has another number of arguments than declared
abbrev pub is_ill_filled : Spec → Tree → Bool
is_ill_filled y t = elim (tree_symbol y t) [
  | Some d ↦ not (nat_eq (length (to_list (arguments t))) (length d.arguments))
  | None ↦ false
]

-- tree_sort y t: the sort of a tree, which is that of its symbol
abbrev pub tree_sort : Spec → Tree → Option (List ℕ)
tree_sort y t = elim (tree_symbol y t) [ Some d ↦ Some d.sort.bytes | None ↦ None ]

-- are_ill_sorted y ss ts: one of the trees has another sort than the one for its position
abbrev pub are_ill_sorted : Spec → List Word → Trees → Bool
are_ill_sorted y (s ∷ ss) (more t ts) = not (same_sort (tree_sort y t) (Some s.bytes))
    || are_ill_sorted y ss ts
are_ill_sorted y _ _ = false

-- is_ill_sorted y t: an argument of a tree has another sort than declared
abbrev pub is_ill_sorted : Spec → Tree → Bool
is_ill_sorted y t =
    elim (tree_symbol y t) [ Some d ↦ are_ill_sorted y d.arguments (arguments t) | None ↦ false ]

-- first_passed number bs: the number of the first test that is true; the first one has this number
abbrev pub first_passed : ℕ → List Bool → Option ℕ
first_passed number [] = None
first_passed number (b ∷ bs) =
    elim b [ true ↦ Some number | false ↦ first_passed (ℕ.suc number) bs ]

-- broken_by_elements y ts: the lowest-numbered of the rules T2 to T6 that the elements violate; an
-- element itself may have annotations
abbrev pub broken_by_elements : Spec → List Tree → Option ℕ
broken_by_elements y ts =
    let all = flat_map nodes ts in
    let inner = flat_map (λ t. nodes_all (arguments t)) ts in
    first_passed 2
    (list_any is_no_application all
    ∷ list_any is_annotated inner
    ∷ list_any (is_undeclared y) all
    ∷ list_any (is_ill_filled y) all
    ∷ list_any (is_ill_sorted y) all
    ∷ [])

-- broken_by_terms y t: the lowest-numbered rule that input terms violate; T1: not a list, or
-- annotated
abbrev pub broken_by_terms : Spec → Tree → Option ℕ
broken_by_terms y t = elim (elements t) [ None ↦ Some 1 | Some ts ↦ broken_by_elements y ts ]

-- breaks_alone y number t: `number` is the lowest-numbered rule that the term violates on its own
abbrev pub breaks_alone : Spec → ℕ → Tree → Bool
breaks_alone y number t = option_eq nat_eq (broken_by_elements y (t ∷ [])) (Some number)

-- first_breaking y ts: the index of the first term that on its own violates the rule that all of
-- them violate
abbrev pub first_breaking : Spec → List Tree → Option ℕ
first_breaking y ts = option_and_then (λ number. position (breaks_alone y number) ts)
    (broken_by_elements y ts)

-- broken_element y t: this index for a list of terms; none if it is not a list, or is annotated
abbrev pub broken_element : Spec → Tree → Option ℕ
broken_element y t = option_and_then (first_breaking y) (elements t)
