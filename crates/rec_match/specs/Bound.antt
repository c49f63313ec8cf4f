-- One step of matching: a name of a left-hand side meets a tree.
use Rattle.std.specs.Prelude.{ℕ, ◌&&◌, true, false, List, [], ◌∷◌, ◌++◌, Option, Some, None, nat_eq}
use Rattle.rx_term.specs.Tree.{Tree, Trees, tree_eq, count_of}
use Rattle.rec_sorts.specs.TermRules.{arguments}
use Rattle.rec_sorts.specs.Binding.{Substitution, value_of, application}

-- with_one s name u: the substitution with one more binding
abbrev pub with_one : Substitution → List ℕ → Tree → Substitution
with_one s name u = s ++ (record { name = name; value = u } ∷ [])

-- opened name k u: the arguments of a tree, if it is `name` applied to `k` arguments
abbrev pub opened : List ℕ → ℕ → Tree → Option Trees
opened name k u =
    elim (tree_eq (application name (arguments u)) u && nat_eq (count_of (arguments u)) k) [
      | true ↦ Some (arguments u)
      | false ↦ None
    ]

-- bound s name u: binds the name; if it is bound already, its value has to equal the tree
abbrev pub bound : Substitution → List ℕ → Tree → Option Substitution
bound s name u = elim (value_of s name) [
  | None ↦ Some (with_one s name u)
  | Some v ↦ elim (tree_eq v u) [ true ↦ Some s | false ↦ None ]
]

-- goes_on o next: continues with a result, if there is one
abbrev pub goes_on : {A B : Type 0} → Option A → (A → Option B) → Option B
goes_on o next = elim o [ Some a ↦ next a | None ↦ None ]
