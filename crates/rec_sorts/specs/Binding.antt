-- REC terms as trees, substitutions, and matching: the substitution that makes a left-hand side
-- equal to a given tree.
use Rattle.std.specs.Prelude.{ℕ, true, false, not, List, [], ◌∷◌, ◌++◌, Option, Some, None, drop}
use Rattle.std.specs.Prelude.{suc, bytes_eq}
use Rattle.rx_term.specs.Tree.{Tree, Trees, Appl, none, more, tree_eq}
use Rattle.rx_term.specs.Name.{plain_name}
use Rattle.rec_syntax.specs.Syntax.{Term, Terms, Apply, Rule, Spec}
use Rattle.rec_sorts.specs.Lookup.{is_variable}
use Rattle.rec_sorts.specs.TermRules.{arguments}

-- a variable's name and its value
pub record Bound : Type 0 where
  pub name : List ℕ
  pub value : Tree

-- values of variables
abbrev pub Substitution : Type 0
Substitution = List Bound

-- value_of s name: the value of a name; none if it is not bound
abbrev pub value_of : Substitution → List ℕ → Option Tree
value_of [] name = None
value_of (b ∷ bs) name =
    elim (bytes_eq b.name name) [ true ↦ Some b.value | false ↦ value_of bs name ]

-- application name ts: a symbol applied to arguments; the name is quoted only if it is not plain
abbrev pub application : List ℕ → Trees → Tree
application name ts = Appl name (not (plain_name name)) ts none

-- instance s t: the tree of a term, with the values of its bound variables
abbrev mutual
  pub instance : Substitution → Term → Tree
  instance s (Apply w ts) =
      elim (value_of s w.bytes) [ Some v ↦ v | None ↦ application w.bytes (instances s ts) ]

  pub instances : Substitution → Terms → Trees
  instances s Terms.none = none
  instances s (Terms.more t ts) = more (instance s t) (instances s ts)

-- tree_of t: the tree of a ground term
abbrev pub tree_of : Term → Tree
tree_of t = instance [] t

-- bind_first s name v: adds a binding at the end, unless the name is bound already
abbrev pub bind_first : Substitution → List ℕ → Tree → Substitution
bind_first s name v =
    elim (value_of s name) [ Some u ↦ s | None ↦ s ++ (record { name = name; value = v } ∷ []) ]

-- parts_at_variables y s l u: binds each variable of a left-hand side to the part of the tree at
-- its first occurrence
abbrev mutual
  pub parts_at_variables : Spec → Substitution → Term → Tree → Substitution
  parts_at_variables y s (Apply w ts) u = elim (is_variable y w.bytes) [
    | true ↦ bind_first s w.bytes u
    | false ↦ parts_at_variables_all y s ts (arguments u)
  ]

  pub parts_at_variables_all : Spec → Substitution → Terms → Trees → Substitution
  parts_at_variables_all y s (Terms.more t ts) (more u us) = parts_at_variables_all y
      (parts_at_variables y s t u) ts us
  parts_at_variables_all y s _ _ = s

-- binds y l u: the substitution that makes the left-hand side equal to the tree; none if there is
-- none
abbrev pub binds : Spec → Term → Tree → Option Substitution
binds y l u =
    let s = parts_at_variables y [] l u in
    elim (tree_eq (instance s l) u) [ true ↦ Some s | false ↦ None ]

-- a rule by its number, from 0 in the order of the text, and the values under which its left-hand
-- side equals the tree
pub record NumberedMatch : Type 0 where
  pub number : ℕ
  pub values : Substitution

-- first_match y number rs u: the first of these rules that matches a tree; the first of them has
-- this number
abbrev pub first_match : Spec → ℕ → List Rule → Tree → Option NumberedMatch
first_match y number [] u = None
first_match y number (r ∷ rs) u = elim (binds y r.left u) [
  | Some s ↦ Some (record { number = number; values = s })
  | None ↦ first_match y (suc number) rs u
]

-- next_match y from u: the first rule with a number of at least `from` that matches a tree
abbrev pub next_match : Spec → ℕ → Tree → Option NumberedMatch
next_match y from u = first_match y from (drop from y.rules) u
