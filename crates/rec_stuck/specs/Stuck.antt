-- The stuck calls in a value, and the lines that report them.
use Rattle.std.specs.Prelude.{ℕ, Bool, false, not, ◌&&◌, List, [], ◌∷◌, ◌++◌, Option, Some}
use Rattle.std.specs.Prelude.{codes, decimal, bytes_eq, filter, flat_map, is_some, length, map}
use Rattle.std.specs.Prelude.{nat_eq}
use Rattle.std.specs.Bool.{beq}
use Rattle.std.specs.List.{list_any}
use Rattle.indexmap.specs.IndexSet.{insert_all}
use Rattle.rx_term.specs.Name.{plain_name}
use Rattle.rx_term.specs.Tree.{Tree, Trees, Appl, Items, none, more, annotated, count_of, tree_eq}
use Rattle.rx_text.specs.Canon.{canon}
use Rattle.rec_syntax.specs.Syntax.{Declaration, Rule, Spec}
use Rattle.rec_sorts.specs.Binding.{binds}
use Rattle.rec_trace.specs.Lines.{cut}
use Rattle.rec_trace.specs.declared.lines.Spot.{Spot}
use Rattle.rec_trace.specs.Lines.{rule_spot}

-- applications t: the applications in a tree, each after those inside of it, from left to right
abbrev mutual
  pub applications : Tree → List Tree
  applications (Appl name quoted args anns) = applications_all args
      ++ Appl name quoted args anns ∷ []
  applications (Items items anns) = applications_all items
  applications t = []

  pub applications_all : Trees → List Tree
  applications_all none = []
  applications_all (more t ts) = applications t ++ applications_all ts

-- different ts: each tree of a list once, at its first occurrence
abbrev pub different : List Tree → List Tree
different ts = insert_all tree_eq [] ts

-- is_of t d: the declaration `d` is that of the symbol that is applied in `t`
abbrev pub is_of : Tree → Declaration → Bool
is_of (Appl name quoted args anns) d = bytes_eq d.name.bytes name
    && beq quoted (not (plain_name name)) && nat_eq (count_of args) (length d.arguments)
is_of t d = false

-- is_call y t: the tree is a call: an application of an operator
abbrev pub is_call : Spec → Tree → Bool
is_call y t = list_any (is_of t) y.operators

-- stuck_calls y v: the different calls in a value, each after those inside of it, from left to
-- right
abbrev pub stuck_calls : Spec → Tree → List Tree
stuck_calls y v = filter (is_call y) (different (applications v))

-- bare_of t: a tree without its own annotations
abbrev pub bare_of : Tree → Tree
bare_of t = annotated t none

-- fitting y u: the rules whose left-hand sides match the tree, in their order
abbrev pub fitting : Spec → Tree → List Rule
fitting y u = filter (λ (r : Rule). is_some (binds y r.left u)) y.rules

-- place_text p: a line and a column
abbrev pub place_text : Spot → List ℕ
place_text p = decimal p.line ++ codes ":" ++ decimal p.column

-- places_behind ps: further locations, each after a comma
abbrev pub places_behind : List Spot → List ℕ
places_behind ps = flat_map (λ p. codes ", " ++ place_text p) ps

-- reason ps: the reason why a call is stuck, from the locations of the rules that match it
abbrev pub reason : List Spot → List ℕ
reason [] = codes "no rule matches"
reason (p ∷ ps) = codes "the conditions of " ++ place_text p ++ places_behind ps ++ codes " fail"

-- fitting_spots source y u: the locations of the rules that match a tree
abbrev pub fitting_spots : List ℕ → Spec → Tree → List Spot
fitting_spots source y u = map (rule_spot source) (fitting y u)

-- stuck_line source y u: the line of a call: its text without its annotations, cut to 60 bytes, and
-- the reason
abbrev pub stuck_line : List ℕ → Spec → Tree → List ℕ
stuck_line source y u = codes "stuck: " ++ cut (Some 60) (canon (bare_of u)) ++ codes ": "
    ++ reason (fitting_spots source y (bare_of u)) ++ codes "\n"

-- stuck_text source y v: the lines of the calls in a value
abbrev pub stuck_text : List ℕ → Spec → Tree → List ℕ
stuck_text source y v = flat_map (stuck_line source y) (stuck_calls y v)
