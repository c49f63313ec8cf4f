-- The check of a tree for placeholders, and the errors that it reports.
use Rattle.std.specs.Prelude.{◌≡◌, Bool, true, List, [], ◌∷◌, ◌++◌, Option, Some, is_some}
use Rattle.rx_term.specs.Tree.{Tree, Trees, none, more, Int, Appl, Items, Hole, list_of, is_none}
use Rattle.rx_term.specs.Store.{Store, tree_at}
use Rattle.rx_term.specs.declared.Term.{Term}
use Rattle.rx_pattern.specs.Pattern as pattern
use Rattle.rx_pattern.specs.Pattern.{Unfit, kind_of}
use Rattle.rx_pattern.specs.Subjects.{OnStack}
use Rattle.rx_pattern.specs.declared.faults.PatternFault.{PatternFault}
use Rattle.rx_pattern.specs.declared.faults.PatternFault.TheVariants.{Unknown, Annotated, Memory}
use Rattle.rx_pattern.specs.declared.faults.PatternFault.TheVariants.{Full}

-- IsWhy fault why: the error is the reason, or an allocation failed
abbrev pub IsWhy : PatternFault → Option Unfit → Type 0
IsWhy Unknown why = why ≡ Some pattern.Unknown
IsWhy Annotated why = why ≡ Some pattern.Annotated
IsWhy Memory why = Unit {0}
IsWhy Full why = ⊥

-- own_known t: the tree itself is not an unknown placeholder
abbrev pub own_known : Tree → Bool
own_known (Hole inner anns) = is_some (kind_of inner)
own_known t = true

-- own_plain t: the tree itself is not a placeholder with annotations
abbrev pub own_plain : Tree → Bool
own_plain (Hole inner anns) = is_none anns
own_plain t = true

-- notes anns: the annotation list, if there is one
abbrev pub notes : Trees → List Tree
notes none = []
notes (more a as') = list_of (more a as') ∷ []

-- below t: the parts that are checked as well
abbrev pub below : Tree → List Tree
below (Int z anns) = notes anns
below (Appl name quoted args anns) = list_of args ∷ notes anns
below (Items none anns) = notes anns
below (Items (more t ts) anns) = t ∷ list_of ts ∷ notes anns
below (Hole inner anns) = notes anns

-- HasTree w r t: the reference has this tree
abbrev pub HasTree : Store → Term → Tree → Type 0
HasTree w r t = tree_at w r ≡ Some t

-- PushesTrees w left before after: references of these trees were pushed, that of the last one
-- first
abbrev pub PushesTrees : Store → List Tree → List Term → List Term → Type 0
PushesTrees w left before after = (us : List Tree) → OnStack (HasTree w) before us
    → OnStack (HasTree w) after (left ++ us)
