-- Violated rules by the nodes of terms in postfix form.
use Rattle.std.specs.Prelude.{◌-◌, true, false, List, [], ◌∷◌, ◌++◌, Some, length, take, drop}
use Rattle.std.specs.Prelude.{flat_map, nat_eq}
use Rattle.rec_syntax.specs.Tokens.{Word}
use Rattle.rec_syntax.specs.Syntax.{Spec, Term, Condition, Rule, head}
use Rattle.rec_syntax.specs.Nodes.{Node, flat}
use Rattle.rec_sorts.specs.Lookup.{condition_terms}
use Rattle.rec_sorts.specs.SpecRules.{missing, variables_among}
use Rattle.rec_check.specs.Errors.{clash}
use Rattle.rec_check.specs.Lookups.{sort_named, argument_sorts}
use Rattle.rec_check.specs.Named.{node_words}

-- flat_terms ts: the nodes of terms
abbrev pub flat_terms : List Term → List Node
flat_terms ts = flat_map flat ts

-- misfits y heads sorts: the heads whose sort clashes with the declared one
abbrev pub misfits : Spec → List Word → List Word → List Word
misfits y (h ∷ hs) (s ∷ ss) = elim (clash y (sort_named y h.bytes) (Some s.bytes)) [
  | true ↦ h ∷ misfits y hs ss
  | false ↦ misfits y hs ss
]
misfits y _ _ = []

-- misfits_of y heads sorts: the same, if there are as many heads as sorts
abbrev pub misfits_of : Spec → List Word → List Word → List Word
misfits_of y hs ss =
    elim (nat_eq (length hs) (length ss)) [ true ↦ misfits y hs ss | false ↦ [] ]

-- ill_sorted_among y heads ns: the arguments of the wrong sort; `heads` are those of earlier terms
abbrev pub ill_sorted_among : Spec → List Word → List Node → List Word
ill_sorted_among y heads [] = []
ill_sorted_among y heads (n ∷ ns) =
    let base = length heads - n.count in
    misfits_of y (drop base heads) (argument_sorts y n.word.bytes)
    ++ ill_sorted_among y (take base heads ++ n.word ∷ []) ns

-- unlike_heads y l r: the left one of two heads, if their sorts clash
abbrev pub unlike_heads : Spec → Word → Word → List Word
unlike_heads y l r =
    elim (clash y (sort_named y l.bytes) (sort_named y r.bytes)) [ true ↦ l ∷ [] | false ↦ [] ]

-- the first words of a rule and of its conditions whose sides have sorts that clash
abbrev pub unlike_in_conditions : Spec → List Condition → List Word
unlike_in_conditions y cs = flat_map (λ c. unlike_heads y (head c.left) (head c.right)) cs

abbrev pub unlike_in : Spec → Rule → List Word
unlike_in y r = unlike_heads y (head r.left) (head r.right)
    ++ unlike_in_conditions y r.conditions

-- unbound_in y r: the variables of a rule's right-hand side and conditions that are not in its
-- left-hand side
abbrev pub unbound_in : Spec → Rule → List Word
unbound_in y r = missing (node_words (flat r.left)) (variables_among y
    (node_words (flat_terms (r.right ∷ condition_terms r.conditions))))
