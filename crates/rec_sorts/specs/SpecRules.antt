-- The eleven rules of a specification, each as the list of names that violate it, and the verdict
-- on a text.
use Rattle.std.specs.Prelude.{ℕ, ◌≡◌, ◌≤◌, ◌<◌, Bool, true, false, not, List, [], ◌∷◌, ◌++◌, Option}
use Rattle.std.specs.Prelude.{Some, None, map, flat_map, filter, length, nat_eq, min}
use Rattle.rec_syntax.specs.Tokens.{Word}
use Rattle.rec_syntax.specs.Syntax.{Term, Terms, Apply, none, more, Declaration, Spec, head}
use Rattle.rec_syntax.specs.Syntax.{subterms}
use Rattle.rec_syntax.specs.Grammar.{SpecText}
use Rattle.rec_syntax.specs.Place.{IsFaultPlace}
use Rattle.rec_sorts.specs.Lookup.{mentions, repeated, places, symbols, names, variable_words}
use Rattle.rec_sorts.specs.Lookup.{symbol}
use Rattle.rec_sorts.specs.Lookup.{is_variable, sort_of, same_sort, count, condition_terms}
use Rattle.rec_sorts.specs.Lookup.{rule_terms}

-- heads ts: the names at the roots of terms
abbrev pub heads : List Term → List Word
heads ts = map head ts

-- everywhere ts: these terms and all terms inside them
abbrev pub everywhere : List Term → List Term
everywhere ts = flat_map subterms ts

-- all_terms y: every term of the rules and of EVAL, and all terms inside them
abbrev pub all_terms : Spec → List Term
all_terms y = everywhere (rule_terms y.rules ++ y.terms)

-- sorts_of d: the sorts that a declaration names
abbrev pub sorts_of : Declaration → List Word
sorts_of d = d.arguments ++ (d.sort ∷ [])

-- missing known ws: the names in `ws` that are not in `known`
abbrev pub missing : List Word → List Word → List Word
missing known ws = filter (λ w. not (mentions known w.bytes)) ws

-- variables_among y ws: the names in `ws` that are variables
abbrev pub variables_among : Spec → List Word → List Word
variables_among y ws = filter (λ w. is_variable y w.bytes) ws

-- S1: a sort is declared twice
abbrev pub repeated_sorts : Spec → List Word
repeated_sorts y = repeated [] y.sorts

-- S2: a symbol is declared twice
abbrev pub repeated_symbols : Spec → List Word
repeated_symbols y = repeated [] (names (symbols y))

-- S3: a variable is declared twice, or has the name of a symbol
abbrev pub taken_variables : Spec → List Word
taken_variables y = repeated (names (symbols y)) (variable_words y.variables)

-- S4: a sort is not declared
abbrev pub unknown_sorts : Spec → List Word
unknown_sorts y = missing y.sorts (flat_map sorts_of (symbols y) ++ map (λ v. v.sort) y.variables)

-- S5: a name in a term is neither a symbol nor a variable
abbrev pub unknown_words : Spec → List Word
unknown_words y = missing (names (symbols y) ++ variable_words y.variables) (heads (all_terms y))

-- is_filled y t: the number of arguments is the declared one; a variable has no arguments
abbrev pub is_filled : Spec → Term → Bool
is_filled y (Apply w ts) = elim (symbol y w.bytes) [
  | Some d ↦ nat_eq (count ts) (length d.arguments)
  | None ↦ nat_eq (count ts) 0
]

-- S6: a symbol has the wrong number of arguments, or a variable has arguments
abbrev pub ill_filled : Spec → List Word
ill_filled y = heads (filter (λ t. not (is_filled y t)) (all_terms y))

-- ill_placed y ss ts: the terms whose sort is not the one for their position
abbrev pub ill_placed : Spec → List Word → Terms → List Term
ill_placed y [] ts = []
ill_placed y (s ∷ ss) none = []
ill_placed y (s ∷ ss) (more t ts) = elim (same_sort (sort_of y t) (Some s.bytes)) [
  | true ↦ ill_placed y ss ts
  | false ↦ t ∷ ill_placed y ss ts
]

-- ill_sorted_in y t: the arguments of a term whose sort is not the declared one
abbrev pub ill_sorted_in : Spec → Term → List Term
ill_sorted_in y (Apply w ts) =
    elim (symbol y w.bytes) [ Some d ↦ ill_placed y d.arguments ts | None ↦ [] ]

-- S7: an argument has another sort than declared
abbrev pub ill_sorted : Spec → List Word
ill_sorted y = heads (flat_map (ill_sorted_in y) (all_terms y))

-- S8: the root of a left-hand side is not an operator
abbrev pub ill_headed : Spec → List Word
ill_headed y = missing (names y.operators) (map (λ r. head r.left) y.rules)

-- unlike y l r: the term `l` if the sorts of the two terms differ
abbrev pub unlike : Spec → Term → Term → List Term
unlike y l r = elim (same_sort (sort_of y l) (sort_of y r)) [ true ↦ [] | false ↦ l ∷ [] ]

-- S9: the two sides of a rule or of a condition have different sorts
abbrev pub unlike_sides : Spec → List Word
unlike_sides y = heads
    (flat_map (λ r. unlike y r.left r.right ++ flat_map (λ c. unlike y c.left c.right) r.conditions)
    y.rules)

-- S10: a variable of a right-hand side or of a condition does not occur in the left-hand side
abbrev pub unbound : Spec → List Word
unbound y = flat_map
    (λ r. missing (heads (subterms r.left))
    (variables_among y (heads (everywhere (r.right ∷ condition_terms r.conditions))))) y.rules

-- S11: a variable occurs in an EVAL term
abbrev pub open_terms : Spec → List Word
open_terms y = variables_among y (heads (everywhere y.terms))

-- the number of a rule, and the names that violate it
pub record Broken : Type 0 where
  pub number : ℕ
  pub words : List Word

-- all_rules y: the rules in their order
abbrev pub all_rules : Spec → List Broken
all_rules y =
    (record { number = 1; words = repeated_sorts y })
    ∷ (record { number = 2; words = repeated_symbols y })
    ∷ (record { number = 3; words = taken_variables y })
    ∷ (record { number = 4; words = unknown_sorts y })
    ∷ (record { number = 5; words = unknown_words y })
    ∷ (record { number = 6; words = ill_filled y })
    ∷ (record { number = 7; words = ill_sorted y })
    ∷ (record { number = 8; words = ill_headed y })
    ∷ (record { number = 9; words = unlike_sides y })
    ∷ (record { number = 10; words = unbound y })
    ∷ (record { number = 11; words = open_terms y })
    ∷ []

-- the violated rule that is reported, and its offset
pub record Fault : Type 0 where
  pub number : ℕ
  pub at : ℕ

-- least p qs: the least of some offsets
abbrev pub least : ℕ → List ℕ → ℕ
least p [] = p
least p (q ∷ qs) = least (min p q) qs

-- first_broken bs: the lowest-numbered violated rule with the least offset; a rule counts only if
-- those before it are not violated
abbrev pub first_broken : List Broken → Option Fault
first_broken [] = None
first_broken (b ∷ bs) = elim (places b.words) [
  | [] ↦ first_broken bs
  | p ∷ ps ↦ Some (record { number = b.number; at = least p ps })
]

-- fault y: the lowest-numbered rule that a specification violates, with its offset
abbrev pub fault : Spec → Option Fault
fault y = first_broken (all_rules y)

-- the verdict on a text: too long, outside the grammar, a violated rule, or a specification
pub data Verdict : Type 0 where
  Long : Verdict
  Grammar : (at : ℕ) → Verdict
  Breaks : Fault → Verdict
  Good : Spec → Verdict

-- Fits bytes: a text is not too long
abbrev pub Fits : List ℕ → Type 0
Fits bytes = length bytes ≤ 16777216

-- SpecVerdict bytes v: `v` is the verdict on the text
abbrev pub SpecVerdict : List ℕ → Verdict → Type 0
SpecVerdict bytes Long = 16777216 < length bytes
SpecVerdict bytes (Grammar at) = Fits bytes × IsFaultPlace bytes at
SpecVerdict bytes (Breaks f) = Fits bytes × ((y : Spec) × SpecText bytes y × (fault y ≡ Some f))
SpecVerdict bytes (Good y) = Fits bytes × SpecText bytes y × (fault y ≡ None)
