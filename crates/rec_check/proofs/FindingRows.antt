-- What is found in worked texts, row by row.
use Rattle.std.proofs.Common.{refl}
use Rattle.std.specs.Prelude.{ℕ, List, [], ◌∷◌, ◌++◌, codes, ◌≡◌, Some, None, Option}
use Rattle.rec_syntax.specs.Tokens.{Word}
use Rattle.rec_syntax.specs.Syntax.{Spec}
use Rattle.rec_syntax.specs.Inner.Machine.{Outcome, Read}
use Rattle.rec_syntax.proofs.VerdictLemmas.{comes_of}
use Rattle.rec_sorts.specs.Lookup.{places}
use Rattle.rec_check.specs.Findings.{broken_words, unused_sorts, unused_symbols, unused_variables}
use Rattle.rec_check.specs.Spots.{spot_of}
use Rattle.rec_check.specs.declared.finding.Rule.{Rule}
use Rattle.rec_check.specs.declared.finding.Rule.TheVariants as rule

-- the places of some words of what a text spells
abbrev places_in : (Spec → List Word) → Outcome → Option (List ℕ)
places_in words (Read y) = Some (places (words y))
places_in words o = None

abbrev broken_in : Rule → Outcome → Option (List ℕ)
broken_in r o = places_in (λ y. broken_words y r) o

-- the text of the rows up to the rules, which begin at 79; Y stands at 67
abbrev front : List ℕ
front = codes "REC-SPEC Q SORTS A B CONS a : -> A b : -> B OPNS f : A -> A VARS X Y : A RULES "

-- each word after its first place
sorts_twice : broken_in rule.SortTwice (comes_of (codes "REC-SPEC Q SORTS A B A B A CONS OPNS VARS RULES EVAL END-SPEC")) ≡ Some (21 ∷ 23 ∷ 25 ∷ [])
sorts_twice = refl

-- each word that is not declared, also one that is there twice
unknown_words : broken_in rule.WordUnknown (comes_of (front ++ codes "f(c) -> f(d) EVAL c END-SPEC")) ≡ Some (81 ∷ 89 ∷ 97 ∷ [])
unknown_words = refl

-- too many arguments and too few
ill_filled : broken_in rule.IllFilled (comes_of (front ++ codes "f(X,X) -> f EVAL END-SPEC")) ≡ Some (79 ∷ 89 ∷ [])
ill_filled = refl

-- an outer argument and an inner one, the outer one first
ill_sorted : broken_in rule.IllSorted (comes_of (front ++ codes "f(f(b)) -> X EVAL f(b) END-SPEC")) ≡ Some (83 ∷ 99 ∷ [])
ill_sorted = refl

-- the sides of a rule, and of its condition
unlike_sides : broken_in rule.UnlikeSides (comes_of (front ++ codes "f(X) -> b if X -><- b EVAL END-SPEC")) ≡ Some (79 ∷ 92 ∷ [])
unlike_sides = refl

-- in a right side and on both sides of a condition
unbound : broken_in rule.Unbound (comes_of (front ++ codes "f(a) -> f(X) if X -><- Y EVAL END-SPEC")) ≡ Some (89 ∷ 95 ∷ 102 ∷ [])
unbound = refl

-- what is used in a term to evaluate is used
unused_b : places_in unused_symbols (comes_of (front ++ codes "f(X) -> X EVAL f(a) END-SPEC")) ≡ Some (35 ∷ [])
unused_b = refl

unused_y : places_in unused_variables (comes_of (front ++ codes "f(X) -> X EVAL f(a) END-SPEC")) ≡ Some (67 ∷ [])
unused_y = refl

unused_sort : places_in unused_sorts (comes_of (codes "REC-SPEC U SORTS A B CONS a : -> A OPNS VARS RULES EVAL a END-SPEC")) ≡ Some (19 ∷ [])
unused_sort = refl

-- lines and columns from 1
at_first : spot_of (codes "ab\nc") 0 ≡ record { line = 1; column = 1 }
at_first = refl

at_line_end : spot_of (codes "ab\nc") 2 ≡ record { line = 1; column = 3 }
at_line_end = refl

at_second : spot_of (codes "ab\nc") 3 ≡ record { line = 2; column = 1 }
at_second = refl
