-- The postfix items of terms with their offsets, and the offsets at which they violate rules.
use Rattle.std.specs.Prelude.{ℕ, ◌-◌, not, List, [], ◌∷◌, ◌++◌, Option, None, length, map, take}
use Rattle.std.specs.Prelude.{drop, nat_eq, is_none, unwrap_or}
use Rattle.std.specs.Option.{option_eq}
use Rattle.rec_syntax.specs.Nodes.{Node}
use Rattle.rec_sorts.specs.Least.{earlier, least_of, place_where}
use Rattle.rec_sorts.specs.Scope.{meaning_of, sort_at, arguments_at}
use Rattle.rec_sorts.specs.declared.letters.Letter.{Letter}
use Rattle.rec_sorts.specs.declared.letters.Meaning.TheVariants.{Symbol}
use Rattle.rec_sorts.specs.declared.scope.Scope.{Scope}
use Rattle.rec_sorts.specs.declared.terms.Placed.{Placed}

-- placed_by s n: the item of a node, with its symbol or variable
abbrev pub placed_by : Scope → Node → Placed
placed_by s n = record { meaning = meaning_of s n.word.bytes; count = n.count; at = n.word.at }

-- letter_of p: an item without its offset
abbrev pub letter_of : Placed → Letter
letter_of p = record { meaning = unwrap_or p.meaning (Symbol 0); count = p.count }

-- bare ps: the items without their offsets
abbrev pub bare : List Placed → List Letter
bare ps = map letter_of ps

-- unknown_among ps: the least offset of a name that is not declared
abbrev pub unknown_among : List Placed → Option ℕ
unknown_among ps = least_of (λ p. place_where (is_none p.meaning) p.at) ps

-- ill_filled_among s ps: the least offset of a name with the wrong number of arguments
abbrev pub ill_filled_among : Scope → List Placed → Option ℕ
ill_filled_among s ps = least_of
    (λ p. place_where (not (nat_eq p.count (length (arguments_at s p.meaning)))) p.at) ps

-- misplaced s ps sorts: the least offset of an item whose sort is not the one for its position
abbrev pub misplaced : Scope → List Placed → List (Option ℕ) → Option ℕ
misplaced s (p ∷ ps) (sort ∷ sorts) = earlier
    (place_where (not (option_eq nat_eq (sort_at s p.meaning) sort)) p.at) (misplaced s ps sorts)
misplaced s _ _ = None

-- ill_sorted_among s heads ps: the least offset of an argument of another sort than declared, after
-- terms with these roots
abbrev pub ill_sorted_among : Scope → List Placed → List Placed → Option ℕ
ill_sorted_among s heads [] = None
ill_sorted_among s heads (p ∷ ps) =
    let base = length heads - p.count in
    earlier (misplaced s (drop base heads) (arguments_at s p.meaning))
    (ill_sorted_among s (take base heads ++ p ∷ []) ps)
