-- Names and their numbers.
use Rattle.std.specs.Prelude.{ℕ, true, false, List, [], ◌∷◌, Option, Some, None, suc, bytes_eq}
use Rattle.std.specs.Prelude.{is_some}
use Rattle.std.specs.HashMap.{get_by}
use Rattle.std.specs.Option.{option_map}
use Rattle.rec_syntax.specs.Tokens.{Word}
use Rattle.rec_sorts.specs.Least.{earlier, place_where}
use Rattle.rec_sorts.specs.declared.names.Names.{Names}

-- Numbers: the number of each name that has one
abbrev pub Numbers : Type 0
Numbers = List ℕ → Option ℕ

-- given_to names: the numbers in a map of names
abbrev pub given_to : Names → Numbers
given_to names name = get_by (λ k. bytes_eq name k.bytes.now) names.numbers

-- given_first numbers name number: gives a name a number, unless it has one
abbrev pub given_first : Numbers → List ℕ → ℕ → Numbers
given_first numbers name number other = elim (numbers other) [
  | Some k ↦ Some k
  | None ↦ elim (bytes_eq name other) [ true ↦ Some number | false ↦ None ]
]

-- numbers_after numbers next ws: numbers the names one after another, from `next` on
abbrev pub numbers_after : Numbers → ℕ → List Word → Numbers
numbers_after numbers next [] = numbers
numbers_after numbers next (w ∷ ws) = numbers_after (given_first numbers w.bytes next) (suc next) ws

-- least_repeated numbers next ws: the least offset of a name that already has a number when it is
-- numbered
abbrev pub least_repeated : Numbers → ℕ → List Word → Option ℕ
least_repeated numbers next [] = None
least_repeated numbers next (w ∷ ws) = earlier (place_where (is_some (numbers w.bytes)) w.at)
    (least_repeated (given_first numbers w.bytes next) (suc next) ws)

-- first_at ws: the index of the first name with these bytes
abbrev pub first_at : List Word → Numbers
first_at [] name = None
first_at (w ∷ ws) name =
    elim (bytes_eq w.bytes name) [ true ↦ Some 0 | false ↦ option_map suc (first_at ws name) ]
