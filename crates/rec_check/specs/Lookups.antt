-- Lookups of names.
use Rattle.std.specs.Prelude.{ℕ, ◌≡◌, not, List, [], ◌∷◌, ◌++◌, Option, Some, None, map, flat_map}
use Rattle.std.specs.Prelude.{filter, length, nat_eq, bytes_eq, is_some, ◌||◌, cond, if◌then◌else◌}
use Rattle.std.specs.HashMap.{get_by}
use Rattle.rec_syntax.specs.Tokens.{Word}
use Rattle.rec_syntax.specs.Syntax.{Spec}
use Rattle.rec_syntax.specs.Nodes.{Node}
use Rattle.rec_sorts.specs.Lookup.{symbols, symbol, names, variable_words, variable_sort, mentions}
use Rattle.rec_sorts.specs.Names.{first_at}
use Rattle.rec_check.specs.Named.{as_words}
use Rattle.rec_check.specs.declared.names.Names.{Names}
use Rattle.rec_check.specs.declared.scope.Scope.{Scope}

-- number_in names name: the number of a name
abbrev pub number_in : Names → List ℕ → Option ℕ
number_in names name = get_by (λ k. bytes_eq name k.bytes.now) names.numbers

-- Knows names ws: the names are those of these words
abbrev pub Knows : Names → List Word → Type 0
Knows names ws = (name : List ℕ) → is_some (number_in names name) ≡ mentions ws name

-- present known ws: the words of `ws` whose names are known, in their order
abbrev pub present : List Word → List Word → List Word
present known ws = filter (λ w. mentions known w.bytes) ws

-- sort_named y name: the sort of a name
abbrev pub sort_named : Spec → List ℕ → Option (List ℕ)
sort_named y name = elim (symbol y name) [
  | Some d ↦ Some d.sort.bytes
  | None ↦ variable_sort y.variables name
]

-- argument_sorts y name: the declared sorts of a name's arguments; a variable has none
abbrev pub argument_sorts : Spec → List ℕ → List Word
argument_sorts y name = elim (symbol y name) [ Some d ↦ d.arguments | None ↦ [] ]

-- ill_filled_among y ns: the words of nodes with the wrong number of arguments
abbrev pub ill_filled_among : Spec → List Node → List Word
ill_filled_among y ns = map (λ n. n.word)
    (filter (λ n. not (nat_eq n.count (length (argument_sorts y n.word.bytes)))) ns)

-- IsGiven old new name number: sets the number of one name
abbrev pub IsGiven : Names → Names → List ℕ → ℕ → Type 0
IsGiven old new name number = (other : List ℕ) → number_in new other
    ≡ cond (bytes_eq name other) (Some number) (number_in old other)

-- IsNoted old new w: adds one name
abbrev pub IsNoted : Names → Names → Word → Type 0
IsNoted old new w = (name : List ℕ) → is_some (number_in new name)
    ≡ bytes_eq w.bytes name || is_some (number_in old name)

-- where_known names w: the word, if its name is known
abbrev pub where_known : Names → Word → List Word
where_known names w = if is_some (number_in names w.bytes) then w ∷ [] else []

-- all_sorts y: the sorts of the symbols, and then those of the variables
abbrev pub all_sorts : Spec → List Word
all_sorts y = map (λ d. d.sort) (symbols y)
    ++ flat_map (λ v. map (λ _. v.sort) (v.first ∷ v.others)) y.variables

-- the numbers of the declared names of a specification, the sort of each, and the declared sorts
pub record IsScope (s : Scope) : Type 0 where
  pub numbered : (name : List ℕ) → number_in s.names name
      ≡ first_at (names (symbols s.syntax.now.spec) ++ variable_words s.syntax.now.spec.variables)
      name
  pub sorted : as_words s.sorts.items ≡ all_sorts s.syntax.now.spec
  pub known : Knows s.known s.syntax.now.spec.sorts
