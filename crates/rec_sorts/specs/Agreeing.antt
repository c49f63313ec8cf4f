-- Numbered declarations that agree with a specification.
use Rattle.std.specs.Prelude.{ℕ, ◌≡◌, List, ◌∷◌, ◌++◌, ◌≤◌, Option, All, map, flat_map, length}
use Rattle.rec_syntax.specs.Syntax.{Variables, Spec}
use Rattle.rec_sorts.specs.Lookup.{symbols, names, variable_words}
use Rattle.rec_syntax.specs.Parts.{words_of, Within}
use Rattle.rec_sorts.specs.SpecRules.{repeated_sorts, repeated_symbols, taken_variables}
use Rattle.rec_sorts.specs.SpecRules.{unknown_sorts}
use Rattle.rec_sorts.specs.Least.{least_place}
use Rattle.rec_sorts.specs.declared.declarations.Declared.{Declared}
use Rattle.rec_sorts.specs.Names.{Numbers, given_to, first_at}
use Rattle.rec_sorts.specs.Declaring.{sort_numbers}
use Rattle.rec_sorts.specs.declared.scope.Scope.{Scope}
use Rattle.rec_sorts.specs.declared.symbols.ReadScope.{ReadScope}

-- variable_sorts numbers vs: the sort numbers of the variables
abbrev pub variable_sorts : Numbers → List Variables → List (Option ℕ)
variable_sorts numbers vs = flat_map (λ v. map (λ _. numbers v.sort.bytes) (v.first ∷ v.others)) vs

-- IsDeclared y source d n: `d` has the declarations of `y`; the first `n` of its names are symbols
pub record IsDeclared (y : Spec) (source : List ℕ) (d : Declared) (n : ℕ) : Type 0 where
  pub words_read : words_of source d.words.items ≡ names (symbols y) ++ variable_words y.variables
  pub sorts_read : d.sorts.items
      ≡ map (λ c. first_at y.sorts c.sort.bytes) (symbols y)
      ++ variable_sorts (first_at y.sorts) y.variables
  pub arguments_read : map (λ v. v.items) d.arguments.items
      ≡ map (λ c. sort_numbers (first_at y.sorts) c.arguments) (symbols y)
  pub unknown_read : d.unknown ≡ least_place (unknown_sorts y)
  pub within_read : All (Within source) d.words.items
  pub symbols_read : n ≡ length (symbols y)
  pub symbols_within : n ≤ length d.words.items

-- IsScope y s: the numbers in `s` are those of the declarations of `y`
pub record IsScope (y : Spec) (s : Scope) : Type 0 where
  pub words_numbered : given_to s.words ≡ first_at (names (symbols y) ++ variable_words y.variables)
  pub sorts_listed : s.sorts.items
      ≡ map (λ d. first_at y.sorts d.sort.bytes) (symbols y)
      ++ variable_sorts (first_at y.sorts) y.variables
  pub arguments_listed : map (λ v. v.items) s.arguments.items
      ≡ map (λ d. sort_numbers (first_at y.sorts) d.arguments) (symbols y)
  pub constructors_counted : s.constructors ≡ length y.constructors
  pub symbols_counted : s.symbols ≡ length (symbols y)

-- IsReadScope y source r: `r` has the declarations of `y`, and the offsets at which they violate
-- rules
pub record IsReadScope (y : Spec) (source : List ℕ) (r : ReadScope) : Type 0 where
  pub source_read : r.scope.source.now ≡ source
  pub scope_read : IsScope y r.scope
  pub sorts_repeated : r.repeated_sort ≡ least_place (repeated_sorts y)
  pub symbols_repeated : r.repeated_symbol ≡ least_place (repeated_symbols y)
  pub variables_taken : r.taken_variable ≡ least_place (taken_variables y)
  pub sorts_unknown : r.unknown_sort ≡ least_place (unknown_sorts y)
