-- The symbols and variables that names denote, by the numbers of the declared names.
use Rattle.std.specs.Prelude.{ℕ, ◌+◌, ◌-◌, Bool, false, List, [], map, get_or, nat_lt, nat_le}
use Rattle.std.specs.Prelude.{Option, Some, None, if◌then◌else◌}
use Rattle.std.specs.Option.{option_map}
use Rattle.rec_sorts.specs.Names.{given_to}
use Rattle.rec_sorts.specs.declared.letters.Meaning.{Meaning}
use Rattle.rec_sorts.specs.declared.letters.Meaning.TheVariants.{Symbol, Variable}
use Rattle.rec_sorts.specs.declared.scope.Scope.{Scope}

-- numbered symbols number: the symbol or variable with this number; the first ones are symbols
abbrev pub numbered : ℕ → ℕ → Meaning
numbered symbols number =
    if nat_lt number symbols then Symbol number else Variable (number - symbols)

-- meaning_of s name: the symbol or variable that a name denotes
abbrev pub meaning_of : Scope → List ℕ → Option Meaning
meaning_of s name = option_map (numbered s.symbols) (given_to s.words name)

-- sort_at s m: the sort of a symbol or variable
abbrev pub sort_at : Scope → Option Meaning → Option ℕ
sort_at s (Some (Symbol k)) = get_or s.sorts.items k None
sort_at s (Some (Variable k)) = get_or s.sorts.items (k + s.symbols) None
sort_at s None = None

-- arguments_at s m: the argument sorts of a symbol
abbrev pub arguments_at : Scope → Option Meaning → List (Option ℕ)
arguments_at s (Some (Symbol k)) = get_or (map (λ v. v.items) s.arguments.items) k []
arguments_at s _ = []

-- is_operator s m: this is an operator
abbrev pub is_operator : Scope → Option Meaning → Bool
is_operator s (Some (Symbol k)) = nat_le s.constructors k
is_operator s _ = false
