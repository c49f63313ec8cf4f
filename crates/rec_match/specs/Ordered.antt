-- Variables in the order of their first occurrence.
use Rattle.std.specs.Prelude.{ℕ, ◌≡◌, ◌<◌, ◌||◌, Bool, true, false, List, [], ◌∷◌, ◌++◌, All, map}
use Rattle.std.specs.Prelude.{nat_eq, bytes_eq}
use Rattle.rec_syntax.specs.Syntax.{Spec}
use Rattle.rec_sorts.specs.Lookup.{is_variable}
use Rattle.rec_sorts.specs.Binding.{Substitution}
use Rattle.rec_sorts.specs.Numbering.{Named}
use Rattle.rec_sorts.specs.declared.letters.Letter.{Letter}
use Rattle.rec_sorts.specs.declared.letters.Meaning.{Meaning}
use Rattle.rec_sorts.specs.declared.letters.Meaning.TheVariants.{Symbol, Variable}

-- keys s: the names of a substitution
abbrev pub keys : Substitution → List (List ℕ)
keys s = map (λ b. b.name) s

-- has ns name: the name is in the list
abbrev pub has : List (List ℕ) → List ℕ → Bool
has [] name = false
has (n ∷ ns) name = bytes_eq n name || has ns name

-- with_name ns name: appends a name, unless it is in the list
abbrev pub with_name : List (List ℕ) → List ℕ → List (List ℕ)
with_name ns name = elim (has ns name) [ true ↦ ns | false ↦ ns ++ name ∷ [] ]

-- names_in y ns ms: appends the variables among some names, in the order of their first occurrence
abbrev pub names_in : Spec → List (List ℕ) → List Named → List (List ℕ)
names_in y ns [] = ns
names_in y ns (m ∷ ms) = names_in y
    (elim (is_variable y m.name) [ true ↦ with_name ns m.name | false ↦ ns ]) ms

-- among xs v: the number is in the list
abbrev pub among : List ℕ → ℕ → Bool
among [] v = false
among (x ∷ xs) v = nat_eq x v || among xs v

-- with_number vs v: appends a number, unless it is in the list
abbrev pub with_number : List ℕ → ℕ → List ℕ
with_number vs v = elim (among vs v) [ true ↦ vs | false ↦ vs ++ v ∷ [] ]

-- with_letter vs m: appends the variable of an item, unless it is in the list
abbrev pub with_letter : List ℕ → Meaning → List ℕ
with_letter vs (Symbol k) = vs
with_letter vs (Variable v) = with_number vs v

-- numbers_in vs ls: appends the variables of postfix items, in the order of their first occurrence
abbrev pub numbers_in : List ℕ → List Letter → List ℕ
numbers_in vs [] = vs
numbers_in vs (l ∷ ls) = numbers_in (with_letter vs l.meaning) ls

-- AreAllBelow n ls: the number of each variable is below `n`
abbrev pub AreAllBelow : ℕ → List Letter → Type 0
AreAllBelow n ls = All (λ (l : Letter). (v : ℕ) → l.meaning ≡ Variable v → v < n) ls
