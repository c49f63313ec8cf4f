-- What numbers and items represent, in one specification.
use Rattle.std.proofs.Common.{refl, arith, ◌<◌}
use Rattle.std.specs.Prelude.{ℕ, List, [], ◌∷◌, codes, ◌≡◌}
use Rattle.rec_syntax.specs.Syntax.{Condition, Spec}
use Rattle.rec_syntax.proofs.RowWords.{term}
use Rattle.rec_sorts.specs.Numbering.{name_of, IsMeaning, Named, named, AreLetters, Pairwise, IsLetterCondition, arity_of, variable_count}
use Rattle.rec_sorts.specs.declared.letters.LetterCondition.{LetterCondition}
use Rattle.rec_sorts.specs.declared.letters.Meaning.TheVariants.{Symbol, Variable}
use Rattle.rec_sorts.proofs.SpecRows.{good}

-- symbols are numbered from 0, those of CONS and then those of OPNS; so are variables
first_symbol : name_of good (Symbol 0) ≡ codes "a"
first_symbol = refl

last_symbol : name_of good (Symbol 2) ≡ codes "f"
last_symbol = refl

first_variable : name_of good (Variable 0) ≡ codes "X"
first_variable = refl

last_variable : name_of good (Variable 1) ≡ codes "Y"
last_variable = refl

a_symbol : IsMeaning good (Symbol 2)
a_symbol = omega arith

no_symbol : IsMeaning good (Symbol 3) → ⊥
no_symbol h = omega (arith, h)

a_variable : IsMeaning good (Variable 1)
a_variable = omega arith

no_variable : IsMeaning good (Variable 2) → ⊥
no_variable h = omega (arith, h)

constant : arity_of good 0 ≡ 0
constant = refl

of_one_argument : arity_of good 2 ≡ 1
of_one_argument = refl

two_variables : variable_count good ≡ 2
two_variables = refl

-- a name with so many arguments after it
abbrev n : List ℕ → ℕ → Named
n name arguments = record { name = name; arguments = arguments }

-- f(g(X),a): the items of arguments are before their head's, from left to right
named_nested : named (term 0 "f" (term 2 "g" (term 4 "X" [] ∷ []) ∷ term 7 "a" [] ∷ []))
    ≡ n (codes "X") 0 ∷ n (codes "g") 1 ∷ n (codes "a") 0 ∷ n (codes "f") 2 ∷ []
named_nested = refl

-- an item of a number that no symbol has represents nothing, not even for a word of no bytes
unmeant : AreLetters good (record { meaning = Symbol 3; count = 0 } ∷ []) (term 0 "" []) → ⊥
unmeant h = let meant : 3 < 3 = h.0 0 (record { meaning = Symbol 3; count = 0 }) (omega arith) in omega (arith, meant)

in_pairs : Pairwise {X = ℕ} {Y = ℕ} (λ j k. j ≡ k) (1 ∷ 2 ∷ []) (1 ∷ 2 ∷ [])
in_pairs = (refl, (refl, tt))

left_over : Pairwise {X = ℕ} {Y = ℕ} (λ j k. j ≡ k) (1 ∷ 2 ∷ []) (1 ∷ []) → ⊥
left_over h = h.1

right_over : Pairwise {X = ℕ} {Y = ℕ} (λ j k. j ≡ k) (1 ∷ []) (1 ∷ 2 ∷ []) → ⊥
right_over h = h.1

-- a condition's items say whether it asks for equal values
same_question : (y : Spec) (l : LetterCondition) (c : Condition) → IsLetterCondition y l c → l.equal ≡ c.equal
same_question y l c h = h.2
