-- The symbols and variables that the numbers in postfix items denote. name_of gives the name of a
-- symbol or variable by its number. AreLetters relates a term to its postfix items: those of its
-- arguments from left to right, then that of its root.
use Rattle.std.specs.Prelude.{ℕ, ◌≡◌, ◌<◌, ◌∷◌, ◌++◌, List, [], All, map, length, get_or}
use Rattle.rec_syntax.specs.Tokens.{Word}
use Rattle.rec_syntax.specs.Syntax.{Term, Terms, Apply, none, more, Condition, Rule, Spec}
use Rattle.rec_sorts.specs.Lookup.{symbols, names, variable_words, count}
use Rattle.rec_sorts.specs.declared.letters.Letter.{Letter}
use Rattle.rec_sorts.specs.declared.letters.Meaning.{Meaning}
use Rattle.rec_sorts.specs.declared.letters.Meaning.TheVariants.{Symbol, Variable}
use Rattle.rec_sorts.specs.declared.letters.LetterRule.{LetterRule}
use Rattle.rec_sorts.specs.declared.letters.LetterCondition.{LetterCondition}

-- bytes_at ws k: the bytes of the name with index `k`; empty if there is no such name
abbrev pub bytes_at : List Word → ℕ → List ℕ
bytes_at ws k = get_or (map (λ w. w.bytes) ws) k []

-- name_of y m: the name of a symbol or variable
abbrev pub name_of : Spec → Meaning → List ℕ
name_of y (Symbol k) = bytes_at (names (symbols y)) k
name_of y (Variable k) = bytes_at (variable_words y.variables) k

-- IsMeaning y m: there is a symbol, or a variable, with this number
abbrev pub IsMeaning : Spec → Meaning → Type 0
IsMeaning y (Symbol k) = k < length (symbols y)
IsMeaning y (Variable k) = k < length (variable_words y.variables)

-- a name, and the number of its arguments
pub record Named : Type 0 where
  pub name : List ℕ
  pub arguments : ℕ

-- named t: the names of a term in postfix order
abbrev mutual
  pub named : Term → List Named
  named (Apply w ts) = named_all ts ++ (record { name = w.bytes; arguments = count ts }) ∷ []

  pub named_all : Terms → List Named
  named_all none = []
  named_all (more t ts) = named t ++ named_all ts

-- named_by y l: the name and number of arguments of a postfix item
abbrev pub named_by : Spec → Letter → Named
named_by y l = record { name = name_of y l.meaning; arguments = l.count }

-- AreLetters y ls t: `ls` is the postfix form of `t`
abbrev pub AreLetters : Spec → List Letter → Term → Type 0
AreLetters y ls t = All (λ l. IsMeaning y l.meaning) ls × (map (named_by y) ls ≡ named t)

-- Pairwise P xs ys: the lists have the same length, and `P` holds for each pair of elements
abbrev pub Pairwise : {X Y : Type 0} → (X → Y → Type 0) → List X → List Y → Type 0
Pairwise P [] [] = Unit {0}
Pairwise P (x ∷ xs) (y ∷ ys) = P x y × Pairwise P xs ys
Pairwise P _ _ = ⊥

-- IsLetterCondition y l c: `l` is the condition `c` in postfix form
abbrev pub IsLetterCondition : Spec → LetterCondition → Condition → Type 0
IsLetterCondition y l c = AreLetters y l.left.items c.left × AreLetters y l.right.items c.right
    × (l.equal ≡ c.equal)

-- IsLetterRule y l r: `l` is the rule `r` in postfix form
abbrev pub IsLetterRule : Spec → LetterRule → Rule → Type 0
IsLetterRule y l r = AreLetters y l.left.items r.left × AreLetters y l.right.items r.right
    × Pairwise (IsLetterCondition y) l.conditions.items r.conditions

-- arity_of y k: the declared number of arguments of a symbol
abbrev pub arity_of : Spec → ℕ → ℕ
arity_of y k = get_or (map (λ d. length d.arguments) (symbols y)) k 0

-- variable_count y: the number of declared variables
abbrev pub variable_count : Spec → ℕ
variable_count y = length (variable_words y.variables)
