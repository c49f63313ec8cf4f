-- Entries of left-hand sides that are built from postfix items.
use Rattle.std.specs.Prelude.{ℕ, ◌≡◌, ◌<◌, List, [], All, map, length, get_or, reverse}
use Rattle.rec_syntax.specs.Syntax as R
use Rattle.rec_syntax.specs.Syntax.{Spec, Rule}
use Rattle.rec_sorts.specs.Lookup.{symbols, count}
use Rattle.rec_sorts.specs.Numbering.{name_of, named_by, named_all, IsMeaning, arity_of}
use Rattle.rec_sorts.specs.declared.letters.Letter.{Letter}
use Rattle.rec_sorts.specs.declared.letters.Meaning.TheVariants.{Symbol}
use Rattle.rec_match.specs.Matching.{AreFilled}
use Rattle.rec_match.specs.Ordered.{numbers_in}
use Rattle.rec_match.specs.declared.matcher.LeftSide.{LeftSide}

-- IsHead y r k: `k` is the symbol at the root of the rule's left-hand side
pub record IsHead (y : Spec) (r : Rule) (k : ℕ) : Type 0 where
  pub declared : k < length (symbols y)
  pub head : (R.head r.left).bytes ≡ name_of y (Symbol k)

-- AreHeads y fs: the symbols of all left-hand sides
pub record AreHeads (y : Spec) (fs : List ℕ) : Type 0 where
  pub counted : length fs ≡ length y.rules
  pub each : (i : ℕ) (r : Rule) → i < length y.rules → IsHead y (get_or y.rules i r) (get_or fs i 0)

-- IsLeftSide y r s: `s` is the entry of the rule's left-hand side, apart from the next rule
pub record IsLeftSide (y : Spec) (r : Rule) (s : LeftSide) : Type 0 where
  pub is_head : IsHead y r s.symbol
  pub counted : count (R.arguments r.left) ≡ s.count
  pub filled : s.count ≡ arity_of y s.symbol
  pub letters : List Letter
  pub meant : All (λ l. IsMeaning y l.meaning) (reverse letters)
  pub named : map (named_by y) letters ≡ named_all (R.arguments r.left)
  pub filled_letters : AreFilled y (reverse letters)
  pub variables : s.variables.items ≡ numbers_in [] letters

-- AreSides y fs nexts sides n: the entries of the first `n` rules, with their next rules
pub record AreSides (y : Spec) (fs nexts : List ℕ) (sides : List LeftSide) (n : ℕ) : Type 0 where
  pub long : length sides ≡ n
  pub each : (i : ℕ) (r : Rule) (s : LeftSide) → i < n
      → IsLeftSide y (get_or y.rules i r) (get_or sides i s)
  pub symbols_of : (i : ℕ) (s : LeftSide) → i < n → (get_or sides i s).symbol ≡ get_or fs i 0
  pub nexts_of : (i : ℕ) (s : LeftSide) → i < n → (get_or sides i s).next ≡ get_or nexts i 0
