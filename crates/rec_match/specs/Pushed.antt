-- Parts of postfix items, built with a stack of the arguments' parts.
use Rattle.std.specs.Prelude.{ℕ, ◌≡◌, ◌-◌, ◌<◌, ◌≤◌, suc, List, [], ◌∷◌, ◌++◌, length, map, get_or}
use Rattle.rec_syntax.specs.Syntax.{Term, Terms, Rule, Spec}
use Rattle.rec_sorts.specs.Lookup.{count}
use Rattle.rec_sorts.specs.Laws.{Every}
use Rattle.rec_sorts.specs.Numbering.{name_of}
use Rattle.rec_sorts.specs.declared.letters.Letter.{Letter}
use Rattle.rec_match.specs.Parts.{IsHead, IsPart, AreParts, PushesLetter, IsWhole}
use Rattle.rec_match.specs.declared.parts.Part.{Part}
use Rattle.rec_match.specs.declared.parts.Parts.{Parts}

-- CanPush n ks: a stack of length `n` has the arguments of items with these counts; each item
-- replaces its arguments
abbrev pub CanPush : ℕ → List ℕ → Type 0
CanPush n [] = Unit {0}
CanPush n (k ∷ ks) = (k ≤ n) × CanPush (suc (n - k)) ks

-- counts_of ls: the numbers of arguments
abbrev pub counts_of : List Letter → List ℕ
counts_of ls = map (λ (l : Letter). l.count) ls

-- Pushed ps st ls qs out: the parts of these items are added, one after the other
abbrev pub Pushed : Parts → List ℕ → List Letter → Parts → List ℕ → Type 0
Pushed ps st [] qs out = (ps ≡ qs) × (st ≡ out)
Pushed ps st (l ∷ ls) qs out = (mid : Parts) × (ms : List ℕ) × PushesLetter ps mid l st ms
    × Pushed mid ms ls qs out

-- IsFilled y l: the item has the declared number of arguments
abbrev pub IsFilled : Spec → Letter → Type 0
IsFilled y l = IsHead y l.meaning (name_of y l.meaning) l.count

-- MoreParts ps qs: `qs` has the parts of `ps` and more after them
pub record MoreParts (ps qs : Parts) : Type 0 where
  pub new_parts : List Part
  pub parts : qs.parts.items ≡ ps.parts.items ++ new_parts
  pub new_arguments : List ℕ
  pub arguments : qs.arguments.items ≡ ps.arguments.items ++ new_arguments

-- PushesTerm: part `n` of a term is added
pub record PushesTerm (y : Spec) (ps : Parts) (t : Term) (qs : Parts) (n : ℕ) : Type 0 where
  pub is : IsPart y qs n t
  pub there : n < length qs.parts.items
  pub whole : IsWhole qs
  pub more : MoreParts ps qs

-- PushesTerms: parts `ks` of terms are added
pub record PushesTerms (y : Spec) (ps : Parts) (ts : Terms) (qs : Parts) (ks : List ℕ)
    : Type 0 where
  pub are : AreParts y qs ks ts
  pub there : Every (λ (a : ℕ). a < length qs.parts.items) ks
  pub long : length ks ≡ count ts
  pub whole : IsWhole qs
  pub more : MoreParts ps qs

-- AreLeftParts y ps numbers n: the parts of the left-hand sides of the first `n` rules
pub record AreLeftParts (y : Spec) (ps : Parts) (numbers : List ℕ) (n : ℕ) : Type 0 where
  pub whole : IsWhole ps
  pub long : length numbers ≡ n
  pub each : (i : ℕ) (r : Rule) → i < n
      → (get_or numbers i 0 < length ps.parts.items)
      × IsPart y ps (get_or numbers i 0) (get_or y.rules i r).left
