-- The result of a matcher for a term of a store.
use Rattle.std.specs.Prelude.{ℕ, ◌≡◌, ◌<◌, List, [], Option, Some, None, length, get_or}
use Rattle.rx_term.specs.Store.{Store}
use Rattle.rx_term.specs.declared.Term.{Term}
use Rattle.rx_term.specs.Walks.{AllHeld, held_tree, held_trees}
use Rattle.rec_syntax.specs.Syntax.{Spec}
use Rattle.rec_sorts.specs.Lookup.{symbols}
use Rattle.rec_sorts.specs.Binding.{Substitution, next_match}
use Rattle.rec_sorts.specs.Linked.{AreLinked}
use Rattle.rec_sorts.specs.Numbering.{name_of}
use Rattle.rec_sorts.specs.declared.letters.Meaning.TheVariants.{Symbol}
use Rattle.rec_match.specs.Matching.{IsMatcher, Skips, HeadAt}
use Rattle.rec_match.specs.Rows.{values_of}
use Rattle.rec_match.specs.declared.matcher.LeftSide.{LeftSide}
use Rattle.rec_match.specs.declared.matcher.Matcher.{Matcher}

-- IsReady y w m: `m` is the matcher of a specification whose symbols are in the store
pub record IsReady (y : Spec) (w : Store) (m : Matcher) : Type 0 where
  pub linked : AreLinked y w m.links
  pub matcher : IsMatcher y m.links m

-- AreReady w m: this holds for some specification
pub record AreReady (w : Store) (m : Matcher) : Type 0 where
  pub spec : Spec
  pub ready : IsReady spec w m

-- Matched: rule `i` is the lowest-numbered one, at least `from`, whose left-hand side matches;
-- `bind` has its values in the order in which the variables first occur
pub record Matched (y : Spec) (w : Store) (u : Term) (from i : ℕ) (bind : List Term) : Type 0 where
  pub values : Substitution
  pub first : next_match y from (held_tree w u) ≡ Some (record { number = i; values = values })
  pub bound : held_trees w bind ≡ values_of values
  pub held : AllHeld w bind

-- IsAnswer: that rule, or none
abbrev pub IsAnswer : Spec → Store → Term → ℕ → List Term → Option ℕ → Type 0
IsAnswer y w u from bind (Some i) = Matched y w u from i bind
IsAnswer y w u from bind None = (next_match y from (held_tree w u) ≡ None) × (bind ≡ [])

-- Answers: this holds for each specification that the matcher fits
abbrev pub Answers : Store → Matcher → Term → ℕ → List Term → Option ℕ → Type 0
Answers w m u from bind found = (y : Spec) → IsReady y w m → IsAnswer y w u from bind found

-- Reaches m k from at: no rule of a symbol between `from` and `at` matches, and `at` is one of its
-- rules
abbrev pub Reaches : Matcher → ℕ → ℕ → ℕ → Type 0
Reaches m k from at = (y : Spec) (w : Store) → IsReady y w m → k < length (symbols y)
    → Skips y (name_of y (Symbol k)) from at × HeadAt m at k

-- AreLater m: the next rule of a symbol comes after a rule
abbrev pub AreLater : Matcher → Type 0
AreLater m = (i : ℕ) (s : LeftSide) → i < length m.sides.items → s ≡ get_or m.sides.items i s
    → i < s.next
