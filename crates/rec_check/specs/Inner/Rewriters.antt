-- A rewriter as a value: the rules of a specification by the symbols of their left-hand sides.
use Rattle.std.specs.Prelude.{ℕ, suc, ◌≡◌, ◌<◌, ◌≤◌, ◌⊎◌, true, false, List, [], ◌∷◌, None, get_or}
use Rattle.std.specs.Prelude.{length, map}
use Rattle.rec_syntax.specs.Syntax.{Rule, Spec, Term, head}
use Rattle.rec_sorts.specs.Lookup.{symbols}
use Rattle.rec_sorts.specs.Numbering.{Named, name_of, named}
use Rattle.rec_sorts.specs.SpecRules.{fault}
use Rattle.rec_sorts.specs.declared.letters.Letter.{Letter}
use Rattle.rec_sorts.specs.declared.letters.Meaning.{Meaning}
use Rattle.rec_sorts.specs.declared.letters.Meaning.TheVariants.{Symbol}
use Rattle.rec_match.specs.Inner.Built.{AreHeads}
use Rattle.rec_match.specs.Inner.Chains.{AreChainsFrom}
use Rattle.rec_check.specs.Rewriting.{rewrites}
use Rattle.rec_check.specs.Spots.{spot_of}
use Rattle.rec_check.specs.declared.rewriting.Rewriter.{Rewriter}

-- OccursIn name ms: the name is one of these
abbrev pub OccursIn : List ℕ → List Named → Type 0
OccursIn name [] = ⊥
OccursIn name (m ∷ ms) = (m.name ≡ name) ⊎ OccursIn name ms

-- HasSymbol ls k: one of these postfix items is symbol `k`
abbrev pub HasSymbol : List Letter → ℕ → Type 0
HasSymbol [] k = ⊥
HasSymbol (l ∷ ls) k = (l.meaning ≡ Symbol k) ⊎ HasSymbol ls k

-- IsSymbolOf y r k: symbol `k` is in the rule's left-hand side
pub record IsSymbolOf (y : Spec) (r : Rule) (k : ℕ) : Type 0 where
  pub declared : k < length (symbols y)
  pub occurs : OccursIn (name_of y (Symbol k)) (named r.left)

-- IsClass y r k: the class of a rule without conditions is a symbol of its left-hand side
pub record IsClass (y : Spec) (r : Rule) (k : ℕ) : Type 0 where
  pub within : k ≤ length (symbols y)
  pub symbol : r.conditions ≡ [] → IsSymbolOf y r k

-- AreClasses y ks: the classes of all rules
pub record AreClasses (y : Spec) (ks : List ℕ) : Type 0 where
  pub counted : length ks ≡ length y.rules
  pub each : (i : ℕ) (r : Rule) → i < length y.rules → IsClass y (get_or y.rules i r) (get_or ks i 0)

-- NoneIn y ks k t n: no rule of class `k` below rule `n` rewrites the term
abbrev pub NoneIn : Spec → List ℕ → ℕ → Term → ℕ → Type 0
NoneIn y ks k t n = (i : ℕ) (d : Rule) → i < n → i < length y.rules → get_or ks i 0 ≡ k
    → rewrites y (get_or y.rules i d) t ≡ false

-- IsFirstFor y ks m t before n: the first rule of a symbol's class that rewrites the term, or
-- `before`
pub record IsFirstFor (y : Spec) (ks : List ℕ) (m : Meaning) (t : Term) (before n : ℕ) : Type 0 where
  pub rewrites_term : n < before → (d : Rule) → rewrites y (get_or y.rules n d) t ≡ true
  pub none : (k : ℕ) → m ≡ Symbol k → NoneIn y ks k t n

pub record IsRewriter (r : Rewriter) : Type 0 where
  pub kept : fault r.checked.now.spec ≡ None
  pub heads : List ℕ
  pub are_heads : AreHeads r.checked.now.spec heads
  pub chained : AreChainsFrom heads (length (symbols r.checked.now.spec)) 0
      r.chains.firsts.items r.chains.nexts.items
  pub classes : AreClasses r.checked.now.spec r.classes.items
  pub classed : AreChainsFrom r.classes.items (suc (length (symbols r.checked.now.spec))) 0
      r.by_class.firsts.items r.by_class.nexts.items
  pub spots_are : r.spots.items
      ≡ map (λ q. spot_of r.checked.now.source (head q.left).at) r.checked.now.spec.rules
