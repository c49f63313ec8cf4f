-- The variables of items are declared, and do not repeat.
use Rattle.std.proofs.Common.{refl, sym, ap, arith, ◌∙◌}
use Rattle.std.proofs.lemmas.Bool.{eq-eqb}
use Rattle.std.specs.Prelude.{ℕ, zero, suc, ◌≡◌, ◌<◌, ◌||◌, Bool, true, false, List, [], ◌∷◌, ◌++◌, All, Contains, length, nat_eq}
use Rattle.std.proofs.lemmas.List.Elements.{All-head, All-tail}
use Rattle.rec_syntax.specs.Syntax.{Spec}
use Rattle.rec_sorts.specs.Lookup.{variable_words}
use Rattle.rec_sorts.specs.Numbering.{IsMeaning}
use Rattle.rec_sorts.specs.declared.letters.Letter.{Letter}
use Rattle.rec_sorts.specs.declared.letters.Meaning.{Meaning}
use Rattle.rec_sorts.specs.declared.letters.Meaning.TheVariants.{Symbol, Variable}
use Rattle.rec_match.specs.Ordered.{among, with_letter, numbers_in}
use Rattle.rec_match.proofs.PairedLemmas.{AreVariables, every-snoc}

-- each comes after others that it is not among
pub data Apart : List ℕ → Type 0 where
  empty : Apart []
  one_more : (vs : List ℕ) (v : ℕ) → Apart vs → (Contains vs v → ⊥) → Apart (vs ++ v ∷ [])

-- what is contained is among
pub contains-among : (vs : List ℕ) (v : ℕ) → Contains vs v → among vs v ≡ true
contains-among [] v (k, lt, e) = absurd (let no : ⊥ = omega (arith, lt) in no)
contains-among (x ∷ vs) v (zero, lt, e) = ap (λ b. b || among vs v) (eq-eqb x v e)
contains-among (x ∷ vs) v (suc k, lt, e) = by (nat_eq x v) (contains-among vs v (k, omega (arith, lt), e))
  where
    by : (b : Bool) → among vs v ≡ true → b || among vs v ≡ true
    by true h = refl
    by false h = h

-- the variables in the order in which they first occur
pub numbers-variables : (y : Spec) (vs : List ℕ) (ls : List Letter) → All (λ l. IsMeaning y l.meaning) ls → AreVariables y vs → Apart vs
    → AreVariables y (numbers_in vs ls) × Apart (numbers_in vs ls)
numbers-variables y vs [] meant declared apart = (declared, apart)
numbers-variables y vs (l ∷ ls) meant declared apart =
    let k = one l.meaning (All-head (λ (l : Letter). IsMeaning y l.meaning) l ls meant) in
    numbers-variables y (with_letter vs l.meaning) ls (All-tail (λ (l : Letter). IsMeaning y l.meaning) l ls meant) k.0 k.1
  where
    one : (m : Meaning) → IsMeaning y m → AreVariables y (with_letter vs m) × Apart (with_letter vs m)
    one (Symbol k) h = (declared, apart)
    one (Variable v) h = by (among vs v) refl
      where
        by : (b : Bool) → among vs v ≡ b → AreVariables y (elim b [ true ↦ vs | false ↦ vs ++ v ∷ [] ]) × Apart (elim b [ true ↦ vs | false ↦ vs ++ v ∷ [] ])
        by true e = (declared, apart)
        by false e = (
          every-snoc (λ x. x < length (variable_words y.variables)) vs v declared h,
          one_more vs v apart (λ c. (let no : true ≡ false = sym (contains-among vs v c) ∙ e in absurd (cc no))),
        )
