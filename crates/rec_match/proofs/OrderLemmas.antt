-- The variables of items in the order in which they first occur, and their places.
use Rattle.std.proofs.Common.{refl, sym, ap, subst, arith, ◌∙◌, ◌+◌, take}
use Rattle.std.proofs.Math.Seq.{take-suc}
use Rattle.std.specs.Prelude.{ℕ, zero, suc, ◌≡◌, ◌<◌, ◌||◌, Bool, true, false, List, [], ◌∷◌, ◌++◌, Option, Some, None, All, Contains, length, get_or, nat_eq}
use Rattle.std.proofs.lemmas.Bool.{eqb-true}
use Rattle.std.proofs.lemmas.List.Elements.{All-push}
use Rattle.rec_sorts.specs.declared.letters.Letter.{Letter}
use Rattle.rec_sorts.specs.declared.letters.Meaning.TheVariants.{Symbol, Variable}
use Rattle.rec_match.specs.Ordered.{among, with_letter, numbers_in}
use Rattle.rec_match.specs.Placed.{IsPlace, ArePlacesIn, OnlyPlaced, FewerPlaces}
use Rattle.rec_match.proofs.ApartLemmas.{contains-among}
use Rattle.rec_match.proofs.PlaceLemmas.{first-contains}

pub only-placed : (vs : List ℕ) (n : ℕ) (ps ps' : List (Option ℕ)) → ArePlacesIn vs n ps → FewerPlaces ps ps' → OnlyPlaced vs n ps'
only-placed vs n ps ps' are f = record {
  counted = f.counted ∙ are.counted;
  others = λ v lt out. f.none v (by v out (get_or ps v None) (are.each v lt));
}
  where
    by : (v : ℕ) → (Contains vs v → ⊥) → (o : Option ℕ) → IsPlace vs v o → o ≡ None
    by v out (Some p) h = absurd (out (first-contains vs v p h))
    by v out None h = refl

pub clearable : (vs xs : List ℕ) (n : ℕ) (ps ps' : List (Option ℕ)) → xs ≡ vs → ArePlacesIn vs n ps → FewerPlaces ps ps' → OnlyPlaced xs (length ps') ps'
clearable vs xs n ps ps' e are f =
    let o = only-placed vs n ps ps' are f in
    subst (λ k. OnlyPlaced xs k ps') (sym o.counted) (subst (λ ys. OnlyPlaced ys n ps') (sym e) o)

numbers-snoc : (vs : List ℕ) (ls : List Letter) (l : Letter) → numbers_in vs (ls ++ l ∷ []) ≡ with_letter (numbers_in vs ls) l.meaning
numbers-snoc vs [] l = refl
numbers-snoc vs (k ∷ ls) l = numbers-snoc (with_letter vs k.meaning) ls l

pub take-next : (ls : List Letter) (i : ℕ) (d : Letter) → i < length ls → take (i + 1) ls ≡ take i ls ++ get_or ls i d ∷ []
take-next ls i d lt = ap (λ n. take n ls) (let e : i + 1 ≡ suc i = omega arith in e) ∙ take-suc ls i d lt

-- what is not contained is not among
not-among : (vs : List ℕ) (v : ℕ) → (Contains vs v → ⊥) → among vs v ≡ false
not-among [] v out = refl
not-among (x ∷ vs) v out = by (nat_eq x v) refl (not-among vs v (λ c. out (suc c.0, (let l = c.1 in omega (arith, l)), c.2)))
  where
    by : (b : Bool) → nat_eq x v ≡ b → among vs v ≡ false → b || among vs v ≡ false
    by true e later = absurd (out (zero, omega arith, eqb-true x v e))
    by false e later = later

-- the variables of some items have their places
pub record Numbered (n : ℕ) (letters : List Letter) (vs : List ℕ) (ps : List (Option ℕ)) : Type 0 where
  pub places : ArePlacesIn vs n ps
  pub numbers : vs ≡ numbers_in [] letters
  pub within : All (λ v. v < n) vs

-- one item more
pub numbered-symbol : (n : ℕ) (letters : List Letter) (i : ℕ) (d : Letter) (vs : List ℕ) (ps : List (Option ℕ)) (k : ℕ) → i < length letters
    → (get_or letters i d).meaning ≡ Symbol k → Numbered n (take i letters) vs ps → Numbered n (take (i + 1) letters) vs ps
numbered-symbol n letters i d vs ps k lt e h = record {
  places = h.places;
  numbers = h.numbers ∙ sym (ap (numbers_in []) (take-next letters i d lt) ∙ numbers-snoc [] (take i letters) (get_or letters i d)
      ∙ ap (with_letter (numbers_in [] (take i letters))) e);
  within = h.within;
}

next-number : (letters : List Letter) (i : ℕ) (d : Letter) (vs : List ℕ) (v : ℕ) (b : Bool) → i < length letters
    → (get_or letters i d).meaning ≡ Variable v → vs ≡ numbers_in [] (take i letters) → among vs v ≡ b
    → numbers_in [] (take (i + 1) letters) ≡ elim b [ true ↦ vs | false ↦ vs ++ v ∷ [] ]
next-number letters i d vs v b lt e is has =
    ap (numbers_in []) (take-next letters i d lt) ∙ numbers-snoc [] (take i letters) (get_or letters i d) ∙ ap (with_letter (numbers_in [] (take i letters))) e
    ∙ ap (λ xs. with_letter xs (Variable v)) (sym is) ∙ ap at has
  where
    at : Bool → List ℕ
    at b = elim b [ true ↦ vs | false ↦ vs ++ v ∷ [] ]

pub numbered-again : (n : ℕ) (letters : List Letter) (i : ℕ) (d : Letter) (vs : List ℕ) (ps : List (Option ℕ)) (v p : ℕ) → i < length letters
    → (get_or letters i d).meaning ≡ Variable v → IsPlace vs v (Some p) → Numbered n (take i letters) vs ps → Numbered n (take (i + 1) letters) vs ps
numbered-again n letters i d vs ps v p lt e place h = record {
  places = h.places;
  numbers = sym (next-number letters i d vs v true lt e h.numbers (contains-among vs v (first-contains vs v p place)));
  within = h.within;
}

pub numbered-first : (n : ℕ) (letters : List Letter) (i : ℕ) (d : Letter) (vs vs' : List ℕ) (ps ps' : List (Option ℕ)) (v : ℕ) → i < length letters
    → (get_or letters i d).meaning ≡ Variable v → v < n → IsPlace vs v None → vs' ≡ vs ++ v ∷ [] → ArePlacesIn (vs ++ v ∷ []) n ps'
    → Numbered n (take i letters) vs ps → Numbered n (take (i + 1) letters) vs' ps'
numbered-first n letters i d vs vs' ps ps' v lt e below out ev places h = record {
  places = subst (λ xs. ArePlacesIn xs n ps') (sym ev) places;
  numbers = ev ∙ sym (next-number letters i d vs v false lt e h.numbers (not-among vs v out));
  within = subst (All (λ x. x < n)) (sym ev) (All-push (λ x. x < n) vs v h.within below);
}
