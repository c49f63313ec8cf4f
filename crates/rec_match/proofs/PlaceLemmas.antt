-- Places of variables that are given and cleared.
use Rattle.std.proofs.Common.{refl, sym, ap, subst, arith, ◌∙◌, inl, inr, drop}
use Rattle.std.specs.Prelude.{ℕ, zero, suc, ◌≡◌, ◌≢◌, ◌<◌, ◌⊎◌, List, [], ◌∷◌, ◌++◌, Option, Some, None, Contains, length, get_or, set}
use Rattle.std.proofs.lemmas.Bool.{cases_eq}
use Rattle.std.proofs.lemmas.List.{length-set, get_or-set_same, get_or-set_other}
use Rattle.std.proofs.lemmas.List.Elements.{Contains-push_cases}
use Rattle.rec_match.specs.Matching.{FirstAt}
use Rattle.rec_match.specs.Placed.{IsPlace, ArePlacesIn, OnlyPlaced}

pub first-contains : (vs : List ℕ) (v p : ℕ) → FirstAt vs v p → Contains vs v
first-contains [] v p h = absurd h
first-contains (x ∷ vs) v zero h = (zero, omega arith, h)
first-contains (x ∷ vs) v (suc p) h = let c = first-contains vs v p h.1 in (suc c.0, (let l = c.1 in omega (arith, l)), c.2)

pub first-more : (vs : List ℕ) (x v p : ℕ) → FirstAt vs v p → FirstAt (vs ++ x ∷ []) v p
first-more [] x v p h = absurd h
first-more (w ∷ vs) x v zero h = h
first-more (w ∷ vs) x v (suc p) h = (h.0, first-more vs x v p h.1)

contains-later : (w : ℕ) (vs : List ℕ) (v : ℕ) → Contains vs v → Contains (w ∷ vs) v
contains-later w vs v c = (suc c.0, (let l = c.1 in omega (arith, l)), c.2)

pub first-last : (vs : List ℕ) (v : ℕ) → (Contains vs v → ⊥) → FirstAt (vs ++ v ∷ []) v (length vs)
first-last [] v out = refl
first-last (w ∷ vs) v out = ((λ e. out (zero, omega arith, e)), first-last vs v (λ c. out (contains-later w vs v c)))

pub places-give : (vs : List ℕ) (n v p : ℕ) (ps ps' : List (Option ℕ)) → v < n → ArePlacesIn vs n ps → (Contains vs v → ⊥) → p ≡ length vs
    → ps' ≡ set ps v (Some p) → ArePlacesIn (vs ++ v ∷ []) n ps'
places-give vs n v p ps ps' lt so out ep es = record {
  counted = ap length es ∙ length-set ps v (Some p) ∙ so.counted;
  each = λ w h. by w h (cases_eq w v);
}
  where
    more : (w : ℕ) → w ≢ v → (o : Option ℕ) → IsPlace vs w o → IsPlace (vs ++ v ∷ []) w o
    more w ne (Some q) h = first-more vs v w q h
    more w ne None h = λ c. absurd (split (Contains-push_cases vs v w c))
      where
        split : Contains vs w ⊎ (v ≡ w) → ⊥
        split (inl c) = h c
        split (inr e) = ne (sym e)

    by : (w : ℕ) → w < n → (w ≡ v) ⊎ (w ≢ v) → IsPlace (vs ++ v ∷ []) w (get_or ps' w None)
    by w h (inl e) =
        let is : get_or ps' v None ≡ Some p = ap (λ xs. get_or xs v None) es
        ∙ get_or-set_same ps v (Some p) None (let c = so.counted in omega (arith, c, lt)) in
        subst (λ x. IsPlace (vs ++ v ∷ []) x (get_or ps' x None)) (sym e)
        (subst (IsPlace (vs ++ v ∷ []) v) (sym is) (subst (λ q. FirstAt (vs ++ v ∷ []) v q) (sym ep) (first-last vs v out)))
    by w h (inr ne) =
        let is : get_or ps' w None ≡ get_or ps w None = ap (λ xs. get_or xs w None) es ∙ get_or-set_other ps v w (Some p) None ne in
        subst (IsPlace (vs ++ v ∷ []) w) (sym is) (more w ne (get_or ps w None) (so.each w h))

-- the places of the first of some variables are cleared
pub record ClearedTo (vs : List ℕ) (n i : ℕ) (ps : List (Option ℕ)) : Type 0 where
  pub counted : length ps ≡ n
  pub each : (v : ℕ) → v < n → (Contains (drop i vs) v → ⊥) → get_or ps v None ≡ None

pub cleared-first : (vs : List ℕ) (n : ℕ) (ps : List (Option ℕ)) → OnlyPlaced vs n ps → ClearedTo vs n 0 ps
cleared-first vs n ps so = record { counted = so.counted; each = so.others }

-- the places are as many as there are
pub own-places : (vs : List ℕ) (n : ℕ) (ps : List (Option ℕ)) → ArePlacesIn vs n ps → ArePlacesIn vs (length ps) ps
own-places vs n ps h = subst (λ m. ArePlacesIn vs m ps) (sym h.counted) h
