-- Lists in which each thing is at one place, with one thing more.
use Rattle.std.proofs.Common.{ℕ, zero, suc, ◌≡◌, ◌≢◌, ◌⊎◌, Bool, true, false, ◌||◌, List, [], ◌∷◌, ◌++◌, length, map, Option}
use Rattle.std.proofs.Common.{Some, None, is_some, refl, sym, ap, ◌∙◌, subst, inl, inr, arith, slice_get, get_or, nat_lt}
use Rattle.std.specs.Prelude.{Decides, MatchOption, if◌then◌else◌, IfOk, OnErr, Result, Ok, Err}
use Rattle.std.specs.List.{list_all, list_any, position}
use Rattle.std.proofs.lemmas.Option.{slice_get-get_or}
use Rattle.std.proofs.lemmas.List.Quantifiers.{position-Some}
use Rattle.rx_names.specs.Places.{AreApart, AllBytes, KeepsPlaces}

pub push-kept : {X : Type 0} (xs : List X) (x : X) → KeepsPlaces xs (xs ++ x ∷ [])
push-kept [] x i y e = cc
push-kept (z ∷ zs) x zero y e = e
push-kept (z ∷ zs) x (suc i) y e = push-kept zs x i y e

-- what is in the longer list was before, or is the new thing at the end
pub push-cases : {X : Type 0} (xs : List X) (x : X) (i : ℕ) (y : X) → slice_get (xs ++ x ∷ []) i ≡ Some y
    → (slice_get xs i ≡ Some y) ⊎ ((i ≡ length xs) × (x ≡ y))
push-cases [] x zero y e = inr (refl, cc)
push-cases [] x (suc i) y e = cc
push-cases (z ∷ zs) x zero y e = inl e
push-cases (z ∷ zs) x (suc i) y e = elim (push-cases zs x i y e) [ inl p ↦ inl p | inr p ↦ inr (omega (arith, p.0), p.1) ]

pub AreApart-push : {X : Type 0} (xs : List X) (x : X) → AreApart xs → ((i : ℕ) → slice_get xs i ≢ Some x) → AreApart (xs ++ x ∷ [])
AreApart-push xs x apart new i j y a b =
    elim (push-cases xs x i y a) [
      | inl p ↦ elim (push-cases xs x j y b) [
        | inl q ↦ apart i j y p q
        | inr q ↦ absurd (new i (p ∙ ap (λ z. Some z) (sym q.1)))
      ]
      | inr p ↦ elim (push-cases xs x j y b) [
        | inl q ↦ absurd (new j (q ∙ ap (λ z. Some z) (sym p.1)))
        | inr q ↦ p.0 ∙ sym q.0
      ]
    ]

pub AllBytes-push : (ws : List (List ℕ)) (w : List ℕ) → AllBytes ws → list_all (λ b. nat_lt b 256) w ≡ true → AllBytes (ws ++ w ∷ [])
AllBytes-push ws w all fit i v e = elim (push-cases ws w i v e) [ inl p ↦ all i v p | inr p ↦ subst (λ u. list_all (λ b. nat_lt b 256) u ≡ true) p.1 fit ]

-- a test that finds something finds it at a place
any-place : {X : Type 0} (p : X → Bool) (xs : List X) → list_any p xs ≡ true → (i : ℕ) × ((x : X) × (slice_get xs i ≡ Some x) × (p x ≡ true))
any-place p [] e = cc
any-place p (x ∷ xs) e = by_head (p x) refl e (λ q. any-place p xs q) where
  by_head : (b : Bool) → p x ≡ b → (b || list_any p xs) ≡ true
      → (list_any p xs ≡ true → (i : ℕ) × ((y : _) × (slice_get xs i ≡ Some y) × (p y ≡ true)))
      → (i : ℕ) × ((y : _) × (slice_get (x ∷ xs) i ≡ Some y) × (p y ≡ true))
  by_head true q e rest = (zero, (x, refl, q))
  by_head false q e rest = let r = rest e in (suc r.0, (r.1.0, r.1.1, r.1.2))

or-true : (a : Bool) → (a || true) ≡ true
or-true true = refl
or-true false = refl

place-any : {X : Type 0} (p : X → Bool) (xs : List X) (i : ℕ) (x : X) → slice_get xs i ≡ Some x → p x ≡ true → list_any p xs ≡ true
place-any p [] i x e q = cc
place-any p (y ∷ ys) zero x e q = let s : p y ≡ p x = ap p (let r : y ≡ x = cc in r) in rw (s, q) refl
place-any p (y ∷ ys) (suc i) x e q = rw (place-any p ys i x e q) (or-true (p y))

map-place : {X Y : Type 0} (f : X → Y) (xs : List X) (i : ℕ) (y : Y) → slice_get (map f xs) i ≡ Some y → (x : X) × (slice_get xs i ≡ Some x) × (f x ≡ y)
map-place f [] i y e = cc
map-place f (x ∷ xs) zero y e = (x, refl, cc)
map-place f (x ∷ xs) (suc i) y e = map-place f xs i y e

pub map-at : {X Y : Type 0} (f : X → Y) (xs : List X) (i : ℕ) (x : X) → slice_get xs i ≡ Some x → slice_get (map f xs) i ≡ Some (f x)
map-at f [] i x e = cc
map-at f (y ∷ ys) zero x e = ap (λ z. Some (f z)) (let r : y ≡ x = cc in r)
map-at f (y ∷ ys) (suc i) x e = map-at f ys i x e

pub map-push : {X Y : Type 0} (f : X → Y) (xs : List X) (x : X) → map f (xs ++ x ∷ []) ≡ map f xs ++ f x ∷ []
map-push f [] x = refl
map-push f (y ∷ ys) x = ap (λ zs. f y ∷ zs) (map-push f ys x)

-- a search by an exact test
module _ {X Y : Type 0} (f : X → Y) (w : Y) (p : X → Bool) (exact : (x : X) → Decides (p x) (w ≡ f x)) where
  pub none-found : (xs : List X) → list_any p xs ≡ false → (i : ℕ) → slice_get (map f xs) i ≢ Some w
  none-found xs e i q =
      let x = map-place f xs i w q in
      let a : list_any p xs ≡ true = place-any p xs i x.0 x.1 ((exact x.0).1 (sym x.2)) in
      cc

  pub nothing-there : (xs : List X) → ((i : ℕ) → slice_get (map f xs) i ≢ Some w) → list_any p xs ≡ false
  nothing-there xs nowhere = by_answer (list_any p xs) refl where
    by_answer : (b : Bool) → list_any p xs ≡ b → list_any p xs ≡ false
    by_answer false e = e
    by_answer true e =
        let r = any-place p xs e in
        absurd (nowhere r.0 (map-at f xs r.0 r.1.0 r.1.1 ∙ ap (λ z. Some z) (sym ((exact r.1.0).0 r.1.2))))

  pub found-at : (xs : List X) (i : ℕ) → position p xs ≡ Some i → slice_get (map f xs) i ≡ Some w
  found-at [] i e = cc
  found-at (x ∷ xs) i e =
      let r = position-Some p (x ∷ xs) i x e in
      map-at f (x ∷ xs) i (get_or (x ∷ xs) i x) (slice_get-get_or (x ∷ xs) i x r.0) ∙ ap (λ z. Some z) (sym ((exact (get_or (x ∷ xs) i x)).0 r.1))

  -- what the search answers
  pub searched : (xs : List X) (r : Option ℕ) → r ≡ position p xs → is_some r ≡ list_any p xs
      → MatchOption r ((i : ℕ) → slice_get (map f xs) i ≢ Some w) (λ i. slice_get (map f xs) i ≡ Some w)
  searched xs None e s = none-found xs (sym s)
  searched xs (Some i) e s = found-at xs i (sym e)

-- the list is as it was, or has at its end a thing that was nowhere
abbrev pub Placed : {X : Type 0} → List X → List X → X → Type 0
Placed xs new x = (new ≡ xs) ⊎ (((i : ℕ) → slice_get xs i ≢ Some x) × (new ≡ xs ++ x ∷ []))

-- what an insertion does, whether it was refused or not
pub inserted-once : {A E X : Type 0} (r : Result A E) (found : Bool) (xs new : List X) (x : X)
    → IfOk r (λ _. new ≡ (if found then xs else xs ++ x ∷ [])) → OnErr r (new ≡ xs) → (found ≡ false → (i : ℕ) → slice_get xs i ≢ Some x) → Placed xs new x
inserted-once (Ok a) true xs new x p q lacks = inl p
inserted-once (Ok a) false xs new x p q lacks = inr (lacks refl, p)
inserted-once (Err a) found xs new x p q lacks = inl q

pub Placed-kept : {X : Type 0} (xs new : List X) (x : X) → Placed xs new x → KeepsPlaces xs new
Placed-kept xs new x placed = elim placed [
  | inl e ↦ subst (λ zs. KeepsPlaces xs zs) (sym e) (λ i y q. q)
  | inr e ↦ subst (λ zs. KeepsPlaces xs zs) (sym e.1) (push-kept xs x)
]

pub Placed-apart : {X : Type 0} (xs new : List X) (x : X) → Placed xs new x → AreApart xs → AreApart new
Placed-apart xs new x placed apart = elim placed [
  | inl e ↦ subst AreApart (sym e) apart
  | inr e ↦ subst AreApart (sym e.1) (AreApart-push xs x apart e.0)
]

pub Placed-bytes : (ws new : List (List ℕ)) (w : List ℕ) → Placed ws new w → AllBytes ws → list_all (λ b. nat_lt b 256) w ≡ true → AllBytes new
Placed-bytes ws new w placed all fit = elim placed [
  | inl e ↦ subst AllBytes (sym e) all
  | inr e ↦ subst AllBytes (sym e.1) (AllBytes-push ws w all fit)
]

-- each thing seen by a function
pub Placed-map : {X Y : Type 0} (f : X → Y) (xs new : List X) (x : X) → (new ≡ xs) ⊎ (new ≡ xs ++ x ∷ [])
    → ((i : ℕ) → slice_get (map f xs) i ≢ Some (f x)) → Placed (map f xs) (map f new) (f x)
Placed-map f xs new x p nowhere = elim p [ inl e ↦ inl (ap (map f) e) | inr e ↦ inr (nowhere, ap (map f) e ∙ map-push f xs x) ]

pub inserted-new : {A E X : Type 0} (r : Result A E) (found : Bool) (xs new : List X) (x : X)
    → IfOk r (λ _. new ≡ (if found then xs else xs ++ x ∷ [])) → OnErr r (new ≡ xs) → found ≡ false → (new ≡ xs) ⊎ (new ≡ xs ++ x ∷ [])
inserted-new (Ok a) true xs new x p q e = cc
inserted-new (Ok a) false xs new x p q e = inr p
inserted-new (Err a) found xs new x p q e = inl q

map-same : {X : Type 0} (xs : List X) → map (λ x. x) xs ≡ xs
map-same [] = refl
map-same (x ∷ xs) = ap (λ ys. x ∷ ys) (map-same xs)

-- a search for a thing itself
module _ {X : Type 0} (w : X) (p : X → Bool) (exact : (x : X) → Decides (p x) (w ≡ x)) where
  pub searched-itself : (xs : List X) (r : Option ℕ) → r ≡ position p xs → is_some r ≡ list_any p xs
      → MatchOption r ((i : ℕ) → slice_get xs i ≢ Some w) (λ i. slice_get xs i ≡ Some w)
  searched-itself xs r e s = subst (λ ys. MatchOption r ((i : ℕ) → slice_get ys i ≢ Some w) (λ i. slice_get ys i ≡ Some w)) (map-same xs)
      (searched (λ x. x) w p exact xs r e s)

  pub lacks-itself : (xs : List X) → list_any p xs ≡ false → (i : ℕ) → slice_get xs i ≢ Some w
  lacks-itself xs e i q = none-found (λ x. x) w p exact xs e i (ap (λ ys. slice_get ys i) (map-same xs) ∙ q)
