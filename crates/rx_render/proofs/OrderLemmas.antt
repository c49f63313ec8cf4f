-- Lists without repeats that grow at their ends, and the places of their items.
use Rattle.std.proofs.Common.{◌≡◌, ℕ, ◌+◌, zero, suc, Bool, true, false, List, [], ◌∷◌, ◌++◌, Some}
use Rattle.std.proofs.Common.{None, refl, sym, ap, ◌∙◌, append_assoc, append-nil, map, slice_get}
use Rattle.std.specs.List.{AllByRecursion, list_any, position_or_len}
use Rattle.indexmap.specs.IndexSet.{insert_key, insert_all}

-- ys begins with xs
abbrev pub Begins : {X : Type 0} → List X → List X → Type 0
Begins {X} xs ys = (rest : List X) × (ys ≡ xs ++ rest)

module _ {X : Type 0} where
  pub begins_same : (xs : List X) → Begins xs xs
  begins_same xs = ([], sym (append-nil xs))

  pub begins_on : (xs ys zs : List X) → Begins xs ys → Begins ys zs → Begins xs zs
  begins_on xs ys zs (a, e) (b, f) = (a ++ b, f ∙ ap (λ z. z ++ b) e ∙ append_assoc xs a b)

  -- ---- places

  pub any_more : (p : X → Bool) (xs ys : List X) → list_any p xs ≡ true → list_any p (xs ++ ys) ≡ true
  any_more p [] ys h = absurd (cc h)
  any_more p (x ∷ xs) ys h = by (p x) refl (any_more p xs ys)
    where
      by : (b : Bool) → p x ≡ b → (list_any p xs ≡ true → list_any p (xs ++ ys) ≡ true) → list_any p ((x ∷ xs) ++ ys) ≡ true
      by true e others = rw e refl
      by false e others = rw e (others (rw e at h))

  pub place_more : (p : X → Bool) (xs ys : List X) → list_any p xs ≡ true → position_or_len p (xs ++ ys) ≡ position_or_len p xs
  place_more p [] ys h = absurd (cc h)
  place_more p (x ∷ xs) ys h = by (p x) refl (place_more p xs ys)
    where
      by : (b : Bool) → p x ≡ b → (list_any p xs ≡ true → position_or_len p (xs ++ ys) ≡ position_or_len p xs)
          → position_or_len p ((x ∷ xs) ++ ys) ≡ position_or_len p (x ∷ xs)
      by true e others = rw e refl
      by false e others = rw e (ap (λ n. 1 + n) (others (rw e at h)))

  -- where none passes, the place is behind all
  pub place_last : (p : X → Bool) (xs : List X) (y : X) → list_any p xs ≡ false → p y ≡ true → position_or_len p (xs ++ y ∷ []) ≡ position_or_len p xs
  place_last p [] y h e = rw e refl
  place_last p (x ∷ xs) y h e = by (p x) refl (λ k. place_last p xs y k e)
    where
      by : (b : Bool) → p x ≡ b → (list_any p xs ≡ false → position_or_len p (xs ++ y ∷ []) ≡ position_or_len p xs)
          → position_or_len p ((x ∷ xs) ++ y ∷ []) ≡ position_or_len p (x ∷ xs)
      by true q others = absurd (let k : true ≡ false = rw q at h in cc k)
      by false q others = rw q (ap (λ n. 1 + n) (others (rw q at h)))

  pub any_last : (p : X → Bool) (xs : List X) (y : X) → p y ≡ true → list_any p (xs ++ y ∷ []) ≡ true
  any_last p [] y e = rw e refl
  any_last p (x ∷ xs) y e = by (p x) refl (any_last p xs y e)
    where
      by : (b : Bool) → p x ≡ b → list_any p (xs ++ y ∷ []) ≡ true → list_any p ((x ∷ xs) ++ y ∷ []) ≡ true
      by true q others = rw q refl
      by false q others = rw q others

  pub get_more : (xs ys : List X) (n : ℕ) (x : X) → slice_get xs n ≡ Some x → slice_get (xs ++ ys) n ≡ Some x
  get_more [] ys n x e = absurd (cc e)
  get_more (z ∷ xs) ys zero x e = e
  get_more (z ∷ xs) ys (suc n) x e = get_more xs ys n x e

  pub get_none : (xs : List X) (n : ℕ) → slice_get xs n ≡ None → slice_get xs (suc n) ≡ None
  get_none [] n e = refl
  get_none (z ∷ xs) zero e = absurd (cc e)
  get_none (z ∷ xs) (suc n) e = get_none xs n e

-- ---- what is inserted

module _ {X : Type 0} (eq : X → X → Bool) where
  pub insert_begins : (xs : List X) (y : X) → Begins xs (insert_key eq xs y)
  insert_begins xs y = by (list_any (eq y) xs) refl
    where
      by : (b : Bool) → list_any (eq y) xs ≡ b → Begins xs (insert_key eq xs y)
      by true e = rw e (begins_same xs)
      by false e = rw e (y ∷ [], refl)

  pub all_begins : (xs ys : List X) → Begins xs (insert_all eq xs ys)
  all_begins xs [] = begins_same xs
  all_begins xs (y ∷ ys) = begins_on xs (insert_key eq xs y) (insert_all eq (insert_key eq xs y) ys) (insert_begins xs y) (all_begins (insert_key eq xs y) ys)

  pub all_append : (xs ys zs : List X) → insert_all eq xs (ys ++ zs) ≡ insert_all eq (insert_all eq xs ys) zs
  all_append xs [] zs = refl
  all_append xs (y ∷ ys) zs = all_append (insert_key eq xs y) ys zs

  module _ (same : (x : X) → eq x x ≡ true) where
    -- it has the place that it was to have
    pub place_insert : (xs : List X) (y : X) → position_or_len (eq y) (insert_key eq xs y) ≡ position_or_len (eq y) xs
    place_insert xs y = by (list_any (eq y) xs) refl
      where
        by : (b : Bool) → list_any (eq y) xs ≡ b → position_or_len (eq y) (insert_key eq xs y) ≡ position_or_len (eq y) xs
        by true e = rw e refl
        by false e = rw e (place_last (eq y) xs y e (same y))

    pub any_insert : (xs : List X) (y : X) → list_any (eq y) (insert_key eq xs y) ≡ true
    any_insert xs y = by (list_any (eq y) xs) refl
      where
        by : (b : Bool) → list_any (eq y) xs ≡ b → list_any (eq y) (insert_key eq xs y) ≡ true
        by true e = rw e e
        by false e = rw e (any_last (eq y) xs y (same y))

    -- each of them is there
    pub all_inserted : (xs ys : List X) → AllByRecursion (λ y. list_any (eq y) (insert_all eq xs ys) ≡ true) ys
    all_inserted xs [] = tt
    all_inserted xs (y ∷ ys) =
        let (rest, e) = all_begins (insert_key eq xs y) ys in
        (ap (list_any (eq y)) e ∙ any_more (eq y) (insert_key eq xs y) rest (any_insert xs y), all_inserted (insert_key eq xs y) ys)

-- ---- under a map

pub all_of_map : {X Y : Type 0} (f : X → Y) (P : Y → Type 0) (xs : List X) → AllByRecursion P (map f xs) → AllByRecursion (λ x. P (f x)) xs
all_of_map f P [] h = tt
all_of_map f P (x ∷ xs) h = (h.0, all_of_map f P xs h.1)

module _ {X Y : Type 0} (f : X → Y) (p : X → Bool) (q : Y → Bool) where
  pub any_map : (xs : List X) → AllByRecursion (λ x. p x ≡ q (f x)) xs → list_any p xs ≡ list_any q (map f xs)
  any_map [] h = refl
  any_map (x ∷ xs) h = let a = h.0 in let b = any_map xs h.1 in rw (a, b) refl

  pub place_map : (xs : List X) → AllByRecursion (λ x. p x ≡ q (f x)) xs → position_or_len p xs ≡ position_or_len q (map f xs)
  place_map [] h = refl
  place_map (x ∷ xs) h = let a = h.0 in let b = place_map xs h.1 in rw (a, b) refl

pub map_append : {X Y : Type 0} (f : X → Y) (xs ys : List X) → map f (xs ++ ys) ≡ map f xs ++ map f ys
map_append f [] ys = refl
map_append f (x ∷ xs) ys = ap (λ zs. f x ∷ zs) (map_append f xs ys)

pub map_insert : {X Y : Type 0} (f : X → Y) (eq : X → X → Bool) (other : Y → Y → Bool) (xs : List X) (x : X)
    → AllByRecursion (λ y. eq x y ≡ other (f x) (f y)) xs → map f (insert_key eq xs x) ≡ insert_key other (map f xs) (f x)
map_insert f eq other xs x h = by (list_any (eq x) xs) refl
  where
    same : list_any (eq x) xs ≡ list_any (other (f x)) (map f xs)
    same = any_map f (eq x) (other (f x)) xs h

    by : (b : Bool) → list_any (eq x) xs ≡ b → map f (insert_key eq xs x) ≡ insert_key other (map f xs) (f x)
    by true e = let k = sym same ∙ e in rw (e, k) refl
    by false e = let k = sym same ∙ e in rw (e, k) (map_append f xs (x ∷ []))
