-- Names get the numbers of their first places, and words that repeat are found.
use Rattle.std.proofs.Common.{refl, sym, ap, subst, ◌∙◌, arith, append_assoc}
use Rattle.std.proofs.lemmas.List.{append-nil, length-append}
use Rattle.std.specs.Prelude.{ℕ, ◌≡◌, Bool, true, false, ◌||◌, List, [], ◌∷◌, ◌++◌, Option, Some, None, suc, length, bytes_eq, is_some}
use Rattle.std.specs.Option.{option_map}
use Rattle.rec_syntax.specs.Tokens.{Word}
use Rattle.rec_sorts.specs.Lookup.{mentions, repeated}
use Rattle.rec_sorts.specs.Least.{earlier, least_place, place_where}
use Rattle.rec_sorts.specs.Names.{Numbers, given_first, numbers_after, least_repeated, first_at}
use Rattle.rec_sorts.proofs.KeptLemmas.{bytes_eq-eq}

-- functions with the same answers are equal
pub same_function : {A B : Type 0} {f g : A → B} → ((x : A) → f x ≡ g x) → f ≡ g
same_function h = λ i x. h x i

first_or : (a : Bool) (o : Option ℕ) (b : Bool) (m : ℕ)
    → ◌≡◌ {A = Option ℕ} (elim a [ true ↦ Some 0 | false ↦ option_map suc (elim o [ Some k ↦ Some k | None ↦ elim b [ true ↦ Some m | false ↦ None ] ]) ])
    (elim (elim a as (λ _. Option ℕ) [ true ↦ Some 0 | false ↦ option_map suc o ]) [ Some k ↦ Some k | None ↦ elim b [ true ↦ Some (suc m) | false ↦ None ] ])
first_or true o b m = refl
first_or false (Some k) b m = refl
first_or false None true m = refl
first_or false None false m = refl

first_at-push : (ws : List Word) (w : Word) (name : List ℕ) → first_at (ws ++ w ∷ []) name ≡ given_first (first_at ws) w.bytes (length ws) name
first_at-push [] w name = refl
first_at-push (v ∷ vs) w name =
    ap (λ (o : Option ℕ). elim (bytes_eq v.bytes name) [ true ↦ Some 0 | false ↦ option_map suc o ]) (first_at-push vs w name)
    ∙ first_or (bytes_eq v.bytes name) (first_at vs name) (bytes_eq w.bytes name) (length vs)

-- words that are numbered from 0 on have the numbers of their first places
pub numbers_after-first_at : (ws vs : List Word) → numbers_after (first_at ws) (length ws) vs ≡ first_at (ws ++ vs)
numbers_after-first_at ws [] = ap first_at (sym (append-nil ws))
numbers_after-first_at ws (v ∷ vs) =
    let grown : given_first (first_at ws) v.bytes (length ws) ≡ first_at (ws ++ v ∷ []) = same_function (λ name. sym (first_at-push ws v name)) in
    let longer : suc (length ws) ≡ length (ws ++ v ∷ []) = omega (arith, length-append ws (v ∷ [])) in
    ap (λ (g : Numbers). numbers_after g (suc (length ws)) vs) grown
    ∙ ap (λ (n : ℕ). numbers_after (first_at (ws ++ v ∷ [])) n vs) longer
    ∙ numbers_after-first_at (ws ++ v ∷ []) vs
    ∙ ap first_at (append_assoc ws (v ∷ []) vs)

-- a name has a number where a word has these bytes
pub is_some-first_at : (ws : List Word) (name : List ℕ) → is_some (first_at ws name) ≡ mentions ws name
is_some-first_at [] name = refl
is_some-first_at (w ∷ ws) name = by_test (bytes_eq w.bytes name) (first_at ws name) (mentions ws name) (is_some-first_at ws name)
  where
    by_test : (b : Bool) (o : Option ℕ) (c : Bool) → is_some o ≡ c → is_some (elim b as (λ _. Option ℕ) [ true ↦ Some 0 | false ↦ option_map suc o ]) ≡ b || c
    by_test true o c e = refl
    by_test false None c e = e
    by_test false (Some k) c e = e

is_some-given_first : (g : Numbers) (name : List ℕ) (k : ℕ) (other : List ℕ) → is_some (given_first g name k other) ≡ bytes_eq name other || is_some (g other)
is_some-given_first g name k other = by_test (g other) (bytes_eq name other)
  where
    by_test : (o : Option ℕ) (b : Bool) → is_some (elim o as (λ _. Option ℕ) [ Some j ↦ Some j | None ↦ elim b [ true ↦ Some k | false ↦ None ] ]) ≡ b
        || is_some o
    by_test None true = refl
    by_test None false = refl
    by_test (Some j) true = refl
    by_test (Some j) false = refl

or_true : (a b : Bool) → (a ≡ true → b ≡ true) → a || b ≡ b
or_true true b h = sym (h refl)
or_true false b h = refl

-- the least word that repeats one before it
pub least_repeated-repeated : (g : Numbers) (next : ℕ) (before ws : List Word) → ((name : List ℕ) → is_some (g name) ≡ mentions before name)
    → least_repeated g next ws ≡ least_place (repeated before ws)
least_repeated-repeated g next before [] same = refl
least_repeated-repeated g next before (w ∷ ws) same =
    ap (λ b. earlier (place_where b w.at) (least_repeated (given_first g w.bytes next) (suc next) ws)) (same w.bytes)
    ∙ by_test (mentions before w.bytes) refl (λ b h. least_repeated-repeated (given_first g w.bytes next) (suc next) b ws h)
  where
    grown : (name : List ℕ) → is_some (given_first g w.bytes next name) ≡ bytes_eq w.bytes name || mentions before name
    grown name = is_some-given_first g w.bytes next name ∙ ap (λ b. bytes_eq w.bytes name || b) (same name)

    Later : List Word → Type 0
    Later b = ((name : List ℕ) → is_some (given_first g w.bytes next name) ≡ mentions b name)
        → least_repeated (given_first g w.bytes next) (suc next) ws ≡ least_place (repeated b ws)

    by_test : (b : Bool) → mentions before w.bytes ≡ b → ((b : List Word) → Later b)
        → earlier (place_where b w.at) (least_repeated (given_first g w.bytes next) (suc next) ws) ≡ least_place
        (elim b [ true ↦ w ∷ repeated before ws | false ↦ repeated (w ∷ before) ws ])
    by_test true e later =
        ap (earlier (Some w.at)) (later before (λ name. grown name ∙ or_true (bytes_eq w.bytes name) (mentions before name) (λ b.
        subst (λ n. mentions before n ≡ true) (bytes_eq-eq w.bytes name b) e)))
    by_test false e later = later (w ∷ before) grown
