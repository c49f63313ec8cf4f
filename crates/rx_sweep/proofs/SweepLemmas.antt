-- What is not marked goes back, chain by chain.
use Rattle.std.proofs.Common.{◌≡◌, ℕ, zero, suc, ◌+◌, ◌<◌, ◌⊎◌, inl, inr, List, [], ◌∷◌, length, get_or, map, refl, sym, ap, ◌∙◌, arith}
use Rattle.std.specs.Prelude.{Bool, true, false, not, cond, filter}
use Rattle.rx_arena.specs.Put.{one_if, times, times_in}
use Rattle.rx_arena.proofs.PutLemmas.{one_or_two}

-- a list of lists by its places
pub lists_same : (xs ys : List (List ℕ)) → length xs ≡ length ys → ((i : ℕ) → i < length ys → get_or xs i [] ≡ get_or ys i []) → xs ≡ ys
lists_same [] [] e h = refl
lists_same [] (y ∷ ys) e h = absurd (omega (arith, e))
lists_same (x ∷ xs) [] e h = absurd (omega (arith, e))
lists_same (x ∷ xs) (y ∷ ys) e h = λ i. h 0 (omega arith) i ∷ lists_same xs ys (omega (arith, e)) (λ k lt. h (suc k) (omega (arith, lt))) i

pub get_or-map_nil : (f : List ℕ → List ℕ) → f [] ≡ [] → (xs : List (List ℕ)) (i : ℕ) → get_or (map f xs) i [] ≡ f (get_or xs i [])
get_or-map_nil f e [] i = sym e
get_or-map_nil f e (x ∷ xs) zero = refl
get_or-map_nil f e (x ∷ xs) (suc i) = get_or-map_nil f e xs i

pub length-map_lists : (f : List ℕ → List ℕ) (xs : List (List ℕ)) → length (map f xs) ≡ length xs
length-map_lists f [] = refl
length-map_lists f (x ∷ xs) = ap suc (length-map_lists f xs)

pub true_or_false : (b : Bool) → (b ≡ true) ⊎ (b ≡ false)
true_or_false true = inl refl
true_or_false false = inr refl

times-filter_in : (p : ℕ → Bool) (s t : ℕ) (ts : List ℕ) → p t ≡ true → times s (filter p (t ∷ ts)) ≡ one_if t s + times s (filter p ts)
times-filter_in p s t ts is = ap (λ y. times s (cond y (t ∷ filter p ts) (filter p ts))) is

times-filter_out : (p : ℕ → Bool) (s t : ℕ) (ts : List ℕ) → p t ≡ false → times s (filter p (t ∷ ts)) ≡ times s (filter p ts)
times-filter_out p s t ts is = ap (λ y. times s (cond y (t ∷ filter p ts) (filter p ts))) is

-- a slot that passes the test is none that does not
passes_apart : (p : ℕ → Bool) (s t : ℕ) (b : Bool) → p s ≡ b → p t ≡ not b → one_if t s ≡ 0
passes_apart p s t b e f = elim (one_or_two t s) [ inl h ↦ absurd (neither b (sym e ∙ ap p (sym h.1) ∙ f)) | inr h ↦ h.0 ]
  where
    neither : (b : Bool) → b ≡ not b → ⊥
    neither true g = cc
    neither false g = cc

-- how often a filtered list names a slot
pub times-filter_true : (p : ℕ → Bool) (s : ℕ) (ss : List ℕ) → p s ≡ true → times s (filter p ss) ≡ times s ss
times-filter_true p s [] e = refl
times-filter_true p s (t ∷ ts) e =
    let rest = times-filter_true p s ts e in
    elim (true_or_false (p t)) [
      | inl is ↦ times-filter_in p s t ts is ∙ ap (λ n. one_if t s + n) rest
      | inr is ↦ times-filter_out p s t ts is ∙ (let other = passes_apart p s t true e is in omega (arith, rest, other))
    ]

pub times-filter_false : (p : ℕ → Bool) (s : ℕ) (ss : List ℕ) → p s ≡ false → times s (filter p ss) ≡ 0
times-filter_false p s [] e = refl
times-filter_false p s (t ∷ ts) e =
    let rest = times-filter_false p s ts e in
    elim (true_or_false (p t)) [
      | inl is ↦ times-filter_in p s t ts is ∙ (let other = passes_apart p s t false e is in omega (arith, rest, other))
      | inr is ↦ times-filter_out p s t ts is ∙ rest
    ]

pub times_in-filter_true : (p : ℕ → Bool) (s : ℕ) (css : List (List ℕ)) → p s ≡ true → times_in s (map (filter p) css) ≡ times_in s css
times_in-filter_true p s [] e = refl
times_in-filter_true p s (c ∷ cs) e = λ i. times-filter_true p s c e i + times_in-filter_true p s cs e i
