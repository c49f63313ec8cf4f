-- What a list names, by count and by membership.
use Rattle.std.proofs.Common.{◌≡◌, ℕ, zero, suc, ◌+◌, ◌<◌, inl, inr, List, [], ◌∷◌, ◌++◌, get_or}
use Rattle.std.proofs.Common.{length, take, map, refl, sym, ap, subst, ◌∙◌, arith, add-one, Contains}
use Rattle.std.specs.Prelude.{Bool, filter}
use Rattle.rx_term.proofs.PartsLemmas.{cons_head, cons_tail, cons_cases, no_element}
use Rattle.rx_arena.specs.Put.{one_if, times}
use Rattle.rx_arena.proofs.PutLemmas.{one_or_two, one_if-same}

pub counted_in : (xs : List ℕ) (t : ℕ) → 0 < times t xs → Contains xs t
counted_in [] t lt = absurd (omega (arith, lt))
counted_in (x ∷ xs) t lt = elim (one_or_two x t) [
  | inl p ↦ subst (λ y. Contains (y ∷ xs) t) (sym p.1) (cons_head t xs)
  | inr p ↦ cons_tail x xs t (counted_in xs t (omega (arith, lt, p.0)))
]

pub in_counted : (xs : List ℕ) (t : ℕ) → Contains xs t → 0 < times t xs
in_counted [] t h = absurd (no_element _ h)
in_counted (x ∷ xs) t h = elim (cons_cases x xs t h) [
  | inl e ↦ (let one : one_if x t ≡ 1 = ap (λ y. one_if y t) e ∙ one_if-same t in omega (arith, one))
  | inr p ↦ (let more = in_counted xs t p in omega (arith, more))
]

pub take-next : {X : Type 0} (xs : List X) (k : ℕ) (d : X) → k < length xs → take (k + 1) xs ≡ take k xs ++ get_or xs k d ∷ []
take-next xs k d lt = ap (λ n. take n xs) (add-one k) ∙ by_suc xs k lt where
  by_suc : (ys : List _) (j : ℕ) → j < length ys → take (suc j) ys ≡ take j ys ++ get_or ys j d ∷ []
  by_suc [] j lt = absurd (omega arith)
  by_suc (y ∷ ys) zero lt = refl
  by_suc (y ∷ ys) (suc j) lt = ap (λ zs. y ∷ zs) (by_suc ys j (omega arith))

pub get_or-map_filter : (f : ℕ → Bool) (css : List (List ℕ)) (c : ℕ) → get_or (map (filter f) css) c [] ≡ filter f (get_or css c [])
get_or-map_filter f [] c = refl
get_or-map_filter f (x ∷ xs) zero = refl
get_or-map_filter f (x ∷ xs) (suc c) = get_or-map_filter f xs c
