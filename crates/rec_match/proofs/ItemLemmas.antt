-- Items of a list that ends with one more.
use Rattle.std.proofs.Common.{refl, arith}
use Rattle.std.specs.Prelude.{ℕ, zero, suc, ◌≡◌, ◌<◌, List, [], ◌∷◌, ◌++◌, length, get_or}

pub get-front : {A : Type 0} (xs : List A) (x : A) (k : ℕ) (d : A) → k < length xs → get_or (xs ++ x ∷ []) k d ≡ get_or xs k d
get-front [] x k d lt = absurd (let no : ⊥ = omega (arith, lt) in no)
get-front (y ∷ xs) x zero d lt = refl
get-front (y ∷ xs) x (suc k) d lt = get-front xs x k d (omega (arith, lt))

pub get-last : {A : Type 0} (xs : List A) (x : A) (k : ℕ) (d : A) → k ≡ length xs → get_or (xs ++ x ∷ []) k d ≡ x
get-last [] x zero d e = refl
get-last [] x (suc k) d e = absurd (let no : ⊥ = omega (arith, e) in no)
get-last (y ∷ xs) x zero d e = absurd (let no : ⊥ = omega (arith, e) in no)
get-last (y ∷ xs) x (suc k) d e = get-last xs x k d (omega (arith, e))
