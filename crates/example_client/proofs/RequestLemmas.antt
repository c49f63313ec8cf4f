-- A request is one term, and its items are those of the only one.
use Rattle.std.proofs.Common.{◌≡◌, ◌<◌, List, [], ◌∷◌, ◌++◌, length, subst, arith}
use Rattle.rec_sorts.specs.Numbering.{Pairwise}

-- what is taken from the end of a list that pairs with one element is that element's
pub only_one : {X Y : Type 0} (P : X → Y → Type 0) (xs rest : List X) (x : X) (y : Y) → xs ≡ rest ++ x ∷ [] → Pairwise P xs (y ∷ []) → P x y
only_one P xs [] x y e h = (subst (λ zs. Pairwise P zs (y ∷ [])) e h).0
only_one P xs (r ∷ []) x y e h = absurd ((subst (λ zs. Pairwise P zs (y ∷ [])) e h).1)
only_one P xs (r ∷ s ∷ rest) x y e h = absurd ((subst (λ zs. Pairwise P zs (y ∷ [])) e h).1)

-- there is one
pub not_none : {X Y : Type 0} (P : X → Y → Type 0) (xs : List X) (y : Y) → Pairwise P xs (y ∷ []) → 0 < length xs
not_none P [] y h = absurd h
not_none P (x ∷ xs) y h = omega arith
