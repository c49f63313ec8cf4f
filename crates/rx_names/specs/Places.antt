-- Lists without repeated items.
use Rattle.std.specs.Prelude.{ℕ, ◌≡◌, true, List, nat_lt, slice_get, Some}
use Rattle.std.specs.List.{list_all}

-- AreApart xs: no item is in the list twice
abbrev pub AreApart : {X : Type 0} → List X → Type 0
AreApart {X} xs = (i j : ℕ) (x : X) → slice_get xs i ≡ Some x → slice_get xs j ≡ Some x → i ≡ j

-- AllBytes ws: each word is a list of bytes
abbrev pub AllBytes : List (List ℕ) → Type 0
AllBytes ws = (i : ℕ) (w : List ℕ) → slice_get ws i ≡ Some w → list_all (λ b. nat_lt b 256) w ≡ true

-- KeepsPlaces xs ys: each item of `xs` has the same index in `ys`
abbrev pub KeepsPlaces : {X : Type 0} → List X → List X → Type 0
KeepsPlaces {X} xs ys = (i : ℕ) (x : X) → slice_get xs i ≡ Some x → slice_get ys i ≡ Some x
