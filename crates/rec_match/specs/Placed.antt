-- The positions of variables.
use Rattle.std.specs.Prelude.{ℕ, ◌≡◌, ◌<◌, List, Option, Some, None, Contains, length, get_or}
use Rattle.rec_match.specs.Matching.{FirstAt}
use Rattle.rec_match.specs.declared.places.Places.{Places}

-- IsPlace vs v p: `p` is the first index of the variable; none if it is not in the list
abbrev pub IsPlace : List ℕ → ℕ → Option ℕ → Type 0
IsPlace vs v (Some p) = FirstAt vs v p
IsPlace vs v None = Contains vs v → ⊥

-- ArePlacesIn vs n ps: each of `n` variables has its position in the list
pub record ArePlacesIn (vs : List ℕ) (n : ℕ) (ps : List (Option ℕ)) : Type 0 where
  pub counted : length ps ≡ n
  pub each : (v : ℕ) → v < n → IsPlace vs v (get_or ps v None)

-- ArePlaces vs n p: this holds for a table of positions
abbrev pub ArePlaces : List ℕ → ℕ → Places → Type 0
ArePlaces vs n p = ArePlacesIn vs n p.of.items

-- OnlyPlaced vs n ps: no other variables have positions
pub record OnlyPlaced (vs : List ℕ) (n : ℕ) (ps : List (Option ℕ)) : Type 0 where
  pub counted : length ps ≡ n
  pub others : (v : ℕ) → v < n → (Contains vs v → ⊥) → get_or ps v None ≡ None

-- FewerPlaces old new: a variable without a position still has none
pub record FewerPlaces (old new : List (Option ℕ)) : Type 0 where
  pub counted : length new ≡ length old
  pub none : (v : ℕ) → get_or old v None ≡ None → get_or new v None ≡ None
