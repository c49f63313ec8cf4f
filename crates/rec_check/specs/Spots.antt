-- Locations: lines and columns, both from 1.
use Rattle.std.specs.Prelude.{ℕ, suc, ◌==◌, if◌then◌else◌, List, [], ◌∷◌, ◌++◌, codes, decimal}
use Rattle.std.specs.Prelude.{take}
use Rattle.rec_check.specs.declared.spots.Spot.{Spot}

-- the location of the first byte
abbrev pub first_spot : Spot
first_spot = record { line = 1; column = 1 }

-- spot_behind s b: the location after a byte; after a line feed the next line begins
abbrev pub spot_behind : Spot → ℕ → Spot
spot_behind s b = if b == 10 then record { line = suc s.line; column = 1 }
    else record { line = s.line; column = suc s.column }

-- spot_after s bs: the location after these bytes
abbrev pub spot_after : Spot → List ℕ → Spot
spot_after s [] = s
spot_after s (b ∷ bs) = spot_after (spot_behind s b) bs

-- spot_of text at: the location of an offset
abbrev pub spot_of : List ℕ → ℕ → Spot
spot_of text at = spot_after first_spot (take at text)

-- spot_shown s: a line and a column as a text
abbrev pub spot_shown : Spot → List ℕ
spot_shown s = decimal s.line ++ (codes ":" ++ decimal s.column)
