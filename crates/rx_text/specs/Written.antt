-- Prefixes of a text that were written.
use Rattle.std.specs.Prelude.{◌≡◌, ℕ, List, ◌++◌, Option}
use Rattle.std.specs.Io.KnownBytes.{Appends}

-- IsFront front whole: `front` is a prefix of `whole`
abbrev pub IsFront : List ℕ → List ℕ → Type 0
IsFront front whole = (rest : List ℕ) × (whole ≡ front ++ rest)

-- AppendsFront whole old new: a prefix of `whole` was appended, if the bytes are known
abbrev pub AppendsFront : List ℕ → Option (List ℕ) → Option (List ℕ) → Type 0
AppendsFront whole old new = (front : List ℕ) × Appends old new front × IsFront front whole
