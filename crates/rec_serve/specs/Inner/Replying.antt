-- The output for a request that was read.
use Rattle.std.specs.Prelude.{ℕ, Option, List}
use Rattle.std.specs.Io.KnownBytes.{Appends}
use Rattle.rx_text.specs.Written.{AppendsFront}
use Rattle.rec_serve.specs.Inner.Reading.{IsRead}
use Rattle.rec_serve.specs.declared.request.Request.{Request}

-- a response to the request was written
abbrev pub IsRepliedTo : (List ℕ → List ℕ → Type 0) → Request → Option (List ℕ) → Option (List ℕ)
    → Type 0
IsRepliedTo Reply request old new = (line : List ℕ) → IsRead request line
    → (text : List ℕ) × Reply line text × Appends old new text

-- a prefix of a response to the request was written
abbrev pub IsPartlyRepliedTo : (List ℕ → List ℕ → Type 0) → Request → Option (List ℕ)
    → Option (List ℕ) → Type 0
IsPartlyRepliedTo Reply request old new = (line : List ℕ) → IsRead request line
    → (text : List ℕ) × Reply line text × AppendsFront text old new
