-- The largest length of a specification's text.
use Rattle.std.specs.Prelude.{ℕ}

-- the number of bytes
abbrev pub longest : ℕ
longest = 16777216
