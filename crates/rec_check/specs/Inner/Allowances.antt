-- The comments of a text that can silence warnings, as a map.
use Rattle.std.specs.Prelude.{ℕ, Bool, List, ◌++◌, codes, is_some}
use Rattle.std.specs.Str.{bytes_eq}
use Rattle.rec_check.specs.Lookups.{number_in}
use Rattle.rec_check.specs.Silenced.{has_comment}
use Rattle.rec_check.specs.declared.names.Names.{Names}

-- allowing phrase: a comment that allows this code and this word
abbrev pub allowing : List ℕ → List ℕ
allowing phrase = codes " recw: allow " ++ phrase

-- is_allowance bytes phrase, has_allowance text phrase, allowed names phrase: it is such a comment,
-- the text has it, the map has it
abbrev pub is_allowance : List ℕ → List ℕ → Bool
is_allowance bytes phrase = bytes_eq bytes (allowing phrase)

abbrev pub has_allowance : List ℕ → List ℕ → Bool
has_allowance text phrase = has_comment text (allowing phrase)

abbrev pub allowed : Names → List ℕ → Bool
allowed names phrase = is_some (number_in names (allowing phrase))
