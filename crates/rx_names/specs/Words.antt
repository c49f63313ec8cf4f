-- The words of a list of words.
use Rattle.std.specs.Prelude.{ℕ, List, map}
use Rattle.rx_names.specs.declared.words.Words.{Words}

-- words_of w: the words by their indices
abbrev pub words_of : Words → List (List ℕ)
words_of w = map (λ v. v.items) w.stored.keys
