-- The list of words has those of the text.
use Rattle.std.specs.Prelude.{ℕ, ◌≡◌, List, [], ◌∷◌, map}
use Rattle.rec_syntax.specs.Tokens.{Word, Token, Plain, tokens}
use Rattle.rec_syntax.specs.Syntax.{Spec}
use Rattle.rec_syntax.specs.Grammar.{SpecText}
use Rattle.rec_uses.specs.Uses.{uses}

-- plain_words ts: the words among tokens that are not reserved, each with its offset
abbrev pub plain_words : List Token → List Word
plain_words [] = []
plain_words (Plain w ∷ ts) = w ∷ plain_words ts
plain_words (t ∷ ts) = plain_words ts

-- if a text spells a specification, its words that are not reserved are the name and then the uses
abbrev pub UsesAreWords : Type 0
UsesAreWords = (bytes : List ℕ) (y : Spec) → SpecText bytes y
    → plain_words (tokens bytes) ≡ y.name ∷ map (λ u. u.word) (uses y)
