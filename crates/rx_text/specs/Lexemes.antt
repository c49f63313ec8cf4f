-- The tokens that the lexer's tokens denote.
use Rattle.std.specs.Prelude.{◌≡◌, ℕ, ◌<◌, ◌≤◌, Bool, true, false, List, [], drop, slice_range}
use Rattle.std.specs.Prelude.{length, Option, Some, None, IsSome, IsTrue}
use Rattle.std.specs.List.{list_all}
use Rattle.rx_term.specs.Name.{is_allowed, is_digit}
use Rattle.rx_term.specs.Tree.{is_i32}
use Rattle.rx_text.specs.Token as token
use Rattle.rx_text.specs.Token.{Token, tokens_from, quoted}
use Rattle.rx_text.specs.declared.nodes.Word.{Word}
use Rattle.rx_text.specs.declared.lexer.LexemeKind.{LexemeKind}
use Rattle.rx_text.specs.declared.lexer.LexemeKind.TheVariants.{Integer, Name, Open, Close}
use Rattle.rx_text.specs.declared.lexer.LexemeKind.TheVariants.{OpenBracket, CloseBracket}
use Rattle.rx_text.specs.declared.lexer.LexemeKind.TheVariants.{OpenBrace, CloseBrace, Less}
use Rattle.rx_text.specs.declared.lexer.LexemeKind.TheVariants.{Greater, Comma, Bad, End}

-- quoted_name found: the name that was read up to its closing quote
abbrev pub quoted_name : Option (List ℕ × ℕ) → List ℕ
quoted_name None = []
quoted_name (Some q) = q.0

-- name_between bytes from to quoted: the name between two offsets; a quoted name starts at the
-- first and ends at its closing quote
abbrev pub name_between : List ℕ → ℕ → ℕ → Bool → List ℕ
name_between bytes from to false = slice_range bytes from to
name_between bytes from to true = quoted_name (quoted 0 (drop from bytes))

-- name_of bytes w: the name of a word
abbrev pub name_of : List ℕ → Word → List ℕ
name_of bytes w = name_between bytes w.from w.to w.quoted

-- IsNameBetween bytes from to quoted: there is a name between the two offsets
abbrev pub IsNameBetween : List ℕ → ℕ → ℕ → Bool → Type 0
IsNameBetween bytes from to false = (from ≤ to) × (to ≤ length bytes)
    × IsTrue (is_allowed (slice_range bytes from to) false)
IsNameBetween bytes from to true = (from ≤ length bytes) × IsSome (quoted 0 (drop from bytes))

-- IsWord bytes w: the word is the range of a name
abbrev pub IsWord : List ℕ → Word → Type 0
IsWord bytes w = IsNameBetween bytes w.from w.to w.quoted

-- token_of bytes k: the token of the grammar that a token of the lexer denotes
abbrev pub token_of : List ℕ → LexemeKind → Token
token_of bytes (Integer z) = token.Integer z
token_of bytes (Name w) = token.Name (name_of bytes w) w.quoted
token_of bytes Open = token.Open
token_of bytes Close = token.Close
token_of bytes OpenBracket = token.OpenBracket
token_of bytes CloseBracket = token.CloseBracket
token_of bytes OpenBrace = token.OpenBrace
token_of bytes CloseBrace = token.CloseBrace
token_of bytes Less = token.Less
token_of bytes Greater = token.Greater
token_of bytes Comma = token.Comma
token_of bytes Bad = token.Bad
token_of bytes End = token.End

-- tokens_after bytes from: the tokens from an offset on, with their offsets
abbrev pub tokens_after : List ℕ → ℕ → List (ℕ × Token)
tokens_after bytes from = tokens_from 0 from (drop from bytes)

-- behind bytes k to: the tokens after token `k`, which ends at offset `to`
abbrev pub behind : List ℕ → LexemeKind → ℕ → List (ℕ × Token)
behind bytes End to = []
behind bytes k to = tokens_after bytes to

-- Advances k from to: a token has at least one byte, unless it is the end
abbrev pub Advances : LexemeKind → ℕ → ℕ → Type 0
Advances End from to = Unit {0}
Advances k from to = from < to

-- IsMark k: the token is neither a name nor the end
abbrev pub IsMark : LexemeKind → Type 0
IsMark (Name w) = ⊥
IsMark End = ⊥
IsMark k = Unit {0}

-- IsInner k: the token is not the end
abbrev pub IsInner : LexemeKind → Type 0
IsInner End = ⊥
IsInner k = Unit {0}

-- IsToken bytes k: the integer of a token fits 32 bits, and its word is the range of a name
abbrev pub IsToken : List ℕ → LexemeKind → Type 0
IsToken bytes (Integer z) = IsTrue (is_i32 z)
IsToken bytes (Name w) = IsWord bytes w
IsToken bytes k = Unit {0}

-- AreDigits bytes: each byte is a digit
abbrev pub AreDigits : List ℕ → Type 0
AreDigits bytes = list_all is_digit bytes ≡ true
