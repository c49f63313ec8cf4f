-- The expected tokens at the offset of a syntax error.
use Rattle.std.specs.Prelude.{◌≡◌, ◌↔◌, ℕ, ℤ, pos, Bool, false, List, [], ◌∷◌, ◌++◌, map, Contains}
use Rattle.std.specs.Prelude.{Option, Some, None, is_some}
use Rattle.rx_text.specs.Token as tokens
use Rattle.rx_text.specs.Token.{Token}
use Rattle.rx_text.specs.Place.{CanGoOn, IsFaultPlace}
use Rattle.rx_text.specs.Machine as machine
use Rattle.rx_text.specs.Machine.{State, run}
use Rattle.rx_text.specs.Lexemes.{token_of}
use Rattle.rx_text.specs.Reader.{state_of}
use Rattle.rx_text.specs.declared.lexer.LexemeKind.{LexemeKind}
use Rattle.rx_text.specs.declared.token_kind.TokenKind.{TokenKind}
use Rattle.rx_text.specs.declared.token_kind.TokenKind.TheVariants.{Integer, Name, Open, Close}
use Rattle.rx_text.specs.declared.token_kind.TokenKind.TheVariants.{OpenBracket, CloseBracket}
use Rattle.rx_text.specs.declared.token_kind.TokenKind.TheVariants.{OpenBrace, CloseBrace, Less}
use Rattle.rx_text.specs.declared.token_kind.TokenKind.TheVariants.{Greater, Comma, End}
use Rattle.rx_text.specs.declared.reader.Due.{Due}
use Rattle.rx_text.specs.declared.reader.Reader.{Reader}

-- IsOf k t: the token has this kind
abbrev pub IsOf : TokenKind → Token → Type 0
IsOf Integer t = (z : ℤ) × (t ≡ tokens.Integer z)
IsOf Name t = (name : List ℕ) × (quoted : Bool) × (t ≡ tokens.Name name quoted)
IsOf Open t = t ≡ tokens.Open
IsOf Close t = t ≡ tokens.Close
IsOf OpenBracket t = t ≡ tokens.OpenBracket
IsOf CloseBracket t = t ≡ tokens.CloseBracket
IsOf OpenBrace t = t ≡ tokens.OpenBrace
IsOf CloseBrace t = t ≡ tokens.CloseBrace
IsOf Less t = t ≡ tokens.Less
IsOf Greater t = t ≡ tokens.Greater
IsOf Comma t = t ≡ tokens.Comma
IsOf End t = t ≡ tokens.End

-- MayStand before k: some valid text has a token of this kind after these tokens
abbrev pub MayStand : List Token → TokenKind → Type 0
MayStand before k = (t : Token) × IsOf k t × CanGoOn (before ++ t ∷ [])

-- before bytes at place: the tokens before the offset of the syntax error
abbrev pub before : (bytes : List ℕ) (at : ℕ) → IsFaultPlace bytes at → List Token
before bytes at place = map (λ t. t.1) place.0

-- AreExpected bytes ks: `ks` are exactly the kinds of tokens that valid texts have at the offset of
-- the syntax error, after the tokens before it
abbrev pub AreExpected : List ℕ → List TokenKind → Type 0
AreExpected bytes ks = (at : ℕ) (place : IsFaultPlace bytes at) (k : TokenKind)
    → Contains ks k ↔ MayStand (before bytes at place) k

-- IsKindOf k t: the kind of a token; a bad token has none
abbrev pub IsKindOf : Option TokenKind → LexemeKind → Type 0
IsKindOf None t = t ≡ LexemeKind.Bad
IsKindOf (Some k) t = (bytes : List ℕ) → IsOf k (token_of bytes t)

-- sample k: a token of this kind
abbrev pub sample : TokenKind → Token
sample Integer = tokens.Integer (pos 0)
sample Name = tokens.Name [] false
sample Open = tokens.Open
sample Close = tokens.Close
sample OpenBracket = tokens.OpenBracket
sample CloseBracket = tokens.CloseBracket
sample OpenBrace = tokens.OpenBrace
sample CloseBrace = tokens.CloseBrace
sample Less = tokens.Less
sample Greater = tokens.Greater
sample Comma = tokens.Comma
sample End = tokens.End

-- is_taken step k: whether the machine accepts a token of this kind
abbrev pub is_taken : (Token → Option State) → TokenKind → Bool
is_taken step k = is_some (step (sample k))

-- IsAtFault bytes d r: the parser has the state of the machine after the tokens before the syntax
-- error
abbrev pub IsAtFault : List ℕ → Due → Reader → Type 0
IsAtFault bytes d r = (at : ℕ) (place : IsFaultPlace bytes at)
    → run (before bytes at place) machine.AtTerm []
    ≡ Some (state_of bytes d r.frames.items r.nodes.items)
