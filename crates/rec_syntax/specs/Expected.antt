-- The kinds of tokens that are possible at the offset of a syntax error.
use Rattle.std.specs.Prelude.{◌≡◌, ◌↔◌, ℕ, Bool, List, [], ◌∷◌, ◌++◌, Contains, Option, Some, None}
use Rattle.std.specs.Prelude.{is_some}
use Rattle.rec_syntax.specs.Tokens as tokens
use Rattle.rec_syntax.specs.Tokens.{Word, Token, bare}
use Rattle.rec_syntax.specs.Place.{CanGoOn, IsFaultPlace}
use Rattle.rec_syntax.specs.Inner.Machine.{State, start, run}
use Rattle.rec_syntax.specs.Lexemes.{section_of, token_of}
use Rattle.rec_syntax.specs.Inner.Reader.{state_of}
use Rattle.rec_syntax.specs.declared.lexer.LexemeKind.{LexemeKind}
use Rattle.rec_syntax.specs.declared.token_kind.TokenKind.{TokenKind}
use Rattle.rec_syntax.specs.declared.token_kind.TokenKind.TheVariants.{PlainWord, RecSpec, Section}
use Rattle.rec_syntax.specs.declared.token_kind.TokenKind.TheVariants.{EndSpec, If, AndIf, Colon}
use Rattle.rec_syntax.specs.declared.token_kind.TokenKind.TheVariants.{Open, Close, Comma, Arrow}
use Rattle.rec_syntax.specs.declared.token_kind.TokenKind.TheVariants.{Equal, Unequal, End}
use Rattle.rec_syntax.specs.declared.reader.Due.{Due}
use Rattle.rec_syntax.specs.declared.reader.Reader.{Reader}

-- IsOf kind t: `t` is a token of this kind
abbrev pub IsOf : TokenKind → Token → Type 0
IsOf PlainWord t = (w : Word) × (t ≡ tokens.Plain w)
IsOf RecSpec t = t ≡ tokens.RecSpec
IsOf (Section p) t = t ≡ tokens.Head (section_of p)
IsOf EndSpec t = t ≡ tokens.EndSpec
IsOf If t = t ≡ tokens.If
IsOf AndIf t = t ≡ tokens.AndIf
IsOf Colon t = t ≡ tokens.Colon
IsOf Open t = t ≡ tokens.Open
IsOf Close t = t ≡ tokens.Close
IsOf Comma t = t ≡ tokens.Comma
IsOf Arrow t = t ≡ tokens.Arrow
IsOf Equal t = t ≡ tokens.Equal
IsOf Unequal t = t ≡ tokens.Unequal
IsOf End t = t ≡ tokens.End

-- MayStand before k: some text of the grammar has a token of kind `k` after the tokens `before`
abbrev pub MayStand : List Token → TokenKind → Type 0
MayStand before k = (t : Token) × IsOf k t × CanGoOn (before ++ t ∷ [])

-- AreExpected bytes ks: `ks` has exactly the kinds of tokens that some text of the grammar has at
-- the error offset, after the tokens before it
abbrev pub AreExpected : List ℕ → List TokenKind → Type 0
AreExpected bytes ks = (at : ℕ) (fault : IsFaultPlace bytes at) (k : TokenKind)
    → Contains ks k ↔ MayStand (bare fault.before) k

-- IsKindOf kind t: `kind` is the kind of token `t`; a bad token has none
abbrev pub IsKindOf : Option TokenKind → LexemeKind → Type 0
IsKindOf None t = t ≡ LexemeKind.Bad
IsKindOf (Some k) t = (bytes : List ℕ) → IsOf k (token_of bytes t)

-- some token of each kind
abbrev pub sample : TokenKind → Token
sample PlainWord = tokens.Plain (record { at = 0; bytes = [] })
sample RecSpec = tokens.RecSpec
sample (Section p) = tokens.Head (section_of p)
sample EndSpec = tokens.EndSpec
sample If = tokens.If
sample AndIf = tokens.AndIf
sample Colon = tokens.Colon
sample Open = tokens.Open
sample Close = tokens.Close
sample Comma = tokens.Comma
sample Arrow = tokens.Arrow
sample Equal = tokens.Equal
sample Unequal = tokens.Unequal
sample End = tokens.End

-- is_taken step k: the machine takes a token of kind `k`
abbrev pub is_taken : (Token → Option State) → TokenKind → Bool
is_taken step k = is_some (step (sample k))

-- IsAtFault bytes d r: the state of the reader is the one after the tokens before the error
abbrev pub IsAtFault : List ℕ → Due → Reader → Type 0
IsAtFault bytes d r = (at : ℕ) (fault : IsFaultPlace bytes at)
    → run (Some start) (bare fault.before) ≡ Some (state_of bytes d r)
