-- How requests are read: bytes that were read ahead, and the part of a request that was read.
--     left_of ahead known       the bytes of a stream that do not belong to a request yet
--     IsRead request line       a request is this line, up to the bytes that are kept
--     Splits old left done      the first requests of known bytes are these, and the others are
--                               those of the bytes that are left
use Rattle.std.specs.Prelude.{ℕ, ◌≡◌, ◌<◌, ◌++◌, Bool, false, if◌then◌else◌, List, [], ◌∷◌, Option}
use Rattle.std.specs.Prelude.{Some, None, MatchBool, length, take, slice_range}
use Rattle.std.specs.Io.KnownBytes.{prepend_known}
use Rattle.rec_serve.specs.Conversation.{in_front, requests}
use Rattle.rec_serve.specs.declared.read_ahead.ReadAhead.{ReadAhead}
use Rattle.rec_serve.specs.declared.request.Request.{Request}

-- the bytes that were read ahead
abbrev pub unread : ReadAhead → List ℕ
unread a = slice_range a.buffer.items a.at a.end

-- the bytes of a stream that do not belong to a request yet, if its reader describes the rest
abbrev pub left_of : ReadAhead → Option (List ℕ) → Option (List ℕ)
left_of a known = prepend_known (unread a) known

-- a request is this line, or its first bytes, one more than a text may have; if an allocation
-- failed, it is only known to have a byte
abbrev pub IsRead : Request → List ℕ → Type 0
IsRead r line = MatchBool r.is_lost (0 < length line) (r.text.items ≡ take 16777217 line)

-- bytes before the first request
abbrev pub all_in_front : List ℕ → List (List ℕ) → List (List ℕ)
all_in_front [] rs = rs
all_in_front (b ∷ bs) rs = in_front b (all_in_front bs rs)

-- known bytes are these bytes without a line end, and the bytes that are left
abbrev pub Begins : Option (List ℕ) → Option (List ℕ) → List ℕ → Type 0
Begins None left line = Unit {0}
Begins (Some bytes) None line = ⊥
Begins (Some bytes) (Some rest) line = requests bytes ≡ all_in_front line (requests rest)

-- the first requests of known bytes are these, and the others are those of the bytes that are left
abbrev pub Splits : Option (List ℕ) → Option (List ℕ) → List (List ℕ) → Type 0
Splits None left done = Unit {0}
Splits (Some bytes) None done = ⊥
Splits (Some bytes) (Some rest) done = requests bytes ≡ done ++ requests rest

-- no request is left
abbrev pub IsOver : Option (List ℕ) → Type 0
IsOver None = Unit {0}
IsOver (Some bytes) = requests bytes ≡ []

-- a piece was taken: bytes up to a line end, which is skipped, or all that were read ahead
pub record Takes (old new : ReadAhead) (is_ended : Bool) (piece : List ℕ) : Type 0 where
  pub front : (rest : List ℕ) → requests (unread old ++ rest)
      ≡ all_in_front piece (if is_ended then [] ∷ requests (unread new ++ rest)
      else requests (unread new ++ rest))
  pub empty : is_ended ≡ false → unread new ≡ []
  pub some : is_ended ≡ false → 0 < length (unread old) → 0 < length piece
