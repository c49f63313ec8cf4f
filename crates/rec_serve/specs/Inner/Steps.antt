-- One request of a session.
--     Replies ..        it was read and answered
--     EndsStep ..       there was none
--     StopsStep ..      a stream failed
use Rattle.std.specs.Prelude.{ℕ, ◌⊎◌, List, [], ◌∷◌, Option}
use Rattle.std.specs.Io.KnownBytes.{Appends, IsAtEnd, Keeps}
use Rattle.rx_text.specs.Written.{AppendsFront}
use Rattle.rec_serve.specs.Inner.Reading.{IsOver, Splits}
use Rattle.rec_serve.specs.declared.ending.ServeFault.{ServeFault}
use Rattle.rec_serve.specs.declared.ending.ServeFault.TheVariants as serve

-- the next request was read, and a response to it was written
pub record Replies (Reply : List ℕ → List ℕ → Type 0) (old left was now : Option (List ℕ))
    : Type 0 where
  pub line : List ℕ
  pub text : List ℕ
  pub split : Splits old left (line ∷ [])
  pub is : Reply line text
  pub written : Appends was now text

-- there was no request, and nothing was written
pub record EndsStep (old remaining was now : Option (List ℕ)) : Type 0 where
  pub over : IsOver old
  pub end : IsAtEnd remaining
  pub kept : Keeps was now

-- a prefix of a response to the next request was written
pub record StopsReply (Reply : List ℕ → List ℕ → Type 0) (old was now : Option (List ℕ))
    : Type 0 where
  pub left : Option (List ℕ)
  pub line : List ℕ
  pub text : List ℕ
  pub split : Splits old left (line ∷ [])
  pub is : Reply line text
  pub written : AppendsFront text was now

-- a stream failed: nothing was written, or a prefix of the response
abbrev pub StopsStep : (List ℕ → List ℕ → Type 0) → ServeFault → Option (List ℕ)
    → Option (List ℕ) → Option (List ℕ) → Type 0
StopsStep Reply serve.Memory old was now = ⊥
StopsStep Reply (serve.Read before) old was now = Keeps was now
StopsStep Reply (serve.Write before) old was now = Keeps was now ⊎ StopsReply Reply old was now

-- the error of a session in which a stream failed after this number of responses
abbrev pub stopped_after : ServeFault → ℕ → ServeFault
stopped_after serve.Memory answered = serve.Memory
stopped_after (serve.Read before) answered = serve.Read answered
stopped_after (serve.Write before) answered = serve.Write answered
