-- The causes of stream errors: one is returned only if that stream failed.
--     IsUncounted known             more bytes of requests are left than are counted
--     CannotRead input known        the input failed, or no more bytes can be counted
--     ReportsRead old new known r   one step reports the state of its input
--     ReportsServeRead, ReportsServeWrite   a session reports the state of its streams
use Rattle.std.specs.Prelude.{◌≡◌, ◌||◌, ◌⊎◌, ◌≤◌, ℕ, Bool, false, true, Option, Some, None}
use Rattle.std.specs.Prelude.{List, MatchResult, Result, Ok, Err, length}
use Rattle.rx_text.specs.Input.{HasRefusedRead, IsSameInput}
use Rattle.rx_text.specs.Output.{IsSameOutput}
use Rattle.rx_text.specs.declared.input.Input.{Input}
use Rattle.rx_text.specs.declared.output.Output.{Output}
use Rattle.rec_serve.specs.Conversation.{requests}
use Rattle.rec_serve.specs.Laws.{ended}
use Rattle.rec_serve.specs.declared.ending.ServeFault.{ServeFault}
use Rattle.rec_serve.specs.declared.ending.ServeFault.TheVariants as serve

-- the requests with their line ends are 2^64 - 1 bytes or more, if they are known
abbrev pub IsUncounted : Option (List ℕ) → Type 0
IsUncounted None = Unit {0}
IsUncounted (Some bytes) = 18446744073709551615 ≤ length (ended (requests bytes))

-- an error of a step is one of a stream, and one of its input has this cause
abbrev pub OnRead : Type 0 → ServeFault → Type 0
OnRead cause serve.Memory = ⊥
OnRead cause (serve.Read answered) = cause
OnRead cause (serve.Write answered) = Unit {0}

-- an error of a session's input has this cause
abbrev pub OnServeRead : Type 0 → ServeFault → Type 0
OnServeRead cause serve.Memory = Unit {0}
OnServeRead cause (serve.Read answered) = cause
OnServeRead cause (serve.Write answered) = Unit {0}

-- whether the writer caused an error
abbrev pub is_write : ServeFault → Bool
is_write serve.Memory = false
is_write (serve.Read answered) = false
is_write (serve.Write answered) = true

-- whether such an error is returned
abbrev pub returns_write : {T : Type 0} → Result T ServeFault → Bool
returns_write (Ok x) = false
returns_write (Err fault) = is_write fault

module _ {R : Type 0} where
  -- the reader failed, or it returned more bytes than can be counted
  abbrev pub CannotRead : Input R → Option (List ℕ) → Type 0
  CannotRead input known = HasRefusedRead input ⊎ IsUncounted known

  -- the input is the same, and has failed only if it had before or an error is returned
  abbrev pub ReportsRead : {T : Type 0} → Input R → Input R → Option (List ℕ)
      → Result T ServeFault → Type 0
  ReportsRead old new known r = IsSameInput old new
      × MatchResult r (λ _. new.refused ≡ old.refused) (OnRead (CannotRead new known))

  -- the input of a session is the same, and has failed only if it had before or an error is
  -- returned
  abbrev pub ReportsServeRead : {T : Type 0} → Input R → Input R → Option (List ℕ)
      → Result T ServeFault → Type 0
  ReportsServeRead old new known r = IsSameInput old new
      × MatchResult r (λ _. new.refused ≡ old.refused) (OnServeRead (CannotRead new known))

module _ {R S : Type 0} where
  -- both inputs of a run are the same, and have failed only if they had before or an error is
  -- returned
  abbrev pub ReportsServeReads : {T : Type 0} → Input S → Input S → Input R → Input R
      → Option (List ℕ) → Result T ServeFault → Type 0
  ReportsServeReads old new old' new' known r = IsSameInput old new × IsSameInput old' new'
      × MatchResult r (λ _. (new.refused ≡ old.refused) × (new'.refused ≡ old'.refused))
      (OnServeRead (HasRefusedRead new ⊎ CannotRead new' known))

module _ {W : Type 0} where
  -- the output is the same, and has failed exactly if it had before or its error is returned
  abbrev pub ReportsServeWrite : {T : Type 0} → Output W → Output W → Result T ServeFault → Type 0
  ReportsServeWrite old new r = IsSameOutput old new
      × (new.refused ≡ (returns_write r || old.refused))
