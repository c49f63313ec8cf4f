-- The output for requests, also if memory or cells run out or a stream fails.
--     IsReply y s r reply          a response to a request
--     ConversesBy, BreaksOffBy     Converses and BreaksOff, for any relation of responses
--     Converses y s bytes ..       all requests of a stream were answered
--     BreaksOff y s bytes ..       a session stopped at an error
--     ConcludesServing s ..        a run ended
--     BreaksServing s ..           a run stopped at an error
use Rattle.std.specs.Prelude.{ℕ, ◌≡◌, ◌⊎◌, Option, Some, None, IfSome, List, [], ◌∷◌, ◌++◌}
use Rattle.std.specs.Prelude.{codes, length}
use Rattle.std.specs.Io.KnownBytes.{Appends}
use Rattle.rx_text.specs.Written.{AppendsFront, IsFront}
use Rattle.rec_syntax.specs.Syntax.{Spec}
use Rattle.rec_sorts.specs.Numbering.{Pairwise}
use Rattle.rec_sorts.specs.SpecRules.{Verdict, Good, SpecVerdict}
use Rattle.rec_run.specs.Output.{bare, due_of_spec}
use Rattle.rx_run.specs.Run.{IsEnding}
use Rattle.rx_run.specs.declared.ending.RunFault.{RunFault}
use Rattle.rx_run.specs.declared.ending.RunFault.TheVariants as unread
use Rattle.rx_run.specs.declared.refusal.Ending.{Ending}
use Rattle.rx_run.specs.declared.refusal.Ending.TheVariants.{Done}
use Rattle.rec_serve.specs.Conversation.{requests, IsAnswer, joined}
use Rattle.rec_serve.specs.declared.ending.ServeFault.{ServeFault}
use Rattle.rec_serve.specs.declared.ending.ServeFault.TheVariants.{Memory, Read, Write}
use Rattle.rec_serve.specs.declared.settings.ServeSettings.{ServeSettings}

-- the line of a request that reached the call-depth limit, if there is one
abbrev pub IsTooDeep : Option ℕ → List ℕ → Type 0
IsTooDeep None text = ⊥
IsTooDeep (Some depth) text = text ≡ codes "!depth\n"

-- the line of a request that ran out of memory or cells or reached the call-depth limit
abbrev pub IsWant : Option ℕ → List ℕ → Type 0
IsWant depth text = (text ≡ codes "!memory\n") ⊎ ((text ≡ codes "!cells\n") ⊎ IsTooDeep depth text)

-- a response to a request: the specified one, or such a line
abbrev pub IsReply : Spec → ServeSettings → List ℕ → List ℕ → Type 0
IsReply y s request reply = IsAnswer y s request reply ⊎ IsWant s.depth reply

-- a response to each request of a stream was written, in their order
pub record ConversesBy (Reply : List ℕ → List ℕ → Type 0) (bytes : List ℕ)
    (old new : Option (List ℕ)) : Type 0 where
  pub replies : List (List ℕ)
  pub each : Pairwise Reply (requests bytes) replies
  pub written : Appends old new (joined replies)

-- all requests of a stream were answered in their order, with responses as in `IsReply`
abbrev pub Converses : Spec → ServeSettings → List ℕ → Option (List ℕ) → Option (List ℕ) → Type 0
Converses y s bytes old new = ConversesBy (IsReply y s) bytes old new

-- the number of answered requests that an error reports
abbrev pub answered_before : ServeFault → ℕ
answered_before Memory = 0
answered_before (Read answered) = answered
answered_before (Write answered) = answered

-- the text after the last whole response, by the requests that are left: only a writer that fails
-- leaves a prefix of a response
abbrev pub IsPart : (List ℕ → List ℕ → Type 0) → ServeFault → List (List ℕ) → List ℕ → Type 0
IsPart Reply (Write answered) (r ∷ rs) part = (part ≡ [])
    ⊎ ((reply : List ℕ) × Reply r reply × IsFront part reply)
IsPart Reply fault left part = part ≡ []

-- a session stopped at an error, which reports the number of answered requests
pub record BreaksOffBy (Reply : List ℕ → List ℕ → Type 0) (bytes : List ℕ) (fault : ServeFault)
    (old new : Option (List ℕ)) : Type 0 where
  pub done : List (List ℕ)
  pub left : List (List ℕ)
  pub split : requests bytes ≡ done ++ left
  pub replies : List (List ℕ)
  pub each : Pairwise Reply done replies
  pub count : answered_before fault ≡ length done
  pub part : List ℕ
  pub begun : IsPart Reply fault left part
  pub written : Appends old new (joined replies ++ part)

-- a session stopped at an error, with responses as in `IsReply`
abbrev pub BreaksOff : Spec → ServeSettings → List ℕ → ServeFault → Option (List ℕ) → Option (List ℕ)
    → Type 0
BreaksOff y s bytes fault old new = BreaksOffBy (IsReply y s) bytes fault old new

-- a run ended, by the verdict on the specification: the requests were answered if it is accepted,
-- otherwise its error line was written
abbrev pub ConcludesAfter : ServeSettings → Verdict → Option (List ℕ) → Ending → Option (List ℕ)
    → Option (List ℕ) → Type 0
ConcludesAfter s (Good y) known ending old new = (ending ≡ Done)
    × IfSome known (λ bytes. Converses y s bytes old new)
ConcludesAfter s v known ending old new =
    IsEnding (due_of_spec (bare s.options.count) s.options.steps v) ending
    × Appends old new (due_of_spec (bare s.options.count) s.options.steps v).text

-- a run ended, by the text of the specification and the requests, if their readers describe them
abbrev pub ConcludesServing : ServeSettings → Option (List ℕ) → Option (List ℕ) → Ending
    → Option (List ℕ) → Option (List ℕ) → Type 0
ConcludesServing s spec known ending old new = IfSome spec (λ text. (v : Verdict)
    × SpecVerdict text v × ConcludesAfter s v known ending old new)

-- a run stopped at an error, by the verdict on the specification
abbrev pub BreaksAfter : ServeSettings → Verdict → Option (List ℕ) → ServeFault
    → Option (List ℕ) → Option (List ℕ) → Type 0
BreaksAfter s (Good y) known fault old new = IfSome known (λ bytes. BreaksOff y s bytes fault old new)
BreaksAfter s v known fault old new = (answered_before fault ≡ 0)
    × AppendsFront (due_of_spec (bare s.options.count) s.options.steps v).text old new

-- a run stopped at an error, by the text of the specification and the requests
abbrev pub BreaksServing : ServeSettings → Option (List ℕ) → Option (List ℕ) → ServeFault
    → Option (List ℕ) → Option (List ℕ) → Type 0
BreaksServing s spec known fault old new = IfSome spec (λ text. (v : Verdict)
    → SpecVerdict text v → BreaksAfter s v known fault old new)

-- the error of a run whose specification was not read: memory ran out or the reader failed; reading
-- a text has no other error
abbrev pub unread_fault : RunFault → ServeFault
unread_fault (unread.Memory lines) = Memory
unread_fault (unread.Room lines) = Memory
unread_fault (unread.Deep lines) = Memory
unread_fault unread.Read = Read 0
unread_fault unread.Write = Memory
