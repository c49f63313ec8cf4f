-- The laws of sessions.
use Rattle.std.specs.Prelude.{ℕ, ◌≡◌, ◌⊎◌, ◌++◌, List, IsTrue, codes, flat_map, nat_lt}
use Rattle.std.specs.List.{list_all}
use Rattle.rec_syntax.specs.Syntax.{Spec}
use Rattle.rx_run.specs.Bytes.{newlines}
use Rattle.rec_sorts.specs.Laws.{Every}
use Rattle.rec_serve.specs.Conversation.{requests, IsAnswer, IsDue}
use Rattle.rec_serve.specs.Replies.{IsWant}
use Rattle.rec_serve.specs.declared.settings.ServeSettings.{ServeSettings}

-- requests with their line ends
abbrev pub ended : List (List ℕ) → List ℕ
ended rs = flat_map (λ r. r ++ codes "\n") rs

-- a request has no line end
abbrev pub IsInLine : List ℕ → Type 0
IsInLine r = newlines r ≡ 0

-- no byte of a stream is lost: its requests with their line ends are the stream, except for the
-- line end that the last one may lack; none has a line end inside; and any such requests are those
-- of a stream
pub record RequestsLaw : Type 0 where
  pub all : (bytes : List ℕ) → (ended (requests bytes) ≡ bytes)
      ⊎ (ended (requests bytes) ≡ bytes ++ codes "\n")
  pub in_line : (bytes : List ℕ) → Every IsInLine (requests bytes)
  pub back : (rs : List (List ℕ)) → Every IsInLine rs → requests (ended rs) ≡ rs

-- each request has exactly one specified response
abbrev pub OneAnswer : Type 0
OneAnswer = (y : Spec) (s : ServeSettings) (r : List ℕ) → (a : List ℕ) × IsAnswer y s r a
    × ((b : List ℕ) → IsAnswer y s r b → b ≡ a)

-- a specified response is one line, with no other line end in it; so each request line has one
-- response line
abbrev pub OneLine : Type 0
OneLine = (y : Spec) (s : ServeSettings) (r a : List ℕ)
    → IsTrue (list_all (λ b. nat_lt b 256) r) → IsAnswer y s r a
    → (text : List ℕ) × (a ≡ text ++ codes "\n") × (newlines text ≡ 0)

-- no specified response is the line of a request that ran out of memory, cells or call depth
abbrev pub NoWant : Type 0
NoWant = (y : Spec) (s : ServeSettings) (r a : List ℕ) → IsAnswer y s r a → IsWant s.depth a → ⊥

-- a stream may be divided after a line end: the requests are those of each part; the output of two
-- lists of requests is the output of each; and requests have one specified output. So it does not
-- matter which process answers which
pub record SplitLaw : Type 0 where
  pub streams : (front rest : List ℕ) → requests (front ++ codes "\n" ++ rest)
      ≡ requests (front ++ codes "\n") ++ requests rest
  pub due : (y : Spec) (s : ServeSettings) (rs ss : List (List ℕ)) (a b : List ℕ) → IsDue y s rs a
      → IsDue y s ss b → IsDue y s (rs ++ ss) (a ++ b)
  pub one : (y : Spec) (s : ServeSettings) (rs : List (List ℕ)) (a b : List ℕ) → IsDue y s rs a
      → IsDue y s rs b → a ≡ b
