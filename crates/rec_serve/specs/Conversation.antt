-- A session: the specified output for a stream of requests.
--     requests bytes           the requests of a stream of bytes, which are its lines
--     taken form t             the tree of a request whose text spells `t`, or why it is rejected
--     IsAnswer y s r answer    the specified response to a request, by the settings: the form of
--                              requests, the step limit, whether steps are counted, and the form of
--                              values
--     IsDue y s rs text        the specified output for requests
use Rattle.std.specs.Prelude.{ℕ, ◌≡◌, ◌==◌, if◌then◌else◌, Option, Some, None, List, [], ◌∷◌}
use Rattle.std.specs.Prelude.{◌++◌, Result, Ok, Err, codes, decimal, flat_map, unwrap_or}
use Rattle.std.specs.Option.{option_map_or}
use Rattle.rx_term.specs.Tree.{Tree, annotations}
use Rattle.rx_text.specs.Verdict.{Verdict, TooLong, Outside, Spelt, IsVerdict}
use Rattle.rx_table.specs.Opened.{broken_by_table, broken_element, tree_of_table}
use Rattle.rx_run.specs.declared.term.reading.InputForm.{InputForm}
use Rattle.rx_run.specs.declared.term.reading.InputForm.TheVariants as form
use Rattle.rec_syntax.specs.Syntax.{Spec}
use Rattle.rec_sorts.specs.Evaluation.{term_of}
use Rattle.rec_sorts.specs.Numbering.{Pairwise}
use Rattle.rec_sorts.specs.TermRules.{broken_by_elements}
use Rattle.rec_run.specs.Output.{Shown, line, shown_by}
use Rattle.rec_run.specs.declared.options.LimitLines.TheVariants.{Bare}
use Rattle.rec_serve.specs.declared.ending.Refusal.{Refusal}
use Rattle.rec_serve.specs.declared.ending.Refusal.TheVariants as refusal
use Rattle.rec_serve.specs.declared.settings.ServeSettings.{ServeSettings}

-- a byte before the first request
abbrev pub in_front : ℕ → List (List ℕ) → List (List ℕ)
in_front b [] = (b ∷ []) ∷ []
in_front b (r ∷ rs) = (b ∷ r) ∷ rs

-- the lines of a stream, without line ends; a last line without line end counts if it has a byte
abbrev pub requests : List ℕ → List (List ℕ)
requests [] = []
requests (b ∷ bs) = if b == 10 then [] ∷ requests bs else in_front b (requests bs)

-- the response line of a rejected request
abbrev pub refusal_line : Refusal → List ℕ
refusal_line refusal.Long = codes "!term L1\n"
refusal_line (refusal.Outside at) = codes "!term A\n"
refusal_line refusal.NotTable = codes "!term R1\n"
refusal_line (refusal.Element number) = codes "!term R2\n"
refusal_line (refusal.Rule number) = codes "!term T" ++ decimal number ++ codes "\n"

-- why a tree that is read as a table has no tree: it is no table, or this element does not open
abbrev pub table_refusal : Tree → Refusal
table_refusal t = if unwrap_or (broken_by_table t) 1 == 1 then refusal.NotTable
    else refusal.Element (unwrap_or (broken_element t) 0)

-- the tree of a request whose text spells this tree: itself, or its tree as a table; or why the
-- request is rejected
abbrev pub taken : InputForm → Tree → Result Tree Refusal
taken form.Term t = Ok t
taken form.Table t = option_map_or (λ u. Ok u) (tree_of_table t) (Err (table_refusal t))

-- the form of response lines: limit lines without annotations
abbrev pub shown_for : ServeSettings → Shown
shown_for s = shown_by s.options.count Bare s.form

-- the response to a request that is this tree, by the lowest-numbered rule that the tree violates
-- as an input term
abbrev pub answer_by : Spec → ServeSettings → Tree → Option ℕ → List ℕ
answer_by y s t (Some number) = codes "!term T" ++ decimal number ++ codes "\n"
answer_by y s t None =
    line y (shown_for s) s.options.steps (record { term = term_of t; notes = annotations t })

-- the response to a request by its tree, or why it is rejected
abbrev pub answer_to : Spec → ServeSettings → Result Tree Refusal → List ℕ
answer_to y s (Ok t) = answer_by y s t (broken_by_elements y (t ∷ []))
answer_to y s (Err why) = refusal_line why

-- the response to a request by the verdict on its text
abbrev pub answer_after : Spec → ServeSettings → Verdict → List ℕ
answer_after y s TooLong = codes "!term L1\n"
answer_after y s (Outside at) = codes "!term A\n"
answer_after y s (Spelt t) = answer_to y s (taken s.input t)

-- the specified response to a request
abbrev pub IsAnswer : Spec → ServeSettings → List ℕ → List ℕ → Type 0
IsAnswer y s request answer =
    (v : Verdict) × IsVerdict request v × (answer ≡ answer_after y s v)

-- texts one after the other
abbrev pub joined : List (List ℕ) → List ℕ
joined texts = flat_map (λ text. text) texts

-- the specified output for requests: the specified response to each, in their order
pub record IsDue (y : Spec) (s : ServeSettings) (rs : List (List ℕ)) (text : List ℕ) : Type 0 where
  pub answers : List (List ℕ)
  pub each : Pairwise (IsAnswer y s) rs answers
  pub all : text ≡ joined answers
