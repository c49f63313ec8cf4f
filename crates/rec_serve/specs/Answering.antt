-- The result of a request, and the response lines.
--     refusal_after y s v      the reason why a request is rejected, by its verdict
--     shown w s notes o        the text of the outcome of a term with annotations
--     IsAnswered y s r a       the specified response to a request, with its reason
use Rattle.std.specs.Prelude.{ℕ, ◌≡◌, ◌⊎◌, Option, Some, Result, Ok, Err, List, [], ◌∷◌, ◌++◌}
use Rattle.std.specs.Prelude.{codes, decimal, option_map}
use Rattle.rx_term.specs.Tree.{Tree, Trees, annotated}
use Rattle.rx_term.specs.Store.{Store, cells}
use Rattle.rx_term.specs.declared.Term.{Term}
use Rattle.rx_text.specs.Verdict.{Verdict, TooLong, Outside, Spelt, IsVerdict}
use Rattle.rec_syntax.specs.Syntax.{Spec}
use Rattle.rec_sorts.specs.TermRules.{broken_by_elements}
use Rattle.rec_memo.specs.Pairs.{Pairs}
use Rattle.rec_engine.specs.Cells.{HasNoRoom}
use Rattle.rec_engine.specs.declared.engine.errors.EngineFault.{EngineFault}
use Rattle.rec_engine.specs.declared.engine.errors.EngineFault.TheVariants as fault
use Rattle.rec_engine.specs.declared.engine.Outcome.{Outcome}
use Rattle.rec_engine.specs.declared.engine.Outcome.TheVariants.{Value, Limit}
use Rattle.rec_run.specs.GivenTerms.{item_at}
use Rattle.rec_run.specs.EvaluatedLines.{unsaid}
use Rattle.rec_run.specs.Output.{printed}
use Rattle.rx_run.specs.Due.{steps_text}
use Rattle.rec_serve.specs.Conversation.{answer_after, answer_by, taken}
use Rattle.rec_serve.specs.declared.answers.Answered.{Answered}
use Rattle.rec_serve.specs.declared.ending.Refusal.{Refusal}
use Rattle.rec_serve.specs.declared.ending.Refusal.TheVariants as refusal
use Rattle.rec_serve.specs.declared.settings.ServeSettings.{ServeSettings}

-- the reason why a request is rejected, by its tree, or why it has none; `None` if it is accepted
abbrev pub refusal_of : Spec → Result Tree Refusal → Option Refusal
refusal_of y (Ok t) = option_map refusal.Rule (broken_by_elements y (t ∷ []))
refusal_of y (Err why) = Some why

-- the reason why a request with this verdict is rejected; `None` if it is accepted
abbrev pub refusal_after : Spec → ServeSettings → Verdict → Option Refusal
refusal_after y s TooLong = Some refusal.Long
refusal_after y s (Outside at) = Some (refusal.Outside at)
refusal_after y s (Spelt t) = refusal_of y (taken s.input t)

-- the text of the outcome of a term with these annotations, without a line end
abbrev pub shown : Store → ServeSettings → Trees → Outcome → List ℕ
shown w s notes (Value r steps) = unsaid (steps_text s.options.count steps)
    (printed s.form (annotated (item_at w r) notes))
shown w s notes Limit = codes "!limit " ++ decimal s.options.steps

-- the specified response to a request, with the reason why it is rejected
pub record IsAnswered (y : Spec) (s : ServeSettings) (request : List ℕ) (a : Answered) : Type 0
  where
    pub verdict : Verdict
    pub is : IsVerdict request verdict
    pub text : a.text.items ≡ answer_after y s verdict
    pub refusal : a.refusal ≡ refusal_after y s verdict

-- the specified response to a request that is this tree, with the reason why it is rejected
pub record AnswersTree (y : Spec) (s : ServeSettings) (t : Tree) (a : Answered) : Type 0 where
  pub text : a.text.items ≡ answer_by y s t (broken_by_elements y (t ∷ []))
  pub refusal : a.refusal ≡ option_map refusal.Rule (broken_by_elements y (t ∷ []))

-- the line that is written for a request
abbrev pub text_of : Result Answered EngineFault → List ℕ
text_of (Ok a) = a.text.items
text_of (Err fault.Memory) = codes "!memory\n"
text_of (Err fault.Room) = codes "!cells\n"
text_of (Err fault.Deep) = codes "!depth\n"

-- `Room` implies that the store of the request is full or the engine has no room
abbrev pub CellsOnly : Store → Store → List Term → Pairs → EngineFault → Type 0
CellsOnly own w work m fault.Memory = Unit {0}
CellsOnly own w work m fault.Room = (cells own ≡ own.cap) ⊎ HasNoRoom w work m
CellsOnly own w work m fault.Deep = Unit {0}

-- `Deep` implies that there is a depth limit and that as many calls are pending
abbrev pub DeepOnly : ℕ → Option ℕ → EngineFault → Type 0
DeepOnly waiting depth fault.Memory = Unit {0}
DeepOnly waiting depth fault.Room = Unit {0}
DeepOnly waiting depth fault.Deep = depth ≡ Some waiting
