-- Lines of terms that an engine evaluates, and errors while they are written.
use Rattle.std.specs.Prelude.{ℕ, ◌≡◌, ◌<◌, Bool, List, [], ◌++◌, IsSome, Result}
use Rattle.std.specs.Prelude.{codes, decimal, false, true}
use Rattle.rx_term.specs.Steps.{Keeps}
use Rattle.rx_term.specs.Store.{Store, tree_at}
use Rattle.rx_term.specs.Tree.{Trees, annotations, none}
use Rattle.rx_term.specs.declared.Term.{Term as Reference}
use Rattle.rx_text.specs.declared.output.Output.{Output}
use Rattle.rec_syntax.specs.Syntax.{Spec}
use Rattle.rec_memo.specs.Pairs.{Pairs}
use Rattle.rec_engine.specs.Cells.{HasNoRoom}
use Rattle.rec_engine.specs.declared.engine.errors.EngineFault.{EngineFault}
use Rattle.rec_engine.specs.declared.engine.errors.EngineFault.TheVariants as engine
use Rattle.rec_engine.specs.declared.engine.Options.{Options}
use Rattle.rec_engine.specs.declared.engine.Outcome.{Outcome}
use Rattle.rec_engine.specs.declared.engine.Outcome.TheVariants.{Value, Limit}
use Rattle.rec_run.specs.GivenTerms.{HoldsTerms, item_at}
use Rattle.rx_run.specs.Streams.{ReportsWrite, is_read, returns}
use Rattle.rx_run.specs.declared.ending.RunFault.{RunFault}
use Rattle.rec_run.specs.Output.{Printed, figures, is_longer, notes_text, printed, shown_of, value_text}
use Rattle.rec_run.specs.declared.options.LimitLines.{LimitLines}
use Rattle.rec_run.specs.declared.options.LimitLines.TheVariants.{Bare, Annotated}
use Rattle.rec_run.specs.declared.options.RunOptions.{RunOptions}
use Rattle.rec_run.specs.declared.options.RunSettings.{RunSettings}
use Rattle.rec_run.specs.declared.options.ValueForm.{ValueForm}
use Rattle.rx_run.specs.declared.ending.RunFault.TheVariants as run

-- value_of form w r: the value `r`, in the form of values
abbrev pub value_of : ValueForm → Store → Reference → Printed
value_of form w r = printed form (item_at w r)

-- unsaid numbers p: the line of a value without the annotations of a limit line
abbrev pub unsaid : List ℕ → Printed → List ℕ
unsaid numbers p = value_text Bare none numbers p

-- figures_of s w r steps: the text after the value `r`
abbrev pub figures_of : RunSettings → Store → Reference → ℕ → List ℕ
figures_of s w r steps = figures (shown_of s) steps (item_at w r)

-- outcome_text s w o: the printed result of an evaluation in the form that the settings select,
-- without the annotations of a limit line
abbrev pub outcome_text : RunSettings → Store → Outcome → List ℕ
outcome_text s w (Value r steps) = unsaid (figures_of s w r steps) (value_of s.form w r)
outcome_text s w Limit = codes "!limit " ++ decimal s.options.steps

-- is_limit_line form w o: the line of the result `o` is a limit line
abbrev pub is_limit_line : ValueForm → Store → Outcome → Bool
is_limit_line form w (Value r steps) = is_longer (value_of form w r)
is_limit_line form w Limit = true

-- is_over o: the step limit was too low
abbrev pub is_over : Outcome → Bool
is_over (Value r steps) = false
is_over Limit = true

-- limit_notes limits notes: the end of a limit line, after `!limit N` or `!bytes N`
abbrev pub limit_notes : LimitLines → Trees → List ℕ
limit_notes Bare notes = []
limit_notes Annotated notes = notes_text notes

-- said limited limits notes: the text between a result and the line end; empty if the line is no
-- limit line
abbrev pub said : Bool → LimitLines → Trees → List ℕ
said false limits notes = []
said true limits notes = limit_notes limits notes

-- outcome_line s w t o: the line of the term `t` with the result `o`, without the line end
abbrev pub outcome_line : RunSettings → Store → Reference → Outcome → List ℕ
outcome_line s w t o = outcome_text s w o
    ++ said (is_limit_line s.form w o) s.limits (annotations (item_at w t))

-- StaysFor limits w t: if limit lines have annotations, `t` is in the store as long as the
-- protected terms are
abbrev pub StaysFor : LimitLines → Store → Reference → Type 0
StaysFor Bare w t = Unit {0}
StaysFor Annotated w t = (v : Store) → Keeps w v [] → tree_at v t ≡ tree_at w t

-- IsThereFor limits w t: if limit lines have annotations, the store has the term `t`
abbrev pub IsThereFor : LimitLines → Store → Reference → Type 0
IsThereFor Bare w t = Unit {0}
IsThereFor Annotated w t = IsSome (tree_at w t)

-- HoldsValue w o: if the result is a value, the store has it
abbrev pub HoldsValue : Store → Outcome → Type 0
HoldsValue w (Value r steps) = IsSome (tree_at w r)
HoldsValue w Limit = Unit {0}

-- engine_options o: the options of the engine of a run
abbrev pub engine_options : RunOptions → Options
engine_options o = record { memo = o.memo; reclaim_every = o.reclaim }

-- ProtectsTerms y w list: `list` is a protected list of input terms that violate no rule
pub record ProtectsTerms (y : Spec) (w : Store) (list : Reference) : Type 0 where
  pub holds : HoldsTerms y w list
  pub protected : 0 < w.roots list.0

-- of_engine fault lines: the error of a run whose engine failed after `lines` complete lines
abbrev pub of_engine : EngineFault → ℕ → RunFault
of_engine engine.Memory lines = run.Memory lines
of_engine engine.Room lines = run.Room lines
of_engine engine.Deep lines = run.Deep lines

-- due_before fault text: the text of which a prefix was written before the error: a line without
-- its end, or with it if the error is `Write`
abbrev pub due_before : RunFault → List ℕ → List ℕ
due_before (run.Memory lines) text = text
due_before (run.Room lines) text = text
due_before (run.Deep lines) text = text
due_before run.Read text = text
due_before run.Write text = text ++ codes "\n"

-- fault_after fault lines: the error with `lines` as the number of complete lines
abbrev pub fault_after : RunFault → ℕ → RunFault
fault_after (run.Memory before) lines = run.Memory lines
fault_after (run.Room before) lines = run.Room lines
fault_after (run.Deep before) lines = run.Deep lines
fault_after run.Read lines = run.Read
fault_after run.Write lines = run.Write

-- RunLacks w work m fault: `Room` implies that the store is full, all its terms are needed, and the
-- memo table is empty
abbrev pub RunLacks : Store → List Reference → Pairs → RunFault → Type 0
RunLacks w work m (run.Room lines) = HasNoRoom w work m
RunLacks w work m fault = Unit {0}

-- ReportsOutput old new r: the writer has failed exactly if it had before or `r` is the error
-- `Write`; `r` is never `Read`
module _ {W : Type 0} where
  abbrev pub ReportsOutput : {T : Type 0} → Output W → Output W → Result T RunFault → Type 0
  ReportsOutput old new r = ReportsWrite old new r × (returns is_read r ≡ false)
