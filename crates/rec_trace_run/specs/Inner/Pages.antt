-- Texts that are written to an output, with a count of the line ends, and the causes of errors.
use Rattle.std.specs.Prelude.{ℕ, ◌≡◌, ◌+◌, List, IfErr, OnOk, Option, Result}
use Rattle.std.specs.FinMap as map
use Rattle.rx_term.specs.Store.{Store, cells}
use Rattle.rx_text.specs.Output.{Writes, contents_of}
use Rattle.rx_run.specs.Bytes.{newlines}
use Rattle.rx_run.specs.Run.{StopsAfter}
use Rattle.rx_run.specs.Streams.{ReportsWrite}
use Rattle.rx_run.specs.declared.ending.RunFault.{RunFault}
use Rattle.rx_run.specs.declared.ending.RunFault.TheVariants as run
use Rattle.rec_memo.specs.Pairs.{Pairs}
use Rattle.rec_engine.specs.Engine.{EngineState}
use Rattle.rec_trace_run.specs.declared.page.Page.{Page}

-- both have the same output
abbrev pub IsSamePage : {W : Type 0} → Page W → Page W → Type 0
IsSamePage old new = new.out.ghost_name ≡ old.out.ghost_name

-- a text was written, and its line ends were counted
pub record Prints {W : Type 0} (contents : W → Option (List ℕ)) (old new : Page W) (text : List ℕ)
    : Type 0 where
  pub written : Writes contents old.out.now new.out.now text
  pub counted : new.lines ≡ old.lines + newlines text

-- a prefix of a text was written before an error, which has the number of line ends
abbrev pub Breaks : {W : Type 0} → (W → Option (List ℕ)) → Page W → Page W → List ℕ → RunFault
    → Type 0
Breaks contents old new text fault = StopsAfter old.lines fault text
    (contents_of contents old.out.now) (contents_of contents new.out.now)

-- a text was written, or a prefix of it before the error
pub record WritesText {W T : Type 0} (contents : W → Option (List ℕ)) (old new : Page W)
    (text : List ℕ) (r : Result T RunFault) : Type 0 where
  pub ok : OnOk r (Prints contents old new text)
  pub err : IfErr r (Breaks contents old new text)

-- the cause of an error while a text is written: an allocation failed, or the writer did
abbrev pub IsPageCause : RunFault → Type 0
IsPageCause (run.Memory lines) = Unit {0}
IsPageCause (run.Room lines) = ⊥
IsPageCause (run.Deep lines) = ⊥
IsPageCause run.Read = ⊥
IsPageCause run.Write = Unit {0}

-- the cause of an error of a trace: as before, or no cell is left and no result is memoized
abbrev pub IsTraceCause : Store → Pairs → RunFault → Type 0
IsTraceCause w m (run.Memory lines) = Unit {0}
IsTraceCause w m (run.Room lines) = (cells w ≡ w.cap) × (m.map ≡ map.empty)
IsTraceCause w m (run.Deep lines) = ⊥
IsTraceCause w m run.Read = ⊥
IsTraceCause w m run.Write = Unit {0}

module _ {W : Type 0} where
  -- writing a text reports whether the writer failed; an error has its cause; the page has the
  -- same output
  abbrev pub ReportsPage : {T : Type 0} → Page W → Page W → Result T RunFault → Type 0
  ReportsPage old new r =
      ReportsWrite old.out.now new.out.now r × IfErr r IsPageCause × IsSamePage old new

  -- a part of a trace reports whether the writer failed; an error has its cause; the page has the
  -- same output
  abbrev pub ReportsTrace : {B T : Type 0} → (B → Store) → EngineState B → Page W → Page W
      → Result T RunFault → Type 0
  ReportsTrace store engine old new r = ReportsWrite old.out.now new.out.now r
      × IfErr r (IsTraceCause (store engine.bank) engine.memo) × IsSamePage old new

-- `Room` implies that the store is full
abbrev pub FullIfRoom : Store → RunFault → Type 0
FullIfRoom w (run.Room lines) = cells w ≡ w.cap
FullIfRoom w f = Unit {0}
