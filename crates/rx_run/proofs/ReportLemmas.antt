-- What a fault reports of the reader and of the writer.
use Rattle.std.proofs.Common.{◌≡◌, IfErr, IsErrAnd, Bool, false, Result, Ok, Err, refl, sym, ap, ◌∙◌}
use Rattle.std.specs.Prelude.{◌||◌}
use Rattle.rx_term.specs.Store.{Store}
use Rattle.rx_text.specs.Input.{IsSameInput}
use Rattle.rx_text.specs.Output.{IsSameOutput}
use Rattle.rx_text.specs.declared.input.Input.{Input}
use Rattle.rx_text.specs.declared.output.Output.{Output}
use Rattle.rx_run.specs.Run.{RanOut, StopsReading, StopsUnwritten, StopsWriting}
use Rattle.rx_run.specs.Streams.{ReportsRead, ReportsWrite, is_read, is_write, returns}
use Rattle.rx_run.specs.declared.ending.RunFault.{RunFault}
use Rattle.rx_run.specs.declared.ending.RunFault.TheVariants.{Memory, Room, Deep, Read, Write}

-- before anything is written the writer causes no fault
pub unwritten_no_write : (old new : Store) (f : RunFault) → StopsUnwritten old new f → is_write f ≡ false
unwritten_no_write old new (Memory lines) h = refl
unwritten_no_write old new (Room lines) h = refl
unwritten_no_write old new (Deep lines) h = refl
unwritten_no_write old new Read h = refl
unwritten_no_write old new Write h = absurd h

-- nor does it while a text is read
pub reading_no_write : (f : RunFault) → StopsReading f → is_write f ≡ false
reading_no_write (Memory lines) h = refl
reading_no_write (Room lines) h = refl
reading_no_write (Deep lines) h = refl
reading_no_write Read h = refl
reading_no_write Write h = absurd h

-- if memory or cells ran out no stream caused it
pub ran_out_no_read : (old new : Store) (f : RunFault) → RanOut old new f → is_read f ≡ false
ran_out_no_read old new (Memory lines) h = refl
ran_out_no_read old new (Room lines) h = refl
ran_out_no_read old new (Deep lines) h = refl
ran_out_no_read old new Read h = absurd h
ran_out_no_read old new Write h = refl

pub ran_out_no_write : (old new : Store) (f : RunFault) → RanOut old new f → is_write f ≡ false
ran_out_no_write old new (Memory lines) h = refl
ran_out_no_write old new (Room lines) h = refl
ran_out_no_write old new (Deep lines) h = refl
ran_out_no_write old new Read h = refl
ran_out_no_write old new Write h = absurd h

-- while lines are written the reader causes no fault
pub writing_no_read : (f : RunFault) → StopsWriting f → is_read f ≡ false
writing_no_read (Memory lines) h = refl
writing_no_read (Room lines) h = refl
writing_no_read (Deep lines) h = refl
writing_no_read Read h = absurd h
writing_no_read Write h = refl

-- none of this kind is returned
pub returns_no : {T : Type 0} (is_such : RunFault → Bool) (P : RunFault → Type 0) (r : Result T RunFault) → ((f : RunFault) → P f → is_such f ≡ false)
    → IfErr r P → returns is_such r ≡ false
returns_no is_such P (Ok x) none h = refl
returns_no is_such P (Err f) none h = none f h

-- a fault that is handed on
pub returns_on : {T : Type 0} (is_such : RunFault → Bool) (r : Result T RunFault) (f : RunFault) → IsErrAnd r (λ e. e ≡ f) → returns is_such r ≡ is_such f
returns_on is_such (Ok x) f h = absurd h
returns_on is_such (Err e) f h = ap is_such h

module _ {R T : Type 0} (old new : Input R) (r : Result T RunFault) where
  -- the fault of a read that is handed on
  pub read_on : (f : RunFault) → IsErrAnd r (λ e. e ≡ f) → IsSameInput old new × (new.refused ≡ (is_read f || old.refused)) → ReportsRead old new r
  read_on f is h = (h.0, h.1 ∙ ap (λ b. b || old.refused) (sym (returns_on is_read r f is)))

  -- a fault that is not the reader's
  pub read_still : returns is_read r ≡ false → IsSameInput old new × (new.refused ≡ old.refused) → ReportsRead old new r
  read_still none h = (h.0, h.1 ∙ ap (λ b. b || old.refused) (sym none))

module _ {W T : Type 0} (old new : Output W) (r : Result T RunFault) where
  -- the fault of a write that is handed on
  pub write_on : (f : RunFault) → IsErrAnd r (λ e. e ≡ f) → IsSameOutput old new × (new.refused ≡ (is_write f || old.refused)) → ReportsWrite old new r
  write_on f is h = (h.0, h.1 ∙ ap (λ b. b || old.refused) (sym (returns_on is_write r f is)))

  -- a fault that is not the writer's
  pub write_still : returns is_write r ≡ false → IsSameOutput old new × (new.refused ≡ old.refused) → ReportsWrite old new r
  write_still none h = (h.0, h.1 ∙ ap (λ b. b || old.refused) (sym none))
