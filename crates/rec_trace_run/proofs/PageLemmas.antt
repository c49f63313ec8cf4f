-- Texts that are written one behind the other.
use Rattle.std.proofs.Common.{false, refl, sym, ap, ap₂, subst, ◌∙◌, arith, append-nil, append_assoc}
use Rattle.std.proofs.lemmas.Result.{IfErr-weaker}
use Rattle.std.specs.Prelude.{ℕ, ◌≡◌, ◌+◌, ◌||◌, List, [], ◌++◌, IfErr, IsErrAnd, OnOk, Option, Result, Ok, Err}
use Rattle.rx_term.specs.Store.{Store}
use Rattle.rx_text.specs.Output.{IsSameOutput, contents_of}
use Rattle.rec_memo.specs.Pairs.{Pairs}
use Rattle.rec_run.specs.EvaluatedLines.{ReportsOutput, of_engine}
use Rattle.rec_run.specs.Run.{HasRoom}
use Rattle.rec_trace.specs.Faults.{RoomOnlyIfFull}
use Rattle.rx_text.specs.declared.output.Output.{Output}
use Rattle.rx_text.proofs.AppendingLemmas.{appends_both, appends_same}
use Rattle.rx_run.specs.Bytes.{newlines}
use Rattle.rx_run.specs.Run.{Reports, ReportsAfter, Stops, StopsAfter, StopsUnwritten}
use Rattle.rx_run.specs.Streams.{ReportsWrite, is_read, is_write}
use Rattle.rx_run.specs.declared.ending.RunFault.{RunFault}
use Rattle.rx_run.specs.declared.ending.RunFault.TheVariants as fault
use Rattle.rx_run.proofs.ErrorLemmas.{if_err_at}
use Rattle.rx_run.proofs.NewlineLemmas.{newlines-append}
use Rattle.rx_run.proofs.ReportLemmas.{returns_no, returns_on}
use Rattle.rec_run.proofs.DepthLemmas.{gave_up-reports}
use Rattle.rec_engine.specs.declared.engine.errors.EngineFault.{EngineFault}
use Rattle.rec_engine.specs.declared.engine.errors.EngineFault.TheVariants as engine
use Rattle.rec_trace_run.specs.Inner.Pages.{Breaks, FullIfRoom, IsPageCause, IsSamePage, IsTraceCause, Prints, ReportsPage, WritesText}
use Rattle.rec_trace_run.specs.declared.page.Page.{Page}

reports-later : (f : RunFault) (lines more : ℕ) (before written : List ℕ) → more ≡ lines + newlines before → ReportsAfter more f written
    → ReportsAfter lines f (before ++ written)
reports-later (fault.Memory k) lines more before written e h = let both = newlines-append before written in omega (arith, e, h, both)
reports-later (fault.Room k) lines more before written e h = let both = newlines-append before written in omega (arith, e, h, both)
reports-later (fault.Deep k) lines more before written e h = let both = newlines-append before written in omega (arith, e, h, both)
reports-later fault.Read lines more before written e h = h
reports-later fault.Write lines more before written e h = tt

reports-first : (f : RunFault) (written : List ℕ) → ReportsAfter 0 f written → Reports f written
reports-first (fault.Memory k) written h = omega (arith, h)
reports-first (fault.Room k) written h = omega (arith, h)
reports-first (fault.Deep k) written h = omega (arith, h)
reports-first fault.Read written h = absurd h
reports-first fault.Write written h = tt

reports-none : (f : EngineFault) (lines : ℕ) → ReportsAfter lines (of_engine f lines) []
reports-none engine.Memory lines = omega arith
reports-none engine.Room lines = omega arith
reports-none engine.Deep lines = omega arith

module _ {W : Type 0} (contents : W → Option (List ℕ)) where
  -- nothing was written
  pub prints-none : (page : Page W) → Prints contents page page []
  prints-none page = record { written = appends_same (contents_of contents page.out.now); counted = omega arith }

  -- a text, and another one behind it
  pub prints-both : (a b c : Page W) (xs ys : List ℕ) → Prints contents a b xs → Prints contents b c ys → Prints contents a c (xs ++ ys)
  prints-both a b c xs ys h e =
      let both = newlines-append xs ys in
      let first = h.counted in
      let second = e.counted in
      record {
        written = appends_both (contents_of contents a.out.now) (contents_of contents b.out.now) (contents_of contents c.out.now) xs ys h.written e.written;
        counted =
            omega (arith, both, first, second);
      }

  -- a fault within a text is one within that and more
  pub breaks-before : (a b : Page W) (xs ys : List ℕ) (f : RunFault) → Breaks contents a b xs f → Breaks contents a b (xs ++ ys) f
  breaks-before a b xs ys f s = record {
    written = s.written;
    appended = s.appended;
    front = (s.front.0 ++ ys, ap (λ z. z ++ ys) s.front.1 ∙ append_assoc s.written s.front.0 ys);
    reported = s.reported;
  }

  -- and one behind a text is one within both
  pub breaks-behind : (a b c : Page W) (xs ys : List ℕ) (f : RunFault) → Prints contents a b xs → Breaks contents b c ys f
      → Breaks contents a c (xs ++ ys) f
  breaks-behind a b c xs ys f h s = record {
    written = xs ++ s.written;
    appended = appends_both (contents_of contents a.out.now) (contents_of contents b.out.now) (contents_of contents c.out.now) xs s.written h.written
        s.appended;
    front = (s.front.0, ap (λ z. xs ++ z) s.front.1 ∙ sym (append_assoc xs s.written s.front.0));
    reported = reports-later f a.lines b.lines xs s.written h.counted s.reported;
  }

  -- nothing was written where an engine gave up
  pub breaks-engine : (page : Page W) (text : List ℕ) (f : EngineFault) → Breaks contents page page text (of_engine f page.lines)
  breaks-engine page text f = record {
    written = [];
    appended = appends_same (contents_of contents page.out.now);
    front = (text, refl);
    reported =
        reports-none f page.lines;
  }

  pub breaks-after : (page : Page W) (text : List ℕ) (f : EngineFault) (fault : RunFault) → fault ≡ of_engine f page.lines
      → Breaks contents page page text fault
  breaks-after page text f fault e = subst (λ z. Breaks contents page page text z) (sym e) (breaks-engine page text f)

  -- all was written before memory ran out
  pub breaks-whole : (a b : Page W) (text : List ℕ) → Prints contents a b text → Breaks contents a b text (fault.Memory b.lines)
  breaks-whole a b text h = record { written = text; appended = h.written; front = ([], sym (append-nil text)); reported = h.counted }

  -- a text, and another one behind it, or a part of that
  pub writes-behind : {T : Type 0} (a b c : Page W) (xs ys : List ℕ) (r : Result T RunFault) → Prints contents a b xs
      → WritesText contents b c ys r → WritesText contents a c (xs ++ ys) r
  writes-behind a b c xs ys (Ok x) h k = record { ok = prints-both a b c xs ys h k.ok; err = tt }
  writes-behind a b c xs ys (Err f) h k = record { ok = tt; err = breaks-behind a b c xs ys f h k.err }

  -- a part of a text before this fault
  pub writes-at : {T : Type 0} (a b : Page W) (text : List ℕ) (r : Result T RunFault) (f : RunFault) → IsErrAnd r (λ e. e ≡ f)
      → Breaks contents a b text f → WritesText contents a b text r
  writes-at a b text (Ok x) f is s = absurd is
  writes-at a b text (Err e) f is s = record { ok = tt; err = subst (λ z. Breaks contents a b text z) (sym is) s }

  pub writes-ok : {T : Type 0} (a b : Page W) (text : List ℕ) (x : T) → Prints contents a b text → WritesText {T = T} contents a b text (Ok x)
  writes-ok a b text x h = record { ok = h; err = tt }

  pub writes-err : {T : Type 0} (a b : Page W) (text : List ℕ) (f : RunFault) → Breaks contents a b text f → WritesText {T = T} contents a b text (Err f)
  writes-err a b text f h = record { ok = tt; err = h }

  -- by what each outcome has written
  pub writes-by : {T : Type 0} (a b : Page W) (text : List ℕ) (r : Result T RunFault) → OnOk r (Prints contents a b text)
      → IfErr r (Breaks contents a b text) → WritesText contents a b text r
  writes-by a b text r h k = record { ok = h; err = k }

-- where nothing was written before
pub stops-first : (a b : Option (List ℕ)) (text : List ℕ) (f : RunFault) → StopsAfter 0 f text a b → Stops f text a b
stops-first a b text f s = record { written = s.written; appended = s.appended; front = s.front; reported = reports-first f s.written s.reported }

-- ---- why a trace stopped

-- why a text was not written whole is why a trace stopped
cause-trace : (w : Store) (m : Pairs) (f : RunFault) → IsPageCause f → IsTraceCause w m f
cause-trace w m (fault.Memory lines) h = tt
cause-trace w m (fault.Room lines) h = absurd h
cause-trace w m (fault.Deep lines) h = absurd h
cause-trace w m fault.Read h = absurd h
cause-trace w m fault.Write h = tt

-- no reader's fault is
trace_no_read : (w : Store) (m : Pairs) (f : RunFault) → IsTraceCause w m f → is_read f ≡ false
trace_no_read w m (fault.Memory lines) h = refl
trace_no_read w m (fault.Room lines) h = refl
trace_no_read w m (fault.Deep lines) h = refl
trace_no_read w m fault.Read h = absurd h
trace_no_read w m fault.Write h = refl

-- of want of cells, that the store is full
full-by : (w : Store) (m : Pairs) (f : RunFault) → IsTraceCause w m f → FullIfRoom w f
full-by w m (fault.Memory lines) h = tt
full-by w m (fault.Room lines) h = h.0
full-by w m (fault.Deep lines) h = tt
full-by w m fault.Read h = tt
full-by w m fault.Write h = tt

pub trace-full : {T : Type 0} (w : Store) (m : Pairs) (r : Result T RunFault) → IfErr r (IsTraceCause w m) → IfErr r (FullIfRoom w)
trace-full w m r h = IfErr-weaker r _ _ (full-by w m) h

-- a page on which nothing failed since
pub record StaysOpen {W : Type 0} (old new : Page W) : Type 0 where
  pub output : IsSameOutput old.out.now new.out.now
  pub refused : new.out.now.refused ≡ old.out.now.refused
  pub page : IsSamePage old new

-- after a call that succeeded
pub open-by : {C W : Type 0} (old new : Page W)
    → (IsSameOutput old.out.now new.out.now × (new.out.now.refused ≡ old.out.now.refused)) × C × IsSamePage old new → StaysOpen old new
open-by old new h = record { output = h.0.0; refused = h.0.1; page = h.2 }

-- what a trace reports of the streams
pub trace-output : {T W : Type 0} (w : Store) (m : Pairs) (old new : Output W) (r : Result T RunFault)
    → ReportsWrite old new r → IfErr r (IsTraceCause w m) → ReportsOutput old new r
trace-output w m old new r h cause = (h, returns_no is_read (IsTraceCause w m) r (trace_no_read w m) cause)

module _ {W : Type 0} (w : Store) (m : Pairs) (old new : Page W) where
  -- a text was written
  pub page-trace : {T : Type 0} (r : Result T RunFault) → ReportsPage old new r
      → ReportsWrite old.out.now new.out.now r × IfErr r (IsTraceCause w m) × IsSamePage old new
  page-trace r h = (h.0, IfErr-weaker r _ _ (cause-trace w m) h.1, h.2)

  -- a part of a trace was written before one that was not
  pub trace-on : {T : Type 0} (mid : Page W) (r : Result T RunFault) (f : RunFault) → IsErrAnd r (λ e. e ≡ f) → StaysOpen old mid
      → (IsSameOutput mid.out.now new.out.now × (new.out.now.refused ≡ (is_write f || mid.out.now.refused))) × IsTraceCause w m f × IsSamePage mid new
      → ReportsWrite old.out.now new.out.now r × IfErr r (IsTraceCause w m) × IsSamePage old new
  trace-on mid r f is so_far h = (
    (h.0.0 ∙ so_far.output, h.0.1 ∙ ap₂ (λ a b. a || b) (sym (returns_on is_write r f is)) so_far.refused),
    if_err_at r (IsTraceCause w m) f is h.1,
    h.2 ∙ so_far.page,
  )

  -- or before a text that was not
  pub fault-trace : {T : Type 0} (mid : Page W) (r : Result T RunFault) (f : RunFault) → IsErrAnd r (λ e. e ≡ f) → StaysOpen old mid
      → (IsSameOutput mid.out.now new.out.now × (new.out.now.refused ≡ (is_write f || mid.out.now.refused))) × IsPageCause f × IsSamePage mid new
      → ReportsWrite old.out.now new.out.now r × IfErr r (IsTraceCause w m) × IsSamePage old new
  fault-trace mid r f is so_far h = trace-on mid r f is so_far (h.0, cause-trace w m f h.1, h.2)

-- the engine gave up
pub engine-trace : {W : Type 0} (page : Page W) (w : Store) (m : Pairs) (f : EngineFault) (lines : ℕ) (r : RunFault)
    → RoomOnlyIfFull {A = Unit {0}} w m (Err f) → r ≡ of_engine f lines
    → (IsSameOutput page.out.now page.out.now × (page.out.now.refused ≡ (is_write r || page.out.now.refused))) × IsTraceCause w m r × IsSamePage page page
engine-trace page w m f lines r h e = ((gave_up-reports f lines r e page.out.now).0, subst (IsTraceCause w m) (sym e) (by f h), refl)
  where
    by : (f : EngineFault) → RoomOnlyIfFull {A = Unit {0}} w m (Err f) → IsTraceCause w m (of_engine f lines)
    by engine.Memory h = tt
    by engine.Room h = h
    by engine.Deep h = absurd h

-- a fault that needs no cells needs no full store
pub room-full : (w : Store) (f : RunFault) → HasRoom f → FullIfRoom w f
room-full w (fault.Memory lines) h = tt
room-full w (fault.Room lines) h = absurd h
room-full w (fault.Deep lines) h = tt
room-full w fault.Read h = tt
room-full w fault.Write h = tt

pub write-room : (f : RunFault) → f ≡ fault.Write → HasRoom f
write-room f e = subst HasRoom (sym e) tt

-- nor does one after which a text filled it
pub unwritten-full : (old new : Store) (f : RunFault) → StopsUnwritten old new f → FullIfRoom new f
unwritten-full old new (fault.Memory lines) h = tt
unwritten-full old new (fault.Room lines) h = h.1.full
unwritten-full old new (fault.Deep lines) h = tt
unwritten-full old new fault.Read h = tt
unwritten-full old new fault.Write h = tt
