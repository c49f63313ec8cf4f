-- When a line and a run are too deep.
use Rattle.std.proofs.Common.{◌≡◌, ◌∙◌, ◌<◌, ◌≤◌, ◌+◌, ℕ, zero, suc, List, Option, None, Result, Ok, Err, IfErr, false, ap, arith, sym, subst, refl}
use Rattle.std.specs.Prelude.{◌||◌}
use Rattle.rx_term.specs.Store.{Store}
use Rattle.rx_term.specs.declared.Term.{Term}
use Rattle.rec_memo.specs.Pairs.{Pairs}
use Rattle.rec_engine.specs.Cells.{RoomOnly}
use Rattle.rec_engine.specs.Engine.{EngineState}
use Rattle.rec_engine.specs.Limits.{KeepsLimit, RoomOrDeepOnly}
use Rattle.rec_engine.specs.declared.engine.errors.EngineFault.{EngineFault}
use Rattle.rec_engine.specs.declared.engine.errors.EngineFault.TheVariants as engine
use Rattle.rec_engine.specs.declared.engine.Outcome.{Outcome}
use Rattle.rx_text.specs.Output.{IsSameOutput}
use Rattle.rx_text.specs.declared.output.Output.{Output}
use Rattle.rx_run.specs.Run.{IsNotDeep}
use Rattle.rx_run.specs.Streams.{is_read, is_write}
use Rattle.rx_run.specs.declared.ending.RunFault.{RunFault}
use Rattle.rx_run.specs.declared.ending.RunFault.TheVariants as run
use Rattle.rec_run.specs.Depth.{IsBounded, KeepsDepth, RunDeepOnly}
use Rattle.rec_run.specs.EvaluatedLines.{RunLacks, fault_after, of_engine}
use Rattle.rec_run.specs.Run.{HasRoom}

-- ---- a line

-- a line that is neither out of cells nor too deep
pub line-room : {A : Type 0} (w : Store) (work : List Term) (m : Pairs) (x : Result A RunFault) → IfErr x HasRoom → IfErr x (RunLacks w work m)
line-room w work m (Ok a) h = tt
line-room w work m (Err (run.Memory lines)) h = tt
line-room w work m (Err (run.Room lines)) h = absurd h
line-room w work m (Err (run.Deep lines)) h = tt
line-room w work m (Err run.Read) h = tt
line-room w work m (Err run.Write) h = tt

pub line-deep : {A : Type 0} (waiting : ℕ) (depth : Option ℕ) (x : Result A RunFault) → IfErr x HasRoom → RunDeepOnly waiting depth x
line-deep waiting depth (Ok a) h = tt
line-deep waiting depth (Err (run.Memory lines)) h = tt
line-deep waiting depth (Err (run.Room lines)) h = tt
line-deep waiting depth (Err (run.Deep lines)) h = absurd h
line-deep waiting depth (Err run.Read) h = tt
line-deep waiting depth (Err run.Write) h = tt

-- the engine gave up
module _ (f : EngineFault) (lines : ℕ) (r : RunFault) (e : r ≡ of_engine f lines) where
  pub gave_up-room : (w : Store) (work : List Term) (m : Pairs) (depth : Option ℕ) (waiting : ℕ)
      → RoomOrDeepOnly {A = Outcome} w work m depth waiting (Err f) → RunLacks w work m r
  gave_up-room w work m depth waiting h = subst (RunLacks w work m) (sym e) (by f h)
    where
      by : (f : EngineFault) → RoomOrDeepOnly {A = Outcome} w work m depth waiting (Err f) → RunLacks w work m (of_engine f lines)
      by engine.Memory h = tt
      by engine.Room h = h
      by engine.Deep h = tt

  pub gave_up-deep : (w : Store) (work : List Term) (m : Pairs) (depth : Option ℕ) (waiting : ℕ)
      → RoomOrDeepOnly {A = Outcome} w work m depth waiting (Err f) → RunDeepOnly {A = Unit {0}} waiting depth (Err r)
  gave_up-deep w work m depth waiting h = subst (λ z. RunDeepOnly {A = Unit {0}} waiting depth (Err z)) (sym e) (by f h)
    where
      by : (f : EngineFault) → RoomOrDeepOnly {A = Outcome} w work m depth waiting (Err f) → RunDeepOnly {A = Unit {0}} waiting depth (Err (of_engine f lines))
      by engine.Memory h = tt
      by engine.Room h = tt
      by engine.Deep h = h

  -- and never too deep without a depth limit
  pub own-deep : (w : Store) (work : List Term) (m : Pairs) (waiting : ℕ) (depth : Option ℕ) → RoomOnly {A = Term} w work m (Err f)
      → RunDeepOnly {A = Unit {0}} waiting depth (Err r)
  own-deep w work m waiting depth h = subst (λ z. RunDeepOnly {A = Unit {0}} waiting depth (Err z)) (sym e) (by f h)
    where
      by : (f : EngineFault) → RoomOnly {A = Term} w work m (Err f) → RunDeepOnly {A = Unit {0}} waiting depth (Err (of_engine f lines))
      by engine.Memory h = tt
      by engine.Room h = tt
      by engine.Deep h = absurd h

  -- and never by the fault of a stream
  pub gave_up-reports : {W : Type 0} (out : Output W) → (IsSameOutput out out × (out.refused ≡ (is_write r || out.refused))) × (is_read r ≡ false)
  gave_up-reports out = ((refl, ap (λ b. b || out.refused) (sym (ap is_write e ∙ (by f).0))), ap is_read e ∙ (by f).1)
    where
      by : (f : EngineFault) → (is_write (of_engine f lines) ≡ false) × (is_read (of_engine f lines) ≡ false)
      by engine.Memory = (refl, refl)
      by engine.Room = (refl, refl)
      by engine.Deep = (refl, refl)

-- ---- a run

-- its fault, by a line's
pub after-deep : (f : RunFault) (lines : ℕ) (r : RunFault) → r ≡ fault_after f lines → (waiting : ℕ) (depth : Option ℕ)
    → RunDeepOnly {A = Unit {0}} waiting depth (Err f) → RunDeepOnly {A = Unit {0}} waiting depth (Err r)
after-deep f lines r e waiting depth h = subst (λ z. RunDeepOnly {A = Unit {0}} waiting depth (Err z)) (sym e) (by f h)
  where
    by : (f : RunFault) → RunDeepOnly {A = Unit {0}} waiting depth (Err f) → RunDeepOnly {A = Unit {0}} waiting depth (Err (fault_after f lines))
    by (run.Memory k) h = tt
    by (run.Room k) h = tt
    by (run.Deep k) h = h
    by run.Read h = tt
    by run.Write h = tt

-- after one at least it was kept
depth-kept : {B : Type 0} (k : ℕ) (depth : Option ℕ) (a b : EngineState B) → 0 < k → KeepsLimit depth b.bound b.waiting → KeepsDepth k depth a b
depth-kept zero depth a b some h = absurd (omega (arith, some))
depth-kept (suc k) depth a b some h = h

-- the depth limit of some evaluations, and of others
pub depth-both : {B : Type 0} (k l : ℕ) (depth : Option ℕ) (a b c : EngineState B) → KeepsDepth k depth a b → KeepsDepth l depth b c
    → KeepsDepth (k + l) depth a c
depth-both zero l depth a b c h e = subst (λ m. KeepsDepth m depth a c) (none-before l) (later l e)
  where
    none-before : (l : ℕ) → l ≡ 0 + l
    none-before l = omega arith

    later : (l : ℕ) → KeepsDepth l depth b c → KeepsDepth l depth a c
    later zero e = (e.0 ∙ h.0, e.1 ∙ h.1)
    later (suc l) e = e
depth-both (suc k) l depth a b c h e = depth-kept (suc k + l) depth a c (some k l) (limit l e)
  where
    some : (k l : ℕ) → 0 < suc k + l
    some k l = omega arith

    limit : (l : ℕ) → KeepsDepth l depth b c → KeepsLimit depth c.bound c.waiting
    limit zero e = record {
      bound = e.0 ∙ h.bound;
      within = subst (λ m. m ≤ c.bound) (sym e.1) (subst (λ m. b.waiting ≤ m) (sym e.0) h.within);
    }
    limit (suc l) e = e

pub depth-line : {B : Type 0} (k : ℕ) (depth : Option ℕ) (a b : EngineState B) → KeepsLimit depth b.bound b.waiting → KeepsDepth (k + 1) depth a b
depth-line k depth a b h = subst (λ m. KeepsDepth m depth a b) (one-more k) h
  where
    one-more : (k : ℕ) → suc k ≡ k + 1
    one-more k = omega arith

-- after one at least it was kept
pub depth-some : {B : Type 0} (k : ℕ) (depth : Option ℕ) (a b : EngineState B) → KeepsDepth k depth a b → 0 < k → KeepsLimit depth b.bound b.waiting
depth-some zero depth a b h some = absurd (omega (arith, some))
depth-some (suc k) depth a b h some = h

pub bounded_by : {A : Type 0} (waiting : ℕ) (depth : Option ℕ) (r : Result A RunFault) → RunDeepOnly waiting depth r → IfErr r (IsBounded depth)
bounded_by waiting depth (Ok a) h = tt
bounded_by waiting depth (Err (run.Memory lines)) h = tt
bounded_by waiting depth (Err (run.Room lines)) h = tt
bounded_by waiting depth (Err (run.Deep lines)) h = λ e. cc (h, e)
bounded_by waiting depth (Err run.Read) h = tt
bounded_by waiting depth (Err run.Write) h = tt

-- a fault that is never too deep is bounded by any depth
pub bounded_any : (depth : Option ℕ) (f : RunFault) → IsNotDeep f → IsBounded depth f
bounded_any depth (run.Memory lines) h = tt
bounded_any depth (run.Room lines) h = tt
bounded_any depth (run.Deep lines) h = absurd h
bounded_any depth run.Read h = tt
bounded_any depth run.Write h = tt

-- without a depth limit a run is never too deep
pub unlimited : (f : RunFault) → IsBounded None f → IsNotDeep f
unlimited (run.Memory lines) h = tt
unlimited (run.Room lines) h = tt
unlimited (run.Deep lines) h = absurd (h refl)
unlimited run.Read h = tt
unlimited run.Write h = tt

-- the writer's fault is no want of cells, nor is it too deep
pub write-within : (depth : Option ℕ) (f : RunFault) → f ≡ run.Write → HasRoom f × IsBounded depth f
write-within depth f e = subst (λ z. HasRoom z × IsBounded depth z) (sym e) (tt, tt)
