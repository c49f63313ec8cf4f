-- What holds of an answer holds of it under limits.
use Rattle.std.proofs.Common.{ℕ, ◌≡◌, ◌∙◌, List, Option, Some, None, Result, Ok, Err, length, sym, subst, ap}
use Rattle.std.specs.Prelude.{IfOk, IfSome}
use Rattle.rx_term.specs.Store.{Store}
use Rattle.rx_term.specs.declared.Term.{Term}
use Rattle.rec_memo.specs.Pairs.{Pairs}
use Rattle.rec_engine.specs.Cells.{RoomOnly}
use Rattle.rec_engine.specs.Control.{Obeys}
use Rattle.rec_engine.proofs.ControlLemmas.{obeys-as, obeys-other}
use Rattle.rec_engine.specs.Limits.{limited, most_pending, RoomOrDeepOnly}
use Rattle.rec_engine.specs.Machine.{IsDeepOnly}
use Rattle.rec_engine.specs.declared.vm.state.State.{State}
use Rattle.rec_engine.specs.declared.engine.errors.EngineFault.{EngineFault}
use Rattle.rec_engine.specs.declared.engine.errors.EngineFault.TheVariants.{Memory, Room, Deep}

module _ {A : Type 0} where
  pub limited-ok : (P : A → Type 0) (d : Option ℕ) (x : Result (Option A) EngineFault) (r : Result A EngineFault) → r ≡ limited d x
      → IfOk x (λ o. IfSome o P) → IfOk r P
  limited-ok P d x r e h = subst (λ z. IfOk z P) (sym e) (by d x h)
    where
      by : (d : Option ℕ) (x : Result (Option A) EngineFault) → IfOk x (λ o. IfSome o P) → IfOk (limited d x) P
      by d (Ok (Some a)) h = h
      by (Some k) (Ok None) h = tt
      by None (Ok None) h = tt
      by d (Err f) h = tt

  pub limited-room : (w : Store) (work : List Term) (m : Pairs) (s : State) (d : Option ℕ) (x : Result (Option A) EngineFault) (r : Result A EngineFault)
      → r ≡ limited d x → s.depth ≡ most_pending d → IfOk x (IsDeepOnly s) → RoomOnly w work m x
      → RoomOrDeepOnly w work m d (length s.frames.items) r
  limited-room w work m s d x r e same full room = subst (RoomOrDeepOnly w work m d (length s.frames.items)) (sym e) (by d x same full room)
    where
      by : (d : Option ℕ) (x : Result (Option A) EngineFault) → s.depth ≡ most_pending d → IfOk x (IsDeepOnly s) → RoomOnly w work m x
          → RoomOrDeepOnly w work m d (length s.frames.items) (limited d x)
      by d (Ok (Some a)) same full room = tt
      by (Some k) (Ok None) same full room = ap Some (sym (full ∙ same))
      by None (Ok None) same full room = tt
      by d (Err Memory) same full room = tt
      by d (Err Room) same full room = room
      by d (Err Deep) same full room = absurd room

  -- a stop is a stop under limits too
  pub limited-obeys : {before after : Type 0} (s : A) (d : Option ℕ) (x : Result (Option A) EngineFault) (r : Result A EngineFault)
      → r ≡ limited d x → Obeys (Some s) before after x → Obeys s before after r
  limited-obeys {before = before} {after = after} s d x r e h = subst (Obeys s before after) (sym e) (by d x h)
    where
      by : (d : Option ℕ) (x : Result (Option A) EngineFault) → Obeys (Some s) before after x → Obeys s before after (limited d x)
      by d (Ok (Some a)) h = obeys-as h (λ q. cc q) (λ q. cc q)
      by (Some k) (Ok None) h = obeys-other h (λ q. cc q) (λ q. cc q)
      by None (Ok None) h = obeys-other h (λ q. cc q) (λ q. cc q)
      by d (Err f) h = obeys-other h (λ q. cc q) (λ q. cc q)

  -- without a depth limit Deep is never answered
  pub unlimited : (w : Store) (work : List Term) (m : Pairs) (waiting : ℕ) (d : Option ℕ) (r : Result A EngineFault) → d ≡ None
      → RoomOrDeepOnly w work m d waiting r → RoomOnly w work m r
  unlimited w work m waiting d (Ok a) e h = tt
  unlimited w work m waiting d (Err Memory) e h = tt
  unlimited w work m waiting d (Err Room) e h = h
  unlimited w work m waiting d (Err Deep) e h = cc (sym e ∙ h)
