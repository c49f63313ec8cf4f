-- A root that is counted once more or once less changes nothing that the engine knows.
use Rattle.std.proofs.Common.{◌≡◌, sym, subst, ℕ}
use Rattle.std.specs.Prelude.{Result, Ok, Err}
use Rattle.rx_term.specs.Store.{Store}
use Rattle.rx_term.specs.Steps.{ProtectsOrRefuses, with_count}
use Rattle.rx_term.specs.declared.Term.{Term}
use Rattle.rx_term.specs.declared.faults.RootsFull.{RootsFull}
use Rattle.rec_syntax.specs.Syntax.{Spec}
use Rattle.rec_engine.specs.declared.compile.code.Code.{Code}
use Rattle.rec_engine.specs.declared.heap.pace.Pace.{Pace}
use Rattle.rec_engine.specs.Turn.{Ready}

pub ready-counted : (y : Spec) (c : Code) (w new : Store) (pace : Pace) (t : Term) (n : ℕ) → new ≡ with_count w t n → Ready y c w pace → Ready y c new pace
ready-counted y c w new pace t n e r = subst (λ x. Ready y c x pace) (sym e) (record {
  code = r.code;
  linked = record { counted = r.linked.counted; linked = r.linked.linked };
  constants = record { each = r.constants.each };
  results = r.results;
})

pub ready-protected : (y : Spec) (c : Code) (w new : Store) (pace : Pace) (t : Term) (r : Result (Unit {0}) RootsFull) → ProtectsOrRefuses w new t r
    → Ready y c w pace → Ready y c new pace
ready-protected y c w new pace t (Ok u) h r = ready-counted y c w new pace t _ h.1 r
ready-protected y c w new pace t (Err e) h r = subst (λ x. Ready y c x pace) (sym h.1) r
