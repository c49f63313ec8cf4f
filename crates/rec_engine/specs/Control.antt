-- When a control stops an evaluation, and the facts that hold otherwise.
use Rattle.std.specs.Prelude.{◌≡◌, ◌⊎◌, Result, Ok}
use Rattle.rec_engine.specs.declared.engine.errors.EngineFault.{EngineFault}
use Rattle.rec_engine.specs.declared.engine.Controlled.{Controlled}
use Rattle.rec_engine.specs.declared.engine.Controlled.TheVariants.{Ended, Stopped}
use Rattle.rec_engine.specs.declared.engine.Outcome.{Outcome}

-- IfEnded P r: `P` holds for the outcome, if the evaluation was not stopped
abbrev pub IfEnded : (Outcome → Type 0) → Controlled → Type 0
IfEnded P (Ended o) = P o
IfEnded P Stopped = Unit {0}

-- Obeys: an evaluation stops only if its control has requested it, and always if the control had
-- not requested it before
pub record Obeys {A : Type 0} (stop : A) (before after : Type 0) (r : Result A EngineFault)
    : Type 0 where
  pub only : r ≡ Ok stop → after
  pub always : after → before ⊎ (r ≡ Ok stop)
