use Rattle.std.proofs.Common.{◌≤◌, drop, length}
use Rattle.rec_syntax.specs.Syntax.{Spec}
use Rattle.rec_sorts.specs.Laws.{Every}
use Rattle.rec_engine.specs.Inner.Made.{IsApplied}
use Rattle.rec_trace.specs.Inner.Turns.{IsGroundRow}
use Rattle.rec_trace.proofs.row.ground_steps.Given as goal

abbrev pub invariant-letters : goal.invariant-letters
invariant-letters l = record {
  within : l.at ≤ length l.letters;
  row : (y : Spec) → Every (IsApplied y) l.letters → IsGroundRow y l.steps.items (drop l.at l.letters);
}

abbrev pub decreases-letters : goal.decreases-letters
decreases-letters l = l.at
