use Rattle.std.proofs.Common.{◌≤◌, ◌<◌, ◌-◌, length}
use Rattle.rec_join.proofs.scan.stretches_of.Given as goal

abbrev pub invariant-loop-at : goal.invariant-loop-at
invariant-loop-at l = record {
  within : l.at ≤ length l.text;
  current : l.current < 9;
}

abbrev pub decreases-loop-at : goal.decreases-loop-at
decreases-loop-at l = length l.text - l.at
