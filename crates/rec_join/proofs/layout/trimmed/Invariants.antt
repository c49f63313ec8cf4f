use Rattle.std.proofs.Common.{◌≤◌, ◌-◌, length}
use Rattle.rec_join.proofs.layout.trimmed.Given as goal

abbrev pub invariant-loop-to : goal.invariant-loop-to
invariant-loop-to l = record {
  order : l.from ≤ l.to;
  within : l.to ≤ length l.text;
}

abbrev pub decreases-loop-to : goal.decreases-loop-to
decreases-loop-to l = l.to

abbrev pub invariant-loop-first : goal.invariant-loop-first
invariant-loop-first l = record {
  order : l.first ≤ l.to;
  line : l.line ≤ l.first;
  within : l.to ≤ length l.text;
}

abbrev pub decreases-loop-first : goal.decreases-loop-first
decreases-loop-first l = l.to - l.first
