use Rattle.std.proofs.Common.{◌≡◌, ◌++◌, drop}
use Rattle.rec_trace_run.specs.Picks.{by_threes}
use Rattle.rec_trace_run.proofs.firings.add_by_threes.Given as goal

-- the digits so far stand there, and the others are left
abbrev pub invariant-loop-i : goal.invariant-loop-i
invariant-loop-i l = record {
  text : l.line.items ++ by_threes (drop l.i l.digits) ≡ l.fn.line.items ++ by_threes l.digits;
}
