use Rattle.std.proofs.Common.{◌≡◌, ◌≤◌, ◌++◌, length, drop, reverse}
use Rattle.rec_match.proofs.path.push_reversed.Given as goal

abbrev pub invariant-loop-i : goal.invariant-loop-i
invariant-loop-i l = record {
  within : l.i ≤ length l.codes;
  pushed : l.rest.items ≡ l.fn.rest.items ++ reverse (drop l.i l.codes);
}

abbrev pub decreases-loop-i : goal.decreases-loop-i
decreases-loop-i l = l.i
