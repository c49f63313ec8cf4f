use Rattle.std.proofs.Common.{◌<◌}
use Rattle.rec_memo.proofs.sets.first_count.Given as goal

-- two at least
abbrev pub invariant-loop-count : goal.invariant-loop-count
invariant-loop-count l = record {
  many : 1 < l.count;
}

abbrev pub decreases-loop-count : goal.decreases-loop-count
decreases-loop-count l = l.count
