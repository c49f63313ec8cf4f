use Rattle.std.proofs.Common.{length, ◌-◌}
use Rattle.rec_match.proofs.NextLemmas.{Nearing}
use Rattle.rec_match.proofs.matcher.Matcher.first_rule.Given as goal

abbrev pub invariant-loop-at : goal.invariant-loop-at
invariant-loop-at l = Nearing l.self l.symbol l.from l.at

abbrev pub decreases-loop-at : goal.decreases-loop-at
decreases-loop-at l = length l.self.sides.items - l.at
