use Rattle.std.proofs.Common.{length, ◌≤◌}
use Rattle.rec_match.specs.Inner.Chains.{AreChainsFrom}
use Rattle.rec_check.proofs.rewriting.chain.Given as goal

-- the chains from the rule on
abbrev pub invariant-loop-rule : goal.invariant-loop-rule
invariant-loop-rule l = record {
  within : l.rule ≤ length l.heads;
  chains : AreChainsFrom l.heads l.count l.rule l.firsts.items l.nexts.items;
}

abbrev pub decreases-loop-rule : goal.decreases-loop-rule
decreases-loop-rule l = l.rule
