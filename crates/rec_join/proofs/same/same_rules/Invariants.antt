use Rattle.std.proofs.Common.{◌≡◌, length, map, take}
use Rattle.rec_syntax.specs.Parts.{rule_of}
use Rattle.rec_join.specs.Join.{unplaced_rule}
use Rattle.rec_join.proofs.same.same_rules.Given as goal

-- the lists are equally long, and agree so far
abbrev pub invariant-loop-index : goal.invariant-loop-index
invariant-loop-index l = record {
  long : length l.xs ≡ length l.ys;
  same : map unplaced_rule (map (rule_of l.a.source) (take l.index l.xs)) ≡ map unplaced_rule (map (rule_of l.b.source) (take l.index l.ys));
}
