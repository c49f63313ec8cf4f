use Rattle.std.proofs.Common.{◌≡◌, length, map, take}
use Rattle.rec_syntax.specs.Parts.{condition_of}
use Rattle.rec_join.specs.Join.{unplaced_condition}
use Rattle.rec_join.proofs.same.same_conditions.Given as goal

-- the lists are equally long, and agree so far
abbrev pub invariant-loop-index : goal.invariant-loop-index
invariant-loop-index l = record {
  long : length l.xs ≡ length l.ys;
  same : map unplaced_condition (map (condition_of l.a.source) (take l.index l.xs)) ≡ map unplaced_condition (map (condition_of l.b.source) (take l.index l.ys));
}
