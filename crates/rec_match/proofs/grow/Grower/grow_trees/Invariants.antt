use Rattle.std.proofs.Common.{map}
use Rattle.rec_match.specs.Inner.Tasks.{CanMark}
use Rattle.rec_match.specs.Matching.{numbers_of}
use Rattle.rec_match.proofs.GrownLemmas.{HaveTrees}
use Rattle.rec_match.proofs.grow.Grower.grow_trees.Given as goal

abbrev pub invariant-loop-symbol : goal.invariant-loop-symbol
invariant-loop-symbol l = record {
  marks : CanMark l.self l.work.marks;
  trees : HaveTrees l.self.checked.now.spec (numbers_of l.self.links.now) l.self.left.now.parts l.work.growth.forest
      (map (λ v. v.items) l.roots.items) l.symbol;
}
