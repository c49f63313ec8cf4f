use Rattle.std.proofs.Common.{subst}
use Rattle.rec_match.specs.Inner.Marking.{HasMarks}
use Rattle.rec_match.specs.Matching.{numbers_of}
use Rattle.rec_match.proofs.GroundLemmas.{is_ground}
use Rattle.rec_match.proofs.GrownLemmas.{numbers_apart}
use Rattle.rec_match.proofs.trees.grow_all.Goals as goal

pub grow_trees-requires-clause-ready : goal.grow_trees-requires-clause-ready
grow_trees-requires-clause-ready c = record {
  linked = c.requires.linked;
  ground = is_ground c.args.checked.now.spec c.syntax-kept.ensures.kept (numbers_of c.args.links.now) c.args.left.now.parts
      (numbers_apart c.args.checked.now.spec c.args.links.now c.symbols-differ.ensures.differ c.requires.linked) c.requires.left.whole;
  left = c.requires.left;
  chains = c.requires.chains;
}

pub grow_trees-requires-clause-marks : goal.grow_trees-requires-clause-marks
grow_trees-requires-clause-marks c = subst (HasMarks c.in_ok-work.work.marks) c.symbols.ensures c.in_ok-work.ensures.marks
