use Rattle.rec_match.proofs.TaskLemmas.{leaf_steps}
use Rattle.rec_match.proofs.grow.Growth.write_leaf.Goals as goal

pub returns : goal.returns
returns c = λ y ns ps cs ground places.
    leaf_steps y ns ps c.args.self.now.forest c.add.new.self.forest c.write_try.new.self _ _ c.args.node c.args.width c.args.rule c.args.places.now cs
    _ c.in_ok-next.next c.in_ok-next.ensures c.in_ok-write_try.ensures ground places
