use Rattle.rec_match.specs.Inner.Tasks.{tasks_of, CanMark, StepsBy}
use Rattle.rec_match.proofs.grow.Grower.grow.Given as goal

abbrev pub invariant-loop-pending : goal.invariant-loop-pending
invariant-loop-pending l = record {
  marks : CanMark l.self l.work.marks;
  steps : StepsBy l.self l.fn.work.growth.forest (tasks_of l.fn.work.growth) l.work.growth.forest (tasks_of l.work.growth);
}

abbrev pub decreases-loop-pending : goal.decreases-loop-pending
decreases-loop-pending l = l.work.fuel
