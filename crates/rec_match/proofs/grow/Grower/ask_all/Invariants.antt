use Rattle.std.proofs.Common.{◌∷◌, []}
use Rattle.rec_match.specs.Inner.Tasks.{StepsBy}
use Rattle.rec_match.specs.Inner.Paths.{path_task, left_to_ask, AreValues}
use Rattle.rec_match.proofs.grow.Grower.ask_all.Given as goal

abbrev pub invariant-loop-code : goal.invariant-loop-code
invariant-loop-code l = record {
  steps : StepsBy l.self l.fn.forest (path_task l.fn.path ∷ []) l.forest (path_task l.path ∷ []);
  values : AreValues l.self l.path.values.items;
}

abbrev pub decreases-loop-code : goal.decreases-loop-code
decreases-loop-code l = left_to_ask l.path l.forest
