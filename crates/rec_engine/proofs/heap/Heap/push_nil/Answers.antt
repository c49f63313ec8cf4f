use Rattle.std.proofs.Common.{◌++◌, ◌∷◌, [], ap, ◌∙◌}
use Rattle.rec_engine.proofs.heap.Heap.push_nil.Goals as goal

pub returns-clause-pushed : goal.returns-clause-pushed
returns-clause-pushed g c = c.in_ok-push.ensures.pushed ∙ ap (λ xs. xs ++ c.in_ok-empty.empty ∷ []) c.make.ensures.same
