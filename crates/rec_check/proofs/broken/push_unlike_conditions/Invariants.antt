use Rattle.std.proofs.Common.{◌≡◌, ◌++◌, take, map}
use Rattle.rec_check.specs.Named.{as_words}
use Rattle.rec_syntax.specs.Parts.{condition_of}
use Rattle.rec_check.specs.Walks.{unlike_in_conditions}
use Rattle.rec_check.proofs.broken.push_unlike_conditions.Given as goal

abbrev pub invariant-loop-condition : goal.invariant-loop-condition
invariant-loop-condition l = as_words l.found.items ≡ as_words l.initial.found.items ++ unlike_in_conditions l.syntax.spec
    (map (condition_of l.syntax.source) (take l.condition-index l.conditions))
