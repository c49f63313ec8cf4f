use Rattle.std.proofs.Common.{◌≡◌, ◌++◌, take, map}
use Rattle.rec_check.specs.Named.{as_nodes}
use Rattle.rec_syntax.specs.Parts.{condition_of}
use Rattle.rec_check.specs.Walks.{flat_terms}
use Rattle.rec_sorts.specs.Lookup.{condition_terms}
use Rattle.rec_check.proofs.words.push_conditions.Given as goal

abbrev pub invariant-loop-condition : goal.invariant-loop-condition
invariant-loop-condition l = as_nodes l.nodes.items ≡ as_nodes l.initial.nodes.items ++ flat_terms
    (condition_terms (map (condition_of l.syntax.source) (take l.condition-index l.conditions)))
