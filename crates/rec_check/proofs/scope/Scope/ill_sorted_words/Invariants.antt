use Rattle.std.proofs.Common.{◌≡◌, ◌++◌, drop}
use Rattle.rec_check.specs.Named.{as_words, as_nodes}
use Rattle.std.specs.Prelude.{[]}
use Rattle.rec_check.specs.Walks.{ill_sorted_among}
use Rattle.rec_check.proofs.scope.Scope.ill_sorted_words.Given as goal

abbrev pub invariant-loop-node : goal.invariant-loop-node
invariant-loop-node l = as_words l.found.items ++ ill_sorted_among l.self.syntax.now.spec (as_words l.heads.items)
    (as_nodes (drop l.node-index l.nodes)) ≡ ill_sorted_among l.self.syntax.now.spec [] (as_nodes l.nodes)
