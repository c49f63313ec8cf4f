use Rattle.std.proofs.Common.{◌≡◌, take}
use Rattle.rec_check.specs.Named.{as_words, as_nodes}
use Rattle.rec_check.specs.Lookups.{ill_filled_among}
use Rattle.rec_check.proofs.scope.Scope.ill_filled_words.Given as goal

abbrev pub invariant-loop-node : goal.invariant-loop-node
invariant-loop-node l = as_words l.found.items ≡ ill_filled_among l.self.syntax.now.spec (as_nodes (take l.node-index l.nodes))
