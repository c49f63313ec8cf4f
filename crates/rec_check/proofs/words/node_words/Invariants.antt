use Rattle.std.proofs.Common.{◌≡◌, take}
use Rattle.rec_check.specs.Named.{as_words, as_nodes, node_words}
use Rattle.rec_check.proofs.words.node_words.Given as goal

abbrev pub invariant-loop-node : goal.invariant-loop-node
invariant-loop-node l = as_words l.words.items ≡ node_words (as_nodes (take l.node-index l.nodes))
