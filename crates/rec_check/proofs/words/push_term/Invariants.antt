use Rattle.std.proofs.Common.{◌≡◌, ◌++◌, take, map}
use Rattle.rec_check.specs.Named.{as_nodes}
use Rattle.rec_syntax.specs.Parts.{node_of}
use Rattle.rec_check.proofs.words.push_term.Given as goal

abbrev pub invariant-loop-node : goal.invariant-loop-node
invariant-loop-node l = as_nodes l.nodes.items ≡ as_nodes l.initial.nodes.items ++ map (node_of l.syntax.source) (take l.node-index l.node-items)
