use Rattle.std.proofs.Common.{◌≡◌, take, map}
use Rattle.rec_syntax.specs.Parts.{node_of}
use Rattle.rec_sorts.specs.Letters.{placed_by}
use Rattle.rec_sorts.proofs.scope.Scope.letters.Given as goal

abbrev pub invariant-loop-node : goal.invariant-loop-node
invariant-loop-node l = l.letters.items ≡ map (placed_by l.self) (map (node_of l.self.source.now) (take l.node-index l.nodes))
