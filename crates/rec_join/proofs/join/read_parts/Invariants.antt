use Rattle.std.proofs.Common.{take}
use Rattle.rec_join.specs.Inner.Nodes.{specs_of}
use Rattle.rec_join.specs.Join.{AreSpelled, texts_of}
use Rattle.rec_join.proofs.join.read_parts.Given as goal

abbrev pub invariant-loop-index : goal.invariant-loop-index
invariant-loop-index l = AreSpelled (texts_of (take l.index l.parts)) (specs_of l.syntaxes.items)
