use Rattle.std.proofs.Common.{take}
use Rattle.std.specs.Prelude.{All}
use Rattle.rec_join.specs.Join.{IsCopied, texts_of}
use Rattle.rec_join.proofs.layout.are_copied.Given as goal

abbrev pub invariant-loop-piece : goal.invariant-loop-piece
invariant-loop-piece l = All (IsCopied (texts_of l.parts) l.whole) (take l.piece-index l.pieces)
