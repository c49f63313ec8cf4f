use Rattle.std.proofs.Common.{take}
use Rattle.std.specs.Prelude.{All}
use Rattle.rec_join.specs.Join.{Covers}
use Rattle.rec_join.proofs.join.Joined.origin.Given as goal

abbrev pub invariant-loop-piece : goal.invariant-loop-piece
invariant-loop-piece l = All (λ p. ¬ Covers l.at p) (take l.piece-index l.self.pieces.items)
