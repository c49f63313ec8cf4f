use Rattle.std.proofs.Common.{subst, take_all}
use Rattle.std.proofs.lemmas.List.Elements.{All-more}
use Rattle.std.specs.Prelude.{All}
use Rattle.rec_join.specs.Join.{IsCopied, texts_of}
use Rattle.rec_join.proofs.layout.are_copied.Goals as goal

pub loop-piece-preserved : goal.loop-piece-preserved
loop-piece-preserved c = All-more (IsCopied (texts_of c.args.parts.now) c.args.whole.now) c.args.pieces.now c.loop-piece.piece-index _
    c.loop-piece-test.true c.loop-piece.invariant (c.is_copied.ensures c.if-not-is_copied.false)

pub returns : goal.returns
returns c = λ _. subst (All (IsCopied (texts_of c.args.parts.now) c.args.whole.now))
    (take_all c.loop-piece.piece-index c.args.pieces.now c.loop-piece-test.false) c.loop-piece.invariant
