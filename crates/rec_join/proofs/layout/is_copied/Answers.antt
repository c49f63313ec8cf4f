use Rattle.rec_join.proofs.JoinLemmas.{copied}
use Rattle.rec_join.proofs.layout.is_copied.Goals as goal

pub returns : goal.returns
returns c = λ e. copied c.args.parts.now c.args.whole.now c.args.piece _ c.if-piece-parts.false (c.same_bytes.ensures.within e)
    (c.same_bytes.ensures.inside e) (c.same_bytes.ensures.same e)
