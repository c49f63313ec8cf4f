use Rattle.rx_arena.proofs.FaceLemmas.{face-parts}
use Rattle.rx_arena.proofs.faces.said.Goals as goal

pub returns-clause-some : goal.returns-clause-some
returns-clause-some c = λ b e. face-parts c.args.word c.kind.result c.first.result c.second.result b c.if-word-eq-ASK.false e (c.kind.ensures b e)
    (c.first.ensures b e) (c.second.ensures b e)
