use Rattle.rx_arena.proofs.FaceLemmas.{second-said}
use Rattle.rx_arena.proofs.faces.second.Goals as goal

pub returns : goal.returns
returns c = λ b e. second-said c.args.word b c.requires e
