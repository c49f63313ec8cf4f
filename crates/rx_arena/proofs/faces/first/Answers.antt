use Rattle.rx_arena.proofs.FaceLemmas.{first-said}
use Rattle.rx_arena.proofs.faces.first.Goals as goal

pub returns : goal.returns
returns c = λ b e. first-said c.args.word b c.requires e
