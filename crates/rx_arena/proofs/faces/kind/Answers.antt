use Rattle.rx_arena.proofs.FaceLemmas.{kind-said}
use Rattle.rx_arena.proofs.faces.kind.Goals as goal

pub returns : goal.returns
returns c = λ b e. kind-said c.args.word b c.requires e
