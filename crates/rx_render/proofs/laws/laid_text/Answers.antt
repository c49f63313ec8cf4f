use Rattle.rx_render.proofs.LaidLemmas.{laid_spells}
use Rattle.rx_render.proofs.laws.laid_text.Goals as goal

pub returns : goal.returns
returns c = record { spells = laid_spells }
