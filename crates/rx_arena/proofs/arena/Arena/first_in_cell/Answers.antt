use Rattle.rx_arena.specs.Arena.{taken_at}
use Rattle.rx_arena.proofs.FaceLemmas.{first-read}
use Rattle.rx_arena.proofs.arena.Arena.first_in_cell.Goals as goal

pub returns : goal.returns
returns c = first-read (taken_at c.args.self.now c.args.slot.0) c.read.result c.read.ensures
