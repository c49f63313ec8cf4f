use Rattle.rx_arena.specs.Arena.{taken_at}
use Rattle.rx_arena.proofs.FaceLemmas.{face-read}
use Rattle.rx_arena.proofs.arena.Arena.face_in_cell.Goals as goal

pub returns : goal.returns
returns c = face-read (taken_at c.args.self.now c.args.slot.0) c.read-body.result c.read-body.ensures
