use Rattle.rx_arena.specs.Arena.{taken_at}
use Rattle.rx_arena.proofs.FaceLemmas.{face-by_word}
use Rattle.rx_arena.proofs.arena.Arena.face.Goals as goal

pub returns-in-Some : goal.returns-in-Some
returns-in-Some c = face-by_word (taken_at c.args.self.now c.args.slot.0) c.word.result c.in-Some.face c.word.ensures c.in-Some.ensures.some
