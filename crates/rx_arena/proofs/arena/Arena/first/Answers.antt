use Rattle.rx_arena.specs.Arena.{taken_at}
use Rattle.rx_arena.proofs.FaceLemmas.{first-by_word}
use Rattle.rx_arena.proofs.arena.Arena.first.Goals as goal

pub returns-else-word : goal.returns-else-word
returns-else-word c = first-by_word (taken_at c.args.self.now c.args.slot.0) c.word-word.result c.first.result c.word-word.ensures c.first.ensures
