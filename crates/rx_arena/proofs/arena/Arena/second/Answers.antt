use Rattle.rx_arena.specs.Arena.{taken_at}
use Rattle.rx_arena.proofs.FaceLemmas.{second-by_word}
use Rattle.rx_arena.proofs.arena.Arena.second.Goals as goal

pub returns-else-word : goal.returns-else-word
returns-else-word c = second-by_word (taken_at c.args.self.now c.args.slot.0) c.word-word.result c.second.result c.word-word.ensures c.second.ensures
