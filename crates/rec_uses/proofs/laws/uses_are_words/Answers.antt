use Rattle.rec_uses.proofs.GrammarLemmas.{uses_are_words}
use Rattle.rec_uses.proofs.laws.uses_are_words.Goals as goal

pub returns : goal.returns
returns c = uses_are_words
