use Rattle.rec_serve.proofs.AnswerLemmas.{split_law_lem}
use Rattle.rec_serve.proofs.laws.split_law.Goals as goal

pub returns : goal.returns
returns c = split_law_lem
