use Rattle.rec_serve.proofs.RequestLemmas.{requests_law_lem}
use Rattle.rec_serve.proofs.laws.requests_law.Goals as goal

pub returns : goal.returns
returns c = requests_law_lem
