-- The law is proved over the definitions.
use Rattle.rec_sorts.proofs.FirstBrokenLemmas as F
use Rattle.rec_sorts.proofs.laws.element_law.Goals as goal

pub returns : goal.returns
returns c = F.element_law
