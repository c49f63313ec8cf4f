use Rattle.rec_run.proofs.OneDueLemmas.{one_due}
use Rattle.rec_run.proofs.laws.one_due.Goals as goal

pub returns : goal.returns
returns c = one_due
