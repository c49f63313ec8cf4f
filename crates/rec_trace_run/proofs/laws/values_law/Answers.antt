use Rattle.rec_trace_run.proofs.LawLemmas.{values_law_for}
use Rattle.rec_trace_run.proofs.laws.values_law.Goals as goal

pub returns : goal.returns
returns c = values_law_for
