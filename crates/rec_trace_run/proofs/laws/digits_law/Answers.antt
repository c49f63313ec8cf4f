use Rattle.rec_trace_run.proofs.LawLemmas.{digits_law_for}
use Rattle.rec_trace_run.proofs.laws.digits_law.Goals as goal

pub returns : goal.returns
returns c = digits_law_for
