use Rattle.rec_trace_run.proofs.LawLemmas.{whole_trace_law_for}
use Rattle.rec_trace_run.proofs.laws.whole_trace_law.Goals as goal

pub returns : goal.returns
returns c = whole_trace_law_for
