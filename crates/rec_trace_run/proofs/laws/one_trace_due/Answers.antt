use Rattle.rec_trace_run.proofs.DueLemmas.{one_trace_due_for}
use Rattle.rec_trace_run.proofs.laws.one_trace_due.Goals as goal

pub returns : goal.returns
returns c = one_trace_due_for
