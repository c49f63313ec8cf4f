use Rattle.std.proofs.Common.{refl}
use Rattle.rec_trace_run.specs.Traces.{IsTraceDueFor, shown_by}
use Rattle.rec_run.proofs.FaultLemmas.{memory_has_room}
use Rattle.rx_run.proofs.WholeRunLemmas.{breaks_unwritten}
use Rattle.rec_run.proofs.GivenDueLemmas.{refused_any}
use Rattle.rec_trace_run.proofs.runs.run_trace.Goals as goal

pub trace_over-requires-clause-unrooted : goal.trace_over-requires-clause-unrooted
trace_over-requires-clause-unrooted g c = c.in-Ok.ensures.empty.2

pub trace_over-requires-clause-limit : goal.trace_over-requires-clause-limit
trace_over-requires-clause-limit g c = c.in-Ok.ensures.empty.3

pub returns-in-Err-clause-fault : goal.returns-in-Err-clause-fault
returns-in-Err-clause-fault g c = breaks_unwritten (IsTraceDueFor (shown_by c.args.options) c.args.options.run.steps) _ c.in-Err.fault _
    (rw c.in-Err.ensures.fault refl)

pub returns-in-Err-clause-room : goal.returns-in-Err-clause-room
returns-in-Err-clause-room g c = refused_any _ (memory_has_room c.in-Err.fault c.in-Err.ensures.fault)

pub returns-in-Err-clause-unread : goal.returns-in-Err-clause-unread
returns-in-Err-clause-unread g c = refused_any _ refl
