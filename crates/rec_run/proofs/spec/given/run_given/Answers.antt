use Rattle.std.proofs.Common.{refl}
use Rattle.rec_run.specs.Output.{shown_of}
use Rattle.rec_run.specs.Run.{IsDueFor}
use Rattle.rec_run.proofs.FaultLemmas.{memory_has_room}
use Rattle.rec_run.proofs.GivenDueLemmas.{refused_any}
use Rattle.rx_run.proofs.WholeRunLemmas.{breaks_unwritten}
use Rattle.rec_run.proofs.spec.given.run_given.Goals as goal

pub run_over-requires-clause-unrooted : goal.run_over-requires-clause-unrooted
run_over-requires-clause-unrooted g c = c.in-Ok.ensures.empty.2

pub run_over-requires-clause-limit : goal.run_over-requires-clause-limit
run_over-requires-clause-limit g c = c.in-Ok.ensures.empty.3

pub returns-in-Err-clause-fault : goal.returns-in-Err-clause-fault
returns-in-Err-clause-fault g c = breaks_unwritten (IsDueFor (shown_of c.args.settings) c.args.settings.options.steps) _ c.in-Err.fault _
    (rw c.in-Err.ensures.fault refl)

pub returns-in-Err-clause-cells : goal.returns-in-Err-clause-cells
returns-in-Err-clause-cells g c = refused_any _ (memory_has_room c.in-Err.fault c.in-Err.ensures.fault)

pub returns-in-Err-clause-unread : goal.returns-in-Err-clause-unread
returns-in-Err-clause-unread g c = refused_any _ refl
