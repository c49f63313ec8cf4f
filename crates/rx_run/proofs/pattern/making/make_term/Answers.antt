use Rattle.std.proofs.Common.{Some, refl}
use Rattle.rx_run.specs.PatternRuns.{IsMakeDue}
use Rattle.rx_run.proofs.WholeRunLemmas.{breaks_unwritten}
use Rattle.rx_run.proofs.pattern.making.make_term.Goals as goal

pub returns-in-Err-clause-fault : goal.returns-in-Err-clause-fault
returns-in-Err-clause-fault g c = breaks_unwritten (IsMakeDue c.args.pattern.now) (Some c.args.args.now) c.in-Err.fault _ (rw c.in-Err.ensures.fault refl)

pub make_owned-requires : goal.make_owned-requires
make_owned-requires g c = record { limit = c.in-Ok.ensures.empty.3 }
