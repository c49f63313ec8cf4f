use Rattle.std.proofs.Common.{Some}
use Rattle.rx_run.specs.PatternRuns.{IsMakeDue}
use Rattle.rx_run.proofs.FaultLemmas.{not_deep_at_once, reports_at_once}
use Rattle.rx_run.proofs.ErrorLemmas.{if_err_at}
use Rattle.rx_run.proofs.WholeRunLemmas.{breaks_unwritten}
use Rattle.rx_run.proofs.pattern.making.make_owned.Goals as goal

pub returns-in_err-reading-clause-fault : goal.returns-in_err-reading-clause-fault
returns-in_err-reading-clause-fault g c =
    let f = c.in_err-reading.field-0.0 in
    if_err_at c.from_residual.result _ f c.from_residual.ensures.1
    (breaks_unwritten (IsMakeDue c.args.pattern.now) (Some c.args.args.now) f _ (reports_at_once f c.in_err-reading.ensures.fault))

pub returns-in_err-reading-clause-no_depth : goal.returns-in_err-reading-clause-no_depth
returns-in_err-reading-clause-no_depth g c =
    let f = c.in_err-reading.field-0.0 in
    if_err_at c.from_residual.result _ f c.from_residual.ensures.1 (not_deep_at_once f c.in_err-reading.ensures.fault)
