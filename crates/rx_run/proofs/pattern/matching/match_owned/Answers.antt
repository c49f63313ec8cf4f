use Rattle.std.proofs.Common.{rules, subst}
use Rattle.rx_run.specs.Run.{IsReadOut}
use Rattle.rx_run.specs.PatternRuns.{IsMatchDue}
use Rattle.rx_run.proofs.FaultLemmas.{not_deep_at_once, reports_at_once}
use Rattle.rx_run.proofs.ErrorLemmas.{if_err_at, on_ok_of}
use Rattle.rx_run.proofs.WholeRunLemmas.{breaks_unwritten}
use Rattle.rx_run.proofs.pattern.matching.match_owned.Goals as goal

pub returns-in_err-reading-clause-fault : goal.returns-in_err-reading-clause-fault
returns-in_err-reading-clause-fault g c =
    let f = c.in_err-reading.field-0.0 in
    if_err_at c.from_residual.result _ f c.from_residual.ensures.1
    (breaks_unwritten (IsMatchDue c.args.pattern.now) (g.R.Read.remaining c.args.input.now) f _ (reports_at_once f c.in_err-reading.ensures.fault))

pub returns-in_err-reading-clause-no_depth : goal.returns-in_err-reading-clause-no_depth
returns-in_err-reading-clause-no_depth g c =
    let f = c.in_err-reading.field-0.0 in
    if_err_at c.from_residual.result _ f c.from_residual.ensures.1 (not_deep_at_once f c.in_err-reading.ensures.fault)

pub returns-clause-input_read : goal.returns-clause-input_read
returns-clause-input_read g c =
    on_ok_of c.match_over.result
    (λ h p spells. subst (λ at. IsReadOut (g.R.Read.remaining c.args.input.now) (g.R.Read.remaining at)) (search rules)
    (rw c.new-input.ensures.now at h p spells))
    c.match_over.ensures.input_read
