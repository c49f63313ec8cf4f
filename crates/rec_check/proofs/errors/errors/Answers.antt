use Rattle.rec_check.specs.Findings.{as_diagnostics}
use Rattle.rec_check.proofs.RunLemmas.{if_ok_errors}
use Rattle.rec_check.proofs.errors.errors.Goals as goal

pub returns : goal.returns
returns c =
    if_ok_errors c.reported_first.result c.args.syntax.now.spec (record { number = c.args.reported.number; at = c.args.reported.at })
    (as_diagnostics c.in_ok-found.found.items) c.in_ok-found.ensures c.reported_first.ensures.same c.reported_first.ensures.ordered
