use Rattle.std.proofs.Common.{refl}
use Rattle.rx_run.specs.PatternRuns.{IsMatchDue}
use Rattle.rx_run.proofs.WholeRunLemmas.{breaks_unwritten}
use Rattle.rx_run.proofs.pattern.matching.match_term.Goals as goal

pub returns-in-Err-clause-fault : goal.returns-in-Err-clause-fault
returns-in-Err-clause-fault g c = breaks_unwritten (IsMatchDue c.args.pattern.now) (g.R.Read.remaining c.args.input.now) c.in-Err.fault _
    (rw c.in-Err.ensures.fault refl)

pub match_owned-requires : goal.match_owned-requires
match_owned-requires g c = record { limit = c.in-Ok.ensures.empty.3 }
