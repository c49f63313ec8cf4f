use Rattle.rx_run.specs.TermRuns.{IsTermDue}
use Rattle.rx_run.proofs.WholeRunLemmas.{ends_so, placed_so}
use Rattle.rx_run.proofs.shorthand.run_aterm_at.Goals as goal

pub returns-in-Ok-clause-output : goal.returns-in-Ok-clause-output
returns-in-Ok-clause-output g c =
    rw c.finish.ensures (ends_so IsTermDue (g.R.Read.remaining c.args.input.now) c.in-Ok.ending _ _ c.in-Ok.ensures.ends)

pub returns-in-Ok-clause-place : goal.returns-in-Ok-clause-place
returns-in-Ok-clause-place g c =
    rw c.place.ensures (placed_so IsTermDue (g.R.Read.remaining c.args.input.now) c.in-Ok.ending _ _ c.in-Ok.ensures.ends)
