use Rattle.rx_run.specs.PatternRuns.{IsMakeDue}
use Rattle.rx_run.proofs.WholeRunLemmas.{ends_with, placed_with}
use Rattle.rx_run.proofs.shorthand.run_make_at.Goals as goal

pub returns-in-Ok-clause-output : goal.returns-in-Ok-clause-output
returns-in-Ok-clause-output g c = rw c.finish.ensures
    (ends_with (IsMakeDue c.args.pattern.now c.args.args.now) c.in-Ok.ending _ _ c.in-Ok.ensures.ends)

pub returns-in-Ok-clause-place : goal.returns-in-Ok-clause-place
returns-in-Ok-clause-place g c = rw c.place.ensures
    (placed_with (IsMakeDue c.args.pattern.now c.args.args.now) c.in-Ok.ending _ _ c.in-Ok.ensures.ends)
