use Rattle.rx_run.specs.PatternRuns.{make_due, match_due}
use Rattle.rx_run.proofs.PatternDueLemmas.{one_due_of_both}
use Rattle.rx_run.proofs.laws.one_due_with_pattern.Goals as goal

pub returns-clause-of_match : goal.returns-clause-of_match
returns-clause-of_match c = one_due_of_both match_due

pub returns-clause-of_make : goal.returns-clause-of_make
returns-clause-of_make c = one_due_of_both make_due
