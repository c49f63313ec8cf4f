use Rattle.rx_run.proofs.ErrorLemmas.{on_ok_any}
use Rattle.rec_run.proofs.spec.evaluation.tell_outcome.Goals as goal

pub returns-in-Ok-clause-told : goal.returns-in-Ok-clause-told
returns-in-Ok-clause-told g c = on_ok_any c.write_outcome_line.result c.in-Ok.ensures.told
