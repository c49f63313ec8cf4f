use Rattle.psilt_core.proofs.EvaluatingLemmas.{gives_term, not_deep}
use Rattle.psilt_core.proofs.work.Work.eval_term.Goals as goal

pub returns-in-Ok-clause-answer : goal.returns-in-Ok-clause-answer
returns-in-Ok-clause-answer c = gives_term c.args.self.now.bank c.eval_term.new.self c.args.i c.in-Ok.t c.in-Ok.ensures.term c.in-Ok.ensures.given

pub fault_of_engine-requires : goal.fault_of_engine-requires
fault_of_engine-requires c = not_deep _ c.in-Err.fault c.in-Err.ensures.room
