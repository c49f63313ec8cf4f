use Rattle.std.proofs.Common.{sym, subst}
use Rattle.psilt_core.specs.Evaluating.{Comes}
use Rattle.psilt_core.proofs.EvaluatingLemmas.{comes_told, not_deep, of_err, of_ok}
use Rattle.psilt_core.proofs.work.Work.normalise_given.Goals as goal

pub returns-in-Ok-clause-answer : goal.returns-in-Ok-clause-answer
returns-in-Ok-clause-answer g c =
    let b = c.args.self.now.bank in let r = c.normalise-end in let given = c.args.given in
    subst (Comes b r.new.self given.term given.steps) (sym c.value_or_fault.ensures)
    (comes_told b r.new.self given.term given.steps c.in-Ok.end c.requires (of_ok _ r.result.0 c.in-Ok.end c.in-Ok.is r.ensures.outcome)
    (of_ok _ r.result.0 c.in-Ok.end c.in-Ok.is r.ensures.rewriting))

pub fault_of_engine-requires : goal.fault_of_engine-requires
fault_of_engine-requires g c = not_deep _ c.in-Err.fault (of_err _ c.normalise-end.result.0 c.in-Err.fault c.in-Err.is c.normalise-end.ensures.room)
