use Rattle.rx_run.specs.Inner.PatternAnswers.{answer_due}
use Rattle.rx_run.specs.declared.ending.RunFault.TheVariants.{Write}
use Rattle.rx_run.proofs.ErrorLemmas.{if_err_at}
use Rattle.rx_run.proofs.ReadDueLemmas.{appends_flushed, flush_refused}
use Rattle.rx_run.proofs.pattern.matching.end_answer.Goals as goal

pub returns-in_err-write_answer-clause-err : goal.returns-in_err-write_answer-clause-err
returns-in_err-write_answer-clause-err g c =
    if_err_at c.from_residual.result _ c.in_err-write_answer.field-0.0 c.from_residual.ensures.1 c.in_err-write_answer.ensures.err

pub returns-in_err-flush-clause-err : goal.returns-in_err-flush-clause-err
returns-in_err-flush-clause-err g c =
    let text = (answer_due (g.B.TermBank.store c.args.bank.now) c.args.answer.now).text in
    if_err_at c.from_residual-in_err-flush.result _ Write c.from_residual-in_err-flush.ensures.1
    (flush_refused text _ _ _ c.in_ok-write_answer.ensures.ok c.in_err-flush.ensures.kept)

pub returns-clause-ok : goal.returns-clause-ok
returns-clause-ok g c =
    appends_flushed (answer_due (g.B.TermBank.store c.args.bank.now) c.args.answer.now).text _ _ _ c.in_ok-write_answer.ensures.ok c.in_ok-flush.ensures.kept
