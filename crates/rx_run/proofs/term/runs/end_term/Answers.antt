use Rattle.rx_run.specs.TermRuns.{due_at}
use Rattle.rx_run.specs.declared.ending.RunFault.TheVariants.{Write}
use Rattle.rx_run.proofs.ErrorLemmas.{if_err_at}
use Rattle.rx_run.proofs.ReadDueLemmas.{appends_flushed, flush_refused_by}
use Rattle.rx_run.proofs.term.runs.end_term.Goals as goal

pub returns-in_err-write_due-clause-err : goal.returns-in_err-write_due-clause-err
returns-in_err-write_due-clause-err g c =
    if_err_at c.from_residual.result _ c.in_err-write_due.field-0.0 c.from_residual.ensures.1 c.in_err-write_due.ensures.err

pub returns-in_err-flush-clause-err : goal.returns-in_err-flush-clause-err
returns-in_err-flush-clause-err g c =
    let text = (due_at (g.L.TermOutput.lines c.args.lines.now) (g.B.TermBank.store c.args.bank.now) c.args.reading.now).text in
    if_err_at c.from_residual-in_err-flush.result _ Write c.from_residual-in_err-flush.ensures.1
    (flush_refused_by (g.L.TermOutput.counts_lines c.args.lines.now) text _ _ _ c.in_ok-write_due.ensures.ok c.in_err-flush.ensures.kept)

pub returns-clause-ok : goal.returns-clause-ok
returns-clause-ok g c =
    let text = (due_at (g.L.TermOutput.lines c.args.lines.now) (g.B.TermBank.store c.args.bank.now) c.args.reading.now).text in
    appends_flushed text _ _ _ c.in_ok-write_due.ensures.ok c.in_ok-flush.ensures.kept
