use Rattle.rx_run.specs.declared.ending.RunFault.TheVariants.{Write}
use Rattle.rx_run.proofs.ErrorLemmas.{if_err_at}
use Rattle.rx_text.specs.Canon.{canon}
use Rattle.rx_run.proofs.PatternLineLemmas.{canon_none, end_refused, line_written, stops_memory, text_refused}
use Rattle.rx_run.proofs.writing.write_line_to.Goals as goal

pub returns-in-Err-Memory-clause-err : goal.returns-in-Err-Memory-clause-err
returns-in-Err-Memory-clause-err g c =
    stops_memory canon (g.B.TermBank.store c.args.bank.now) c.args.t c.args.lines _ _ (g.met.B.TermBank.sound c.args.bank.now) canon_none c.requires.held
    c.in-Err-Memory.ensures.front

pub returns-in-Err-Write-clause-err : goal.returns-in-Err-Write-clause-err
returns-in-Err-Write-clause-err g c =
    text_refused canon (g.B.TermBank.store c.args.bank.now) c.args.t c.args.lines _ _ c.requires.held c.in-Err-Write.ensures.front

pub returns-in_err-put-clause-err : goal.returns-in_err-put-clause-err
returns-in_err-put-clause-err g c =
    if_err_at c.from_residual.result _ Write c.from_residual.ensures.1
    (end_refused canon (g.B.TermBank.store c.args.bank.now) c.args.t c.args.lines _ _ _ c.requires.held c.in-Ok.ensures.written c.in_err-put.ensures.front)

pub returns-clause-ok : goal.returns-clause-ok
returns-clause-ok g c =
    line_written canon (g.B.TermBank.store c.args.bank.now) c.args.t _ _ _ c.requires.held c.in-Ok.ensures.written c.in_ok-put.ensures.written
