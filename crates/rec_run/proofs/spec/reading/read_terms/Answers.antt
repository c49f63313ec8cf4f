use Rattle.std.proofs.lemmas.Result.{IfErr-weaker}
use Rattle.rx_run.specs.Run.{RanOut, StopsUnwritten}
use Rattle.rx_run.specs.Streams.{is_read}
use Rattle.rx_run.proofs.ErrorLemmas.{if_err_at}
use Rattle.rx_run.proofs.FaultLemmas.{unwritten, unwritten_reading}
use Rattle.rec_run.proofs.GivenDueLemmas.{read_given}
use Rattle.rx_run.proofs.ReportLemmas.{ran_out_no_read, returns_no}
use Rattle.rec_run.proofs.ReadsLemmas.{terms_on, terms_still}
use Rattle.rec_run.proofs.spec.reading.read_terms.Goals as goal

pub returns-clause-read : goal.returns-clause-read
returns-clause-read g c = read_given c.args.form (g.B.TermBank.store c.judge_given.new.bank) c.args.checked c.judge_given.result c.in_ok-text.text _
    c.in_ok-text.ensures.text c.judge_given.ensures.read

pub returns-clause-fault : goal.returns-clause-fault
returns-clause-fault g c = IfErr-weaker c.judge_given.result _ _
    (unwritten (g.B.TermBank.store c.args.bank.now) (g.B.TermBank.store c.judge_given.new.bank)) c.judge_given.ensures.fault

pub returns-clause-reports : goal.returns-clause-reports
returns-clause-reports g c =
    let old = g.B.TermBank.store c.args.bank.now in
    let new = g.B.TermBank.store c.judge_given.new.bank in
    let r = c.judge_given.result in
    terms_still _ _ r (returns_no is_read (RanOut old new) r (ran_out_no_read old new) c.judge_given.ensures.fault) c.in_ok-text.ensures.reports

pub returns-in_err-text-clause-reports : goal.returns-in_err-text-clause-reports
returns-in_err-text-clause-reports g c = terms_on _ _ c.from_residual.result c.in_err-text.field-0.0 c.from_residual.ensures.1
    c.in_err-text.ensures.reports

pub returns-in_err-text-clause-fault : goal.returns-in_err-text-clause-fault
returns-in_err-text-clause-fault g c =
    let w = g.B.TermBank.store c.args.bank.now in
    if_err_at c.from_residual.result (StopsUnwritten w w) _ c.from_residual.ensures.1
    (unwritten_reading w w c.in_err-text.field-0.0 c.in_err-text.ensures.fault)
