use Rattle.std.proofs.Common.{refl}
use Rattle.rec_run.proofs.GivenDueLemmas.{on_refused, read_fault_refused, read_with, refused_any, terms_out}
use Rattle.rx_run.specs.Run.{StopsUnwritten}
use Rattle.rx_run.proofs.ErrorLemmas.{if_err_at}
use Rattle.rx_run.proofs.FaultLemmas.{unwritten_reading}
use Rattle.rec_run.proofs.ReadsLemmas.{reads_first, reads_second}
use Rattle.rec_run.proofs.spec.reading.read_given_from.Goals as goal

pub returns-clause-read : goal.returns-clause-read
returns-clause-read g c = read_with c.args.form (g.B.TermBank.store c.read_after.new.bank) c.read_after.result _ _ c.in_ok-first.first
    c.in_ok-first.ensures.verdict c.in_ok-first.ensures.source c.read_after.ensures.read

pub returns-clause-terms_out : goal.returns-clause-terms_out
returns-clause-terms_out g c = terms_out _ c.read_after.result _ c.in_ok-first.first c.in_ok-first.ensures.verdict c.read_after.ensures.out

pub returns-clause-unread : goal.returns-clause-unread
returns-clause-unread g c = on_refused _ _ c.in_ok-first.first c.in_ok-first.ensures.verdict c.read_after.ensures.unread

pub returns-clause-unused : goal.returns-clause-unused
returns-clause-unused g c = on_refused _ _ c.in_ok-first.first c.in_ok-first.ensures.verdict c.read_after.ensures.unused

pub returns-clause-refused : goal.returns-clause-refused
returns-clause-refused g c = on_refused _ _ c.in_ok-first.first c.in_ok-first.ensures.verdict c.read_after.ensures.refused

pub returns-in_err-first-clause-refused : goal.returns-in_err-first-clause-refused
returns-in_err-first-clause-refused g c = refused_any _ (read_fault_refused c.from_residual.result c.in_err-first.field-0.0 c.from_residual.ensures.1
    c.in_err-first.ensures.fault)

pub returns-clause-reads : goal.returns-clause-reads
returns-clause-reads g c = reads_second c.args.spec.now c.read_spec_text_from.new.spec _ _ c.read_after.result c.in_ok-first.ensures.reports.1
    c.read_after.ensures.reports

pub returns-in_err-first-clause-reads : goal.returns-in_err-first-clause-reads
returns-in_err-first-clause-reads g c = reads_first c.args.spec.now c.read_spec_text_from.new.spec _ _ c.from_residual.result c.in_err-first.field-0.0
    c.from_residual.ensures.1 c.in_err-first.ensures.reports.1 refl

pub returns-in_err-first-clause-fault : goal.returns-in_err-first-clause-fault
returns-in_err-first-clause-fault g c =
    let w = g.B.TermBank.store c.args.bank.now in
    if_err_at c.from_residual.result (StopsUnwritten w w) _ c.from_residual.ensures.1
    (unwritten_reading w w c.in_err-first.field-0.0 c.in_err-first.ensures.fault)
