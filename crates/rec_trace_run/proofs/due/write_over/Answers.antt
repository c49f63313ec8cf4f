use Rattle.std.proofs.Common.{◌≡◌, IfErr, rules, subst, sym}
use Rattle.std.proofs.lemmas.Result.{IfErr-weaker}
use Rattle.rx_run.proofs.ErrorLemmas.{on_ok_of}
use Rattle.rec_trace_run.specs.Inner.Pages.{FullIfRoom}
use Rattle.rec_trace_run.proofs.PageLemmas.{stops-first, trace-full, trace-output}
use Rattle.rec_trace_run.proofs.due.write_over.Goals as goal

pub returns-clause-ok : goal.returns-clause-ok
returns-clause-ok g c =
    let page = c.write_traces-end.ensures.reports.2 in
    let same : c.out-1.given.0 ≡ c.write_traces-end.new.page.out.now = search rules in
    rw same (on_ok_of c.write_traces-end.result (λ h source us is given. (h source us is given).written) c.write_traces-end.ensures.ok)

pub returns-clause-err : goal.returns-clause-err
returns-clause-err g c =
    let page = c.write_traces-end.ensures.reports.2 in
    let same : c.out-1.given.0 ≡ c.write_traces-end.new.page.out.now = search rules in
    rw same (IfErr-weaker c.write_traces-end.result _ _ (λ fault h source us is given. stops-first _ _ _ fault (h source us is given))
    c.write_traces-end.ensures.err)

pub returns-clause-room : goal.returns-clause-room
returns-clause-room g c =
    let e = c.write_traces-end.new.engine in
    let end = c.write_traces-end.result in
    subst (λ b. IfErr end (FullIfRoom (g.B.TermBank.store b))) (sym c.into_parts-bank.ensures.bank)
    (trace-full (g.B.TermBank.store e.bank) e.memo end c.write_traces-end.ensures.reports.1)

pub returns-clause-reports : goal.returns-clause-reports
returns-clause-reports g c =
    let e = c.write_traces-end.new.engine in
    let page = c.write_traces-end.ensures.reports.2 in
    let same : c.out-1.given.0 ≡ c.write_traces-end.new.page.out.now = search rules in
    rw same (trace-output (g.B.TermBank.store e.bank) e.memo c.args.out.now c.write_traces-end.new.page.out.now c.write_traces-end.result
    c.write_traces-end.ensures.reports.0 c.write_traces-end.ensures.reports.1)
