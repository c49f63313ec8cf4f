use Rattle.std.proofs.Common.{IfOk, ◌≡◌, subst}
use Rattle.rec_run.specs.Reports.{job_counts}
use Rattle.rec_run.specs.Run.{HasRoom}
use Rattle.rec_run.specs.declared.spec.due.RunReport.{RunReport}
use Rattle.rec_run.proofs.RunEndLemmas.{counts_behind, ends_behind, err_behind, fault_behind, ok_behind, reported, reports_behind}
use Rattle.rec_run.specs.declared.options.ValueForm.TheVariants.{Plain}
use Rattle.rec_trace_run.specs.Inner.Due.{trace_due}
use Rattle.rec_trace_run.specs.Inner.Pages.{FullIfRoom}
use Rattle.rec_trace_run.specs.Traces.{shown_by}
use Rattle.rec_trace_run.proofs.due.answer.Goals as goal

pub returns-clause-ends : goal.returns-clause-ends
returns-clause-ends g c =
    subst (λ f. IfOk c.end_run.result (λ (x : RunReport). x.ending ≡ f)) c.ending-ending.ensures
    (ends_behind _ _ _ c.write_due-written.result.end c.end_run.result c.end_run.ensures.ends)

pub returns-clause-counts : goal.returns-clause-counts
returns-clause-counts g c =
    counts_behind _ _ _ (λ k. k ≡ job_counts (g.B.TermBank.store c.args.bank) c.args.setup.options.terms Plain c.args.setup.options.run.steps c.args.reading)
    c.write_due-written.result.end c.end_run.result c.end_run.ensures.ends c.write_due-written.ensures.counts

pub returns-clause-ok : goal.returns-clause-ok
returns-clause-ok g c =
    let text = (trace_due (g.B.TermBank.store c.args.bank) (shown_by c.args.setup.options) c.args.setup.options.run.steps c.args.reading).text in
    ok_behind _ _ _ text _ c.write_due-written.result.end c.end_run.result c.end_run.ensures.ends c.write_due-written.ensures.ok

pub returns-clause-err : goal.returns-clause-err
returns-clause-err g c =
    let text = (trace_due (g.B.TermBank.store c.args.bank) (shown_by c.args.setup.options) c.args.setup.options.run.steps c.args.reading).text in
    err_behind _ _ _ text _ c.write_due-written.result.end c.end_run.result c.end_run.ensures.ends c.write_due-written.ensures.ok
    c.write_due-written.ensures.err

pub returns-clause-room : goal.returns-clause-room
returns-clause-room g c =
    let left = c.write_due-written.result in
    fault_behind _ _ _ (FullIfRoom (g.B.TermBank.store left.bank)) tt left.end c.end_run.result c.end_run.ensures.ends c.write_due-written.ensures.room

pub returns-clause-cells : goal.returns-clause-cells
returns-clause-cells g c = λ refused.
    fault_behind _ _ _ HasRoom tt c.write_due-written.result.end c.end_run.result c.end_run.ensures.ends (c.write_due-written.ensures.cells refused)

pub end_run-requires : goal.end_run-requires
end_run-requires g c = record { told = reported c.args.out.now c.write_due-written.new.out c.write_due-written.result.end c.write_due-written.ensures.reports }

pub returns-clause-reports : goal.returns-clause-reports
returns-clause-reports g c =
    reports_behind c.args.out.now c.write_due-written.new.out c.end_run.new.out _ _ _ c.write_due-written.result.end c.end_run.result c.end_run.ensures.ends
    c.write_due-written.ensures.reports c.end_run.ensures.reports
