use Rattle.std.proofs.Common.{ap, refl, sym, ◌∙◌}
use Rattle.std.specs.Prelude.{◌||◌}
use Rattle.rec_trace_run.specs.Inner.Due.{job_traces}
use Rattle.rec_trace_run.specs.Traces.{IsTraceDueFor, lines_shown, shown_by}
use Rattle.rx_run.proofs.ErrorLemmas.{on_ok_any}
use Rattle.rx_run.proofs.FaultLemmas.{reports_unwritten}
use Rattle.rec_run.proofs.RunEndLemmas.{breaks_run, concludes_run}
use Rattle.rec_run.proofs.ToldLemmas.{limits-by, lines-by}
use Rattle.rx_run.proofs.WholeRunLemmas.{breaks_unwritten}
use Rattle.rec_run.proofs.GivenDueLemmas.{refused_map}
use Rattle.rec_run.proofs.ReadsLemmas.{reads_over}
use Rattle.rx_run.proofs.ReportLemmas.{unwritten_no_write}
use Rattle.rec_trace_run.proofs.PageLemmas.{unwritten-full}
use Rattle.rec_trace_run.proofs.DueLemmas.{due_read, one_trace_due_for}
use Rattle.rec_trace_run.proofs.runs.given_over.Goals as goal

pub answer-requires-clause-unrooted : goal.answer-requires-clause-unrooted
answer-requires-clause-unrooted g c = λ t. ap (λ roots. roots t) c.read_given_from.ensures.roots ∙ c.requires.unrooted t

pub returns-in-Ok-clause-ends : goal.returns-in-Ok-clause-ends
returns-in-Ok-clause-ends g c =
    let shown = shown_by c.args.setup.options in
    let n = c.args.setup.options.run.steps in
    let w = g.B.TermBank.store c.read_given_from.new.bank in
    let r = c.in-Ok.reading in
    concludes_run (IsTraceDueFor shown n) (job_traces w shown n) _ r c.answer.result.end _ _ (due_read w shown n _ r c.in-Ok.ensures.read)
    c.answer.ensures.ends c.answer.ensures.ok

pub returns-in-Ok-clause-fault : goal.returns-in-Ok-clause-fault
returns-in-Ok-clause-fault g c =
    let shown = shown_by c.args.setup.options in
    let n = c.args.setup.options.run.steps in
    let w = g.B.TermBank.store c.read_given_from.new.bank in
    let r = c.in-Ok.reading in
    breaks_run (IsTraceDueFor shown n) (job_traces w shown n) (one_trace_due_for shown n) _ r c.answer.result.end _ _
    (due_read w shown n _ r c.in-Ok.ensures.read) c.answer.ensures.err

pub returns-in-Ok-clause-cells : goal.returns-in-Ok-clause-cells
returns-in-Ok-clause-cells g c = refused_map _ c.answer.ensures.cells c.in-Ok.ensures.refused

pub returns-in-Ok-clause-spec_read : goal.returns-in-Ok-clause-spec_read
returns-in-Ok-clause-spec_read g c = on_ok_any c.answer.result.end c.in-Ok.ensures.out

pub returns-in-Ok-clause-terms_read : goal.returns-in-Ok-clause-terms_read
returns-in-Ok-clause-terms_read g c = on_ok_any c.answer.result.end c.in-Ok.ensures.terms_out

pub returns-in-Err-clause-fault : goal.returns-in-Err-clause-fault
returns-in-Err-clause-fault g c =
    let old = g.B.TermBank.store c.args.bank in
    let new = g.B.TermBank.store c.read_given_from.new.bank in
    breaks_unwritten (IsTraceDueFor (shown_by c.args.setup.options) c.args.setup.options.run.steps) _ c.in-Err.fault _
    (reports_unwritten old new c.in-Err.fault c.in-Err.ensures.fault)

pub returns-in-Err-clause-cells : goal.returns-in-Err-clause-cells
returns-in-Err-clause-cells g c = c.in-Err.ensures.refused

pub returns-in-Ok-clause-reads : goal.returns-in-Ok-clause-reads
returns-in-Ok-clause-reads g c = reads_over c.args.spec.now c.read_given_from.new.spec _ _ c.answer.result.end c.in-Ok.ensures.reads
    c.answer.ensures.reports.1

pub returns-in-Err-clause-reports : goal.returns-in-Err-clause-reports
returns-in-Err-clause-reports g c =
    let old = g.B.TermBank.store c.args.bank in
    let new = g.B.TermBank.store c.read_given_from.new.bank in
    (refl, ap (λ b. b || c.args.out.now.refused) (sym (unwritten_no_write old new c.in-Err.fault c.in-Err.ensures.fault)))

pub returns-in-Ok-clause-lines : goal.returns-in-Ok-clause-lines
returns-in-Ok-clause-lines g c = lines-by c.answer.result.end (g.B.TermBank.store c.read_given_from.new.bank)
    (lines_shown (shown_by c.args.setup.options)) c.args.setup.options.run.steps _ c.in-Ok.reading c.in-Ok.ensures.read c.answer.ensures.counts

pub returns-in-Ok-clause-limits : goal.returns-in-Ok-clause-limits
returns-in-Ok-clause-limits g c = limits-by c.answer.result.end (g.B.TermBank.store c.read_given_from.new.bank)
    (lines_shown (shown_by c.args.setup.options)) c.args.setup.options.run.steps _ c.in-Ok.reading c.in-Ok.ensures.read c.answer.ensures.counts

pub returns-in-Err-clause-room : goal.returns-in-Err-clause-room
returns-in-Err-clause-room g c =
    unwritten-full (g.B.TermBank.store c.args.bank) (g.B.TermBank.store c.read_given_from.new.bank) c.in-Err.fault c.in-Err.ensures.fault
