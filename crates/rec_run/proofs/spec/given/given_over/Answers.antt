use Rattle.std.proofs.Common.{ap, refl, sym, ◌∙◌}
use Rattle.std.specs.Prelude.{◌||◌}
use Rattle.std.proofs.lemmas.Result.{IfErr-weaker}
use Rattle.rec_run.specs.Output.{shown_of}
use Rattle.rec_run.specs.GivenTerms.{job_lines}
use Rattle.rec_run.specs.Run.{IsDueFor}
use Rattle.rx_run.proofs.ErrorLemmas.{on_ok_any}
use Rattle.rx_run.proofs.FaultLemmas.{not_deep_unwritten, reports_unwritten, room_unwritten}
use Rattle.rec_run.proofs.DepthLemmas.{bounded_any}
use Rattle.rec_run.proofs.FaultLemmas.{exhausts_in, fills_in}
use Rattle.rec_run.proofs.GivenDueLemmas.{due_read, refused_map, refused_map₂}
use Rattle.rec_run.proofs.RunEndLemmas.{breaks_run, concludes_run}
use Rattle.rec_run.proofs.ToldLemmas.{limits-by, lines-by, tells-by}
use Rattle.rx_run.proofs.WholeRunLemmas.{breaks_unwritten}
use Rattle.rec_run.proofs.WholeRunLemmas.{due_for, one_due_for}
use Rattle.rec_run.proofs.ReadsLemmas.{reads_over}
use Rattle.rx_run.proofs.ReportLemmas.{unwritten_no_write}
use Rattle.rec_run.proofs.spec.given.given_over.Goals as goal

pub answer-requires-clause-unrooted : goal.answer-requires-clause-unrooted
answer-requires-clause-unrooted g c = λ t. ap (λ roots. roots t) c.read_given_from.ensures.roots ∙ c.requires.unrooted t

pub returns-in-Ok-clause-ends : goal.returns-in-Ok-clause-ends
returns-in-Ok-clause-ends g c =
    let shown = shown_of c.args.settings in
    let n = c.args.settings.options.steps in
    let w = g.B.TermBank.store c.read_given_from.new.bank in
    let r = c.in-Ok.reading in
    concludes_run (IsDueFor shown n) (job_lines w shown n) _ r c.answer.result.end _ _ (due_for w shown n _ r (due_read shown.input w _ r c.in-Ok.ensures.read))
    c.answer.ensures.ends c.answer.ensures.ok

pub returns-in-Ok-clause-fault : goal.returns-in-Ok-clause-fault
returns-in-Ok-clause-fault g c =
    let shown = shown_of c.args.settings in
    let n = c.args.settings.options.steps in
    let w = g.B.TermBank.store c.read_given_from.new.bank in
    let r = c.in-Ok.reading in
    breaks_run (IsDueFor shown n) (job_lines w shown n) (one_due_for shown n) _ r c.answer.result.end _ _
    (due_for w shown n _ r (due_read shown.input w _ r c.in-Ok.ensures.read)) c.answer.ensures.err

pub returns-in-Ok-clause-cells : goal.returns-in-Ok-clause-cells
returns-in-Ok-clause-cells g c = refused_map _ c.answer.ensures.cells c.in-Ok.ensures.refused

pub returns-in-Ok-clause-spec_read : goal.returns-in-Ok-clause-spec_read
returns-in-Ok-clause-spec_read g c = on_ok_any c.answer.result.end c.in-Ok.ensures.out

pub returns-in-Ok-clause-terms_read : goal.returns-in-Ok-clause-terms_read
returns-in-Ok-clause-terms_read g c = on_ok_any c.answer.result.end c.in-Ok.ensures.terms_out

pub returns-in-Ok-clause-room : goal.returns-in-Ok-clause-room
returns-in-Ok-clause-room g c =
    let ended = c.answer.result in
    IfErr-weaker ended.end _ _ (exhausts_in (g.B.TermBank.store c.args.bank) (g.B.TermBank.store ended.bank) ended.needed.items)
    c.answer.ensures.room

pub returns-in-Ok-clause-unused : goal.returns-in-Ok-clause-unused
returns-in-Ok-clause-unused g c = refused_map₂ _ (λ refused same. c.answer.ensures.unused refused ∙ same) c.in-Ok.ensures.refused c.in-Ok.ensures.unused

pub returns-in-Err-clause-fault : goal.returns-in-Err-clause-fault
returns-in-Err-clause-fault g c =
    let old = g.B.TermBank.store c.args.bank in
    let new = g.B.TermBank.store c.read_given_from.new.bank in
    breaks_unwritten (IsDueFor (shown_of c.args.settings) c.args.settings.options.steps) _ c.in-Err.fault _
    (reports_unwritten old new c.in-Err.fault c.in-Err.ensures.fault)

pub returns-in-Err-clause-room : goal.returns-in-Err-clause-room
returns-in-Err-clause-room g c =
    let old = g.B.TermBank.store c.args.bank in
    let new = g.B.TermBank.store c.read_given_from.new.bank in
    fills_in old new _ c.in-Err.fault (room_unwritten old new c.in-Err.fault c.in-Err.ensures.fault) c.new.ensures.items

pub returns-in-Ok-clause-reads : goal.returns-in-Ok-clause-reads
returns-in-Ok-clause-reads g c = reads_over c.args.spec.now c.read_given_from.new.spec _ _ c.answer.result.end
    c.in-Ok.ensures.reads c.answer.ensures.reports.1

pub returns-in-Ok-clause-told : goal.returns-in-Ok-clause-told
returns-in-Ok-clause-told g c = tells-by (shown_of c.args.settings) g.S.Reporter.says c.answer.result.end (g.B.TermBank.store c.read_given_from.new.bank)
    c.args.settings.options.steps _ c.in-Ok.reading (g.S.Reporter.told c.args.observer.now.reporter) (g.S.Reporter.told c.answer.new.observer.reporter)
    c.in-Ok.ensures.read c.answer.ensures.told

pub returns-in-Ok-clause-lines : goal.returns-in-Ok-clause-lines
returns-in-Ok-clause-lines g c = lines-by c.answer.result.end (g.B.TermBank.store c.read_given_from.new.bank) (shown_of c.args.settings)
    c.args.settings.options.steps _ c.in-Ok.reading c.in-Ok.ensures.read c.answer.ensures.counts

pub returns-in-Ok-clause-limits : goal.returns-in-Ok-clause-limits
returns-in-Ok-clause-limits g c = limits-by c.answer.result.end (g.B.TermBank.store c.read_given_from.new.bank) (shown_of c.args.settings)
    c.args.settings.options.steps _ c.in-Ok.reading c.in-Ok.ensures.read c.answer.ensures.counts

pub returns-in-Err-clause-bounded : goal.returns-in-Err-clause-bounded
returns-in-Err-clause-bounded g c =
    let old = g.B.TermBank.store c.args.bank in
    let new = g.B.TermBank.store c.read_given_from.new.bank in
    bounded_any c.args.settings.depth c.in-Err.fault (not_deep_unwritten old new c.in-Err.fault c.in-Err.ensures.fault)

pub returns-in-Err-clause-reports : goal.returns-in-Err-clause-reports
returns-in-Err-clause-reports g c =
    let old = g.B.TermBank.store c.args.bank in
    let new = g.B.TermBank.store c.read_given_from.new.bank in
    (refl, ap (λ b. b || c.args.out.now.refused) (sym (unwritten_no_write old new c.in-Err.fault c.in-Err.ensures.fault)))
