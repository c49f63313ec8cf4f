use Rattle.std.proofs.Common.{◌++◌, IfErr, ap, subst, sym, ◌∙◌}
use Rattle.rec_syntax.specs.Syntax.{Spec}
use Rattle.rx_run.proofs.ErrorLemmas.{on_ok_of}
use Rattle.rec_run.specs.Reports.{report_of}
use Rattle.std.proofs.lemmas.Result.{IfErr-weaker, IfOk-weaker}
use Rattle.rec_run.specs.GivenTerms.{given_by}
use Rattle.rec_run.specs.EvaluatedLines.{ProtectsTerms}
use Rattle.rec_run.specs.Output.{counts_of, lines, shown_of}
use Rattle.rec_run.specs.Run.{RoomExhausts}
use Rattle.rec_run.proofs.DepthLemmas.{bounded_by}
use Rattle.rec_run.proofs.EvaluatedLemmas.{stops_unwritten}
use Rattle.rec_run.proofs.FaultLemmas.{lacks_exhausts}
use Rattle.rec_run.proofs.spec.evaluated.write_ready.Goals as goal

pub returns-in-Err-clause-err : goal.returns-in-Err-clause-err
returns-in-Err-clause-err g c =
    stops_unwritten (lines c.args.job.checked.spec (given_by (g.B.TermBank.store c.args.bank) c.args.job.list) (shown_of c.args.run.settings)
    c.args.run.settings.options.steps) (g.W.Write.contents c.args.out.now.writer.now)

pub observe_lines-written-requires-clause-protected : goal.observe_lines-written-requires-clause-protected
observe_lines-written-requires-clause-protected g c =
    λ list e. subst (λ y. ProtectsTerms y (g.B.TermBank.store c.in-Ok.engine.bank) list) (sym c.in-Ok.ensures.spec) (c.in-Ok.ensures.protected list e)

pub returns-in-Ok-clause-room : goal.returns-in-Ok-clause-room
returns-in-Ok-clause-room g c =
    let e = c.observe_lines-written.new.engine in
    let written = c.observe_lines-written.result in
    let parts = c.into_parts-bank.result in
    subst (λ b. IfErr written (RoomExhausts (g.B.TermBank.store b) parts.1.items)) (sym c.into_parts-bank.ensures.bank)
    (subst (λ xs. IfErr written (RoomExhausts (g.B.TermBank.store e.bank) xs)) (sym c.into_parts-bank.ensures.work)
    (IfErr-weaker written _ _ (lacks_exhausts (g.B.TermBank.store e.bank) e.work e.memo) c.observe_lines-written.ensures.room))

pub returns-in-Ok-clause-cap : goal.returns-in-Ok-clause-cap
returns-in-Ok-clause-cap g c = ap (λ b. (g.B.TermBank.store b).cap) c.into_parts-bank.ensures.bank ∙ c.observe_lines-written.ensures.keeps.beside.cap
    ∙ c.in-Ok.ensures.cap

pub returns-in-Ok-clause-bounded : goal.returns-in-Ok-clause-bounded
returns-in-Ok-clause-bounded g c = bounded_by c.observe_lines-written.new.engine.waiting c.args.run.settings.depth c.observe_lines-written.result
    c.observe_lines-written.ensures.deep

pub observe_lines-written-requires-clause-ready : goal.observe_lines-written-requires-clause-ready
observe_lines-written-requires-clause-ready g c = (
  c.args.job.checked.source,
  subst (λ (y : Spec). g.S.Reporter.is_ready c.args.observer.now.reporter c.args.job.checked.source y) (sym c.in-Ok.ensures.spec) c.requires.ready,
)

pub returns-in-Ok-clause-told : goal.returns-in-Ok-clause-told
returns-in-Ok-clause-told g c =
    let source = c.args.job.checked.source in
    let y = c.args.job.checked.spec in
    let n = c.args.run.settings.options.steps in
    let old = g.S.Reporter.told c.args.observer.now.reporter in
    let says = g.S.Reporter.says in
    on_ok_of c.observe_lines-written.result
    (λ h. h source (subst (λ (x : Spec). g.S.Reporter.is_ready c.args.observer.now.reporter source x) (sym c.in-Ok.ensures.spec) c.requires.ready)
    ∙ ap (λ x. old ++ report_of c.args.run.settings.terms says source x (given_by (g.B.TermBank.store c.in-Ok.engine.bank) c.args.job.list) n) c.in-Ok.ensures.spec
    ∙ ap (λ us. old ++ report_of c.args.run.settings.terms says source y us n) c.in-Ok.ensures.terms)
    c.observe_lines-written.ensures.told

pub returns-in-Ok-clause-counts : goal.returns-in-Ok-clause-counts
returns-in-Ok-clause-counts g c =
    let y = c.args.job.checked.spec in
    let n = c.args.run.settings.options.steps in
    IfOk-weaker c.observe_lines-written.result _ _
    (λ k h. h ∙ ap (λ x. counts_of c.args.run.settings.terms x (given_by (g.B.TermBank.store c.in-Ok.engine.bank) c.args.job.list)
    c.args.run.settings.form n) c.in-Ok.ensures.spec
    ∙ ap (λ us. counts_of c.args.run.settings.terms y us c.args.run.settings.form n) c.in-Ok.ensures.terms)
    c.observe_lines-written.ensures.counts
