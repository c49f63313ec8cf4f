use Rattle.std.proofs.Common.{◌++◌, IfErr, OnOk, ap, subst, sym, ◌∙◌}
use Rattle.std.specs.Prelude.{codes}
use Rattle.std.specs.Io.KnownBytes.{Appends}
use Rattle.rx_term.proofs.KeepLemmas.{Keeps-trans}
use Rattle.rx_text.specs.Written.{AppendsFront}
use Rattle.rec_run.specs.EvaluatedLines.{due_before}
use Rattle.rec_run.specs.Output.{own_shown, shown_of}
use Rattle.rec_run.proofs.EvaluatedLemmas.{own-line}
use Rattle.rec_syntax.specs.Syntax.{Spec}
use Rattle.rx_run.proofs.ErrorLemmas.{on_ok_any, on_ok_of}
use Rattle.std.proofs.lemmas.Result.{IfOk-weaker}
use Rattle.rec_run.proofs.DepthLemmas.{gave_up-reports, own-deep}
use Rattle.rec_run.proofs.LimitLineLemmas.{limit-own}
use Rattle.rec_run.proofs.ReportLemmas.{told-own}
use Rattle.rec_run.specs.Reports.{StaysReady}
use Rattle.rec_run.proofs.spec.lines.write_own_line.Goals as goal

pub returns-in-Ok-clause-keeps : goal.returns-in-Ok-clause-keeps
returns-in-Ok-clause-keeps g c = Keeps-trans c.in-Ok.ensures.keeps c.write_evaluation.ensures.keeps

pub returns-in-Ok-clause-ok : goal.returns-in-Ok-clause-ok
returns-in-Ok-clause-ok g c =
    let e = own-line _ _ (g.B.TermBank.store c.eval_term.new.self.bank) (own_shown (shown_of c.args.run.settings)) c.args.run.settings.options.steps c.args.i
    c.in-Ok.term c.in-Ok.ensures.same.spec c.requires.there c.in-Ok.ensures.term in
    subst (λ text. OnOk c.write_evaluation.result (Appends (g.W.Write.contents c.args.out.now.writer.now)
    (g.W.Write.contents c.write_evaluation.new.out.writer.now) (text ++ codes "\n"))) e c.write_evaluation.ensures.ok

pub returns-in-Ok-clause-err : goal.returns-in-Ok-clause-err
returns-in-Ok-clause-err g c =
    let e = own-line _ _ (g.B.TermBank.store c.eval_term.new.self.bank) (own_shown (shown_of c.args.run.settings)) c.args.run.settings.options.steps c.args.i
    c.in-Ok.term c.in-Ok.ensures.same.spec c.requires.there c.in-Ok.ensures.term in
    subst (λ text. IfErr c.write_evaluation.result (λ fault.
    AppendsFront (due_before fault text) (g.W.Write.contents c.args.out.now.writer.now)
    (g.W.Write.contents c.write_evaluation.new.out.writer.now))) e c.write_evaluation.ensures.err

pub write_evaluation-requires-clause-ready : goal.write_evaluation-requires-clause-ready
write_evaluation-requires-clause-ready g c =
    (c.requires.ready.0, subst (λ (x : Spec). g.S.Reporter.is_ready c.args.observer.now.reporter c.requires.ready.0 x) (sym c.in-Ok.ensures.same.spec) c.requires.ready.1)

pub returns-in-Ok-clause-ready : goal.returns-in-Ok-clause-ready
returns-in-Ok-clause-ready g c =
    subst (λ (x : Spec). StaysReady g.S.Reporter.is_ready x c.args.observer.now.reporter c.write_evaluation.new.observer.reporter) c.in-Ok.ensures.same.spec c.write_evaluation.ensures.ready

pub returns-in-Ok-clause-told : goal.returns-in-Ok-clause-told
returns-in-Ok-clause-told g c =
    let y = c.args.engine.now.spec in
    let z = c.eval_term.new.self.spec in
    let w = g.B.TermBank.store c.eval_term.new.self.bank in
    on_ok_of c.write_evaluation.result
    (λ h source ready. h source (subst (λ (x : Spec). g.S.Reporter.is_ready c.args.observer.now.reporter source x) (sym c.in-Ok.ensures.same.spec) ready)
    ∙ ap (λ t. g.S.Reporter.told c.args.observer.now.reporter ++ t) (told-own g.S.Reporter.says source y z w c.args.run.settings.options.steps c.args.i c.in-Ok.term
    c.in-Ok.ensures.same.spec c.requires.there c.in-Ok.ensures.term))
    c.write_evaluation.ensures.told

pub returns-in-Err-clause-deep : goal.returns-in-Err-clause-deep
returns-in-Err-clause-deep g c =
    let e = c.eval_term.new.self in
    own-deep c.in-Err.fault 0 c.engine_fault.result c.engine_fault.ensures (g.B.TermBank.store e.bank) e.work e.memo e.waiting c.args.run.settings.depth c.in-Err.ensures.needed

pub returns-in-Ok-clause-limit : goal.returns-in-Ok-clause-limit
returns-in-Ok-clause-limit g c =
    let y = c.args.engine.now.spec in
    let z = c.eval_term.new.self.spec in
    let w = g.B.TermBank.store c.eval_term.new.self.bank in
    IfOk-weaker c.write_evaluation.result _ _
    (λ limited h. h ∙ limit-own y z w c.args.run.settings.form c.args.run.settings.options.steps c.args.i c.in-Ok.term c.in-Ok.ensures.same.spec c.requires.there c.in-Ok.ensures.term)
    c.write_evaluation.ensures.limit

pub returns-in-Err-clause-reports : goal.returns-in-Err-clause-reports
returns-in-Err-clause-reports g c = gave_up-reports c.in-Err.fault 0 c.engine_fault.result c.engine_fault.ensures c.args.out.now

pub returns-in-Ok-clause-bound : goal.returns-in-Ok-clause-bound
returns-in-Ok-clause-bound g c = on_ok_any c.write_evaluation.result c.write_evaluation.ensures.bound
