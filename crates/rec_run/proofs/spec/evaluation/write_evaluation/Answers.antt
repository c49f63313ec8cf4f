use Rattle.std.proofs.Common.{ap, is_some, refl, subst, sym, ◌∙◌}
use Rattle.std.specs.Prelude.{IfErr, OnOk, ◌++◌, codes}
use Rattle.std.specs.Io.KnownBytes.{Appends}
use Rattle.rx_text.specs.Written.{AppendsFront}
use Rattle.rec_run.specs.EvaluatedLines.{due_before}
use Rattle.rec_run.proofs.DepthLemmas.{gave_up-deep, gave_up-reports, gave_up-room, line-deep, line-room}
use Rattle.rec_run.proofs.EvaluatedLemmas.{answered-line, front_none, there_for}
use Rattle.std.proofs.lemmas.Result.{IfOk-weaker}
use Rattle.rec_run.proofs.LimitLineLemmas.{limit-given}
use Rattle.rec_run.proofs.ReportLemmas.{told-given}
use Rattle.rx_run.proofs.ErrorLemmas.{on_ok_of}
use Rattle.rec_syntax.specs.Syntax.{Spec}
use Rattle.rec_run.specs.Reports.{StaysReady}
use Rattle.rec_run.proofs.spec.evaluation.write_evaluation.Goals as goal

pub tell_outcome-requires-clause-there : goal.tell_outcome-requires-clause-there
tell_outcome-requires-clause-there g c =
    there_for g.B.TermBank.store c.args.run.settings.limits (g.B.TermBank.store c.args.engine.now.bank) _ _ c.args.t refl c.requires.stays
    c.in-Ok.ensures.keeps (ap is_some c.requires.given.held)

pub returns-in-Ok-clause-ok : goal.returns-in-Ok-clause-ok
returns-in-Ok-clause-ok g c =
    let old = g.B.TermBank.store c.args.engine.now.bank in
    let s = c.args.run.settings in
    let e = answered-line _ _ old (g.B.TermBank.store c.normalise_with.new.self.bank) s c.args.t c.in-Ok.outcome c.requires.given c.in-Ok.ensures.same.spec c.in-Ok.ensures.outcome c.requires.stays c.in-Ok.ensures.keeps in
    subst (λ text. OnOk c.tell_outcome.result (Appends (g.W.Write.contents c.args.out.now.writer.now)
    (g.W.Write.contents c.tell_outcome.new.out.writer.now) (text ++ codes "\n"))) e c.tell_outcome.ensures.ok

pub returns-in-Ok-clause-err : goal.returns-in-Ok-clause-err
returns-in-Ok-clause-err g c =
    let old = g.B.TermBank.store c.args.engine.now.bank in
    let s = c.args.run.settings in
    let e = answered-line _ _ old (g.B.TermBank.store c.normalise_with.new.self.bank) s c.args.t c.in-Ok.outcome c.requires.given c.in-Ok.ensures.same.spec c.in-Ok.ensures.outcome c.requires.stays c.in-Ok.ensures.keeps in
    subst (λ text. IfErr c.tell_outcome.result (λ fault. AppendsFront (due_before fault text) (g.W.Write.contents c.args.out.now.writer.now)
    (g.W.Write.contents c.tell_outcome.new.out.writer.now))) e c.tell_outcome.ensures.err

pub returns-in-Ok-clause-room : goal.returns-in-Ok-clause-room
returns-in-Ok-clause-room g c =
    let e = c.normalise_with.new.self in
    line-room (g.B.TermBank.store e.bank) e.work e.memo c.tell_outcome.result c.tell_outcome.ensures.room

pub returns-in-Ok-clause-deep : goal.returns-in-Ok-clause-deep
returns-in-Ok-clause-deep g c = line-deep c.normalise_with.new.self.waiting c.args.run.settings.depth c.tell_outcome.result c.tell_outcome.ensures.room

pub returns-in-Err-clause-room : goal.returns-in-Err-clause-room
returns-in-Err-clause-room g c =
    let e = c.normalise_with.new.self in
    gave_up-room c.in-Err.fault 0 c.engine_fault.result c.engine_fault.ensures (g.B.TermBank.store e.bank) e.work e.memo c.args.run.settings.depth e.waiting c.in-Err.ensures.fault

pub returns-in-Err-clause-deep : goal.returns-in-Err-clause-deep
returns-in-Err-clause-deep g c =
    let e = c.normalise_with.new.self in
    gave_up-deep c.in-Err.fault 0 c.engine_fault.result c.engine_fault.ensures (g.B.TermBank.store e.bank) e.work e.memo c.args.run.settings.depth e.waiting c.in-Err.ensures.fault

pub returns-in-Err-clause-reports : goal.returns-in-Err-clause-reports
returns-in-Err-clause-reports g c = gave_up-reports c.in-Err.fault 0 c.engine_fault.result c.engine_fault.ensures c.args.out.now

pub tell_outcome-requires-clause-ready : goal.tell_outcome-requires-clause-ready
tell_outcome-requires-clause-ready g c =
    (c.requires.ready.0, subst (λ (x : Spec). g.S.Reporter.is_ready c.args.observer.now.reporter c.requires.ready.0 x) (sym c.in-Ok.ensures.same.spec) c.requires.ready.1)

pub returns-in-Ok-clause-ready : goal.returns-in-Ok-clause-ready
returns-in-Ok-clause-ready g c =
    subst (λ (x : Spec). StaysReady g.S.Reporter.is_ready x c.args.observer.now.reporter c.tell_outcome.new.reporter) c.in-Ok.ensures.same.spec c.tell_outcome.ensures.ready

pub returns-in-Ok-clause-told : goal.returns-in-Ok-clause-told
returns-in-Ok-clause-told g c =
    let y = c.args.engine.now.spec in
    let z = c.normalise_with.new.self.spec in
    let old = g.B.TermBank.store c.args.engine.now.bank in
    let new = g.B.TermBank.store c.normalise_with.new.self.bank in
    let n = c.args.run.settings.options.steps in
    on_ok_of c.tell_outcome.result
    (λ h source ready. h source (subst (λ (x : Spec). g.S.Reporter.is_ready c.args.observer.now.reporter source x) (sym c.in-Ok.ensures.same.spec) ready)
    ∙ ap (λ t. g.S.Reporter.told c.args.observer.now.reporter ++ t) (told-given g.S.Reporter.says source y z old new n c.args.t c.in-Ok.outcome c.requires.given
    c.in-Ok.ensures.same.spec c.in-Ok.ensures.outcome))
    c.tell_outcome.ensures.told

pub returns-in-Ok-clause-limit : goal.returns-in-Ok-clause-limit
returns-in-Ok-clause-limit g c =
    let y = c.args.engine.now.spec in
    let z = c.normalise_with.new.self.spec in
    let old = g.B.TermBank.store c.args.engine.now.bank in
    let new = g.B.TermBank.store c.normalise_with.new.self.bank in
    let n = c.args.run.settings.options.steps in
    IfOk-weaker c.tell_outcome.result _ _
    (λ limited h. h ∙ limit-given y z old new c.args.run.settings.form n c.args.t c.in-Ok.outcome c.requires.given c.in-Ok.ensures.same.spec c.in-Ok.ensures.outcome)
    c.tell_outcome.ensures.limit

pub returns-in-Err-clause-err : goal.returns-in-Err-clause-err
returns-in-Err-clause-err g c = front_none (g.W.Write.contents c.args.out.now.writer.now) _
