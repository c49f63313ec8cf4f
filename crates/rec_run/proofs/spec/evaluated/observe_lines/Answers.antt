use Rattle.std.proofs.Common.{◌≡◌, ◌<◌, ◌++◌, ap, length, subst, sym, ◌∙◌}
use Rattle.rec_syntax.specs.Syntax.{Spec}
use Rattle.std.proofs.lemmas.Result.{IfOk-weaker}
use Rattle.rx_run.proofs.ErrorLemmas.{on_ok_of}
use Rattle.rec_run.specs.Output.{chosen, counts_of}
use Rattle.rec_run.specs.GivenTerms.{given_by}
use Rattle.rec_run.specs.Reports.{StaysReady, report_of}
use Rattle.rec_run.specs.EvaluatedLines.{ProtectsTerms}
use Rattle.rec_run.proofs.DepthLemmas.{depth-some}
use Rattle.rec_run.proofs.spec.evaluated.observe_lines.Goals as goal

pub write_lines-written-requires-clause-protected : goal.write_lines-written-requires-clause-protected
write_lines-written-requires-clause-protected g c = λ list is.
    let counted = c.begin.new.engine in
    subst (λ y. ProtectsTerms y (g.B.TermBank.store counted.bank) list) (sym c.begin.ensures.same.spec)
    (subst (λ b. ProtectsTerms c.args.engine.now.spec (g.B.TermBank.store b) list) (sym c.begin.ensures.bank) (c.requires.protected list is))

pub write_lines-written-requires-clause-ready : goal.write_lines-written-requires-clause-ready
write_lines-written-requires-clause-ready g c =
    (c.requires.ready.0, subst (λ (x : Spec). g.S.Reporter.is_ready c.args.observer.now.reporter c.requires.ready.0 x) (sym c.begin.ensures.same.spec) c.requires.ready.1)

pub returns-clause-ready : goal.returns-clause-ready
returns-clause-ready g c =
    subst (λ r. StaysReady g.S.Reporter.is_ready c.args.engine.now.spec c.args.observer.now.reporter r) (sym c.conclude.ensures)
    (subst (λ (x : Spec). StaysReady g.S.Reporter.is_ready x c.args.observer.now.reporter c.write_lines-written.new.observer.reporter)
    c.begin.ensures.same.spec c.write_lines-written.ensures.ready)

pub returns-clause-told : goal.returns-clause-told
returns-clause-told g c =
    let y = c.args.engine.now.spec in
    let n = c.args.run.settings.options.steps in
    let old = g.S.Reporter.told c.args.observer.now.reporter in
    let says = g.S.Reporter.says in
    on_ok_of c.write_lines-written.result
    (λ h source ready. ap (λ r. g.S.Reporter.told r) c.conclude.ensures
    ∙ h source (subst (λ (x : Spec). g.S.Reporter.is_ready c.args.observer.now.reporter source x) (sym c.begin.ensures.same.spec) ready)
    ∙ ap (λ x. old ++ report_of c.args.run.settings.terms says source x (given_by (g.B.TermBank.store c.begin.new.engine.bank) c.args.list) n) c.begin.ensures.same.spec
    ∙ ap (λ b. old ++ report_of c.args.run.settings.terms says source y (given_by (g.B.TermBank.store b) c.args.list) n) c.begin.ensures.bank)
    c.write_lines-written.ensures.told

pub returns-clause-counts : goal.returns-clause-counts
returns-clause-counts g c =
    let y = c.args.engine.now.spec in
    let n = c.args.run.settings.options.steps in
    IfOk-weaker c.write_lines-written.result _ _
    (λ k h. h ∙ ap (λ x. counts_of c.args.run.settings.terms x (given_by (g.B.TermBank.store c.begin.new.engine.bank) c.args.list)
    c.args.run.settings.form n) c.begin.ensures.same.spec
    ∙ ap (λ b. counts_of c.args.run.settings.terms y (given_by (g.B.TermBank.store b) c.args.list) c.args.run.settings.form n) c.begin.ensures.bank)
    c.write_lines-written.ensures.counts

pub returns-clause-bound : goal.returns-clause-bound
returns-clause-bound g c =
    let y = c.args.engine.now.spec in
    let w = g.B.TermBank.store c.args.engine.now.bank in
    let begun = c.begin.new.engine in
    let new = c.write_lines-written.new.engine in
    let terms = c.args.run.settings.terms in
    let count : length (chosen terms begun.spec (given_by (g.B.TermBank.store begun.bank) c.args.list)) ≡ length (chosen terms y (given_by w c.args.list)) =
    ap (λ (x : Spec). length (chosen terms x (given_by (g.B.TermBank.store begun.bank) c.args.list))) c.begin.ensures.same.spec
    ∙ ap (λ b. length (chosen terms y (given_by (g.B.TermBank.store b) c.args.list))) c.begin.ensures.bank in
    on_ok_of c.write_lines-written.result
    (λ h some. depth-some _ c.args.run.settings.depth begun new h (subst (λ k. 0 < k) (sym count) some)) c.write_lines-written.ensures.bound
