use Rattle.std.proofs.Common.{◌≡◌, ◌++◌, ◌∙◌, ap, append-nil, subst, sym}
use Rattle.rx_run.proofs.ErrorLemmas.{on_ok_any}
use Rattle.rx_run.specs.declared.refusal.Reading.{Reading}
use Rattle.rec_run.specs.Reports.{job_counts, job_report}
use Rattle.rec_run.specs.declared.spec.reading.Job.{Job}
use Rattle.std.proofs.lemmas.Result.{IfErr-weaker, IfOk-weaker}
use Rattle.rec_run.specs.GivenTerms.{IsRefused}
use Rattle.rec_run.proofs.DepthLemmas.{write-within}
use Rattle.rec_run.proofs.FaultLemmas.{has_room_exhausts}
use Rattle.rec_run.proofs.spec.due.write_due.Goals as goal

pub returns-in-Refused-clause-room : goal.returns-in-Refused-clause-room
returns-in-Refused-clause-room g c =
    IfErr-weaker c.refuse.result _ _ (λ f e. has_room_exhausts _ _ f (write-within c.args.run.settings.depth f e).0) c.refuse.ensures.write

pub returns-in-Refused-clause-cells : goal.returns-in-Refused-clause-cells
returns-in-Refused-clause-cells g c = λ refused. IfErr-weaker c.refuse.result _ _ (λ f e. (write-within c.args.run.settings.depth f e).0) c.refuse.ensures.write

pub returns-in-Refused-clause-bounded : goal.returns-in-Refused-clause-bounded
returns-in-Refused-clause-bounded g c = IfErr-weaker c.refuse.result _ _ (λ f e. (write-within c.args.run.settings.depth f e).1) c.refuse.ensures.write

pub returns-in-Good-clause-unused : goal.returns-in-Good-clause-unused
returns-in-Good-clause-unused g c = λ refused. absurd (subst IsRefused c.in-Good.is refused)

pub returns-in-Good-clause-cells : goal.returns-in-Good-clause-cells
returns-in-Good-clause-cells g c = λ refused. absurd (subst IsRefused c.in-Good.is refused)

pub returns-in-Refused-clause-told : goal.returns-in-Refused-clause-told
returns-in-Refused-clause-told g c =
    let old = g.S.Reporter.told c.args.observer.now.reporter in
    on_ok_any c.refuse.result (subst (λ (r : Reading Job).
    old ≡ old ++ job_report c.args.run.settings.terms g.S.Reporter.says (g.B.TermBank.store c.args.bank) c.args.run.settings.options.steps r) (sym c.in-Refused.is)
    (sym (append-nil old)))

pub returns-in-Refused-clause-counts : goal.returns-in-Refused-clause-counts
returns-in-Refused-clause-counts g c =
    IfOk-weaker c.refuse.result _ _
    (λ k h. h ∙ sym (ap (job_counts (g.B.TermBank.store c.args.bank) c.args.run.settings.terms c.args.run.settings.form
    c.args.run.settings.options.steps) c.in-Refused.is)) c.refuse.ensures.counts
