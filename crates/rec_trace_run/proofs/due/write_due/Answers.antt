use Rattle.std.proofs.Common.{ap, subst, sym, ◌∙◌}
use Rattle.std.proofs.lemmas.Result.{IfErr-weaker, IfOk-weaker}
use Rattle.rec_run.specs.GivenTerms.{IsRefused}
use Rattle.rec_run.specs.Reports.{job_counts}
use Rattle.rec_run.specs.declared.options.ValueForm.TheVariants.{Plain}
use Rattle.rec_trace_run.proofs.PageLemmas.{room-full, write-room}
use Rattle.rec_trace_run.proofs.due.write_due.Goals as goal

pub returns-in-Refused-clause-room : goal.returns-in-Refused-clause-room
returns-in-Refused-clause-room g c = IfErr-weaker c.refuse.result _ _ (λ f e. room-full (g.B.TermBank.store c.args.bank) f (write-room f e)) c.refuse.ensures.write

pub returns-in-Refused-clause-cells : goal.returns-in-Refused-clause-cells
returns-in-Refused-clause-cells g c = λ refused. IfErr-weaker c.refuse.result _ _ write-room c.refuse.ensures.write

pub returns-in-Refused-clause-counts : goal.returns-in-Refused-clause-counts
returns-in-Refused-clause-counts g c =
    IfOk-weaker c.refuse.result _ _
    (λ k h. h ∙ sym (ap (job_counts (g.B.TermBank.store c.args.bank) c.args.setup.options.terms Plain c.args.setup.options.run.steps) c.in-Refused.is))
    c.refuse.ensures.counts

pub returns-in-Good-clause-cells : goal.returns-in-Good-clause-cells
returns-in-Good-clause-cells g c = λ refused. absurd (subst IsRefused c.in-Good.is refused)
