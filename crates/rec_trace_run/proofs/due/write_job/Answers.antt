use Rattle.std.proofs.Common.{ap, ◌∙◌}
use Rattle.std.proofs.lemmas.Result.{IfOk-weaker}
use Rattle.rec_run.specs.GivenTerms.{given_by}
use Rattle.rec_run.specs.Output.{counts_of}
use Rattle.rec_run.specs.declared.options.ValueForm.TheVariants.{Plain}
use Rattle.rec_trace_run.specs.declared.options.TraceOptions.{TraceOptions}
use Rattle.rec_trace_run.proofs.due.write_job.Goals as goal

pub returns-in-Ok-clause-counts : goal.returns-in-Ok-clause-counts
returns-in-Ok-clause-counts g c =
    let us = given_by (g.B.TermBank.store c.args.bank) c.args.job.list in
    IfOk-weaker c.write_prepared.result.end _ _
    (λ counts h. h us c.in-Ok.ensures.given
    ∙ ap (λ (o : TraceOptions). counts_of o.terms c.args.job.checked.spec us Plain o.run.steps) c.in-Ok.ensures.options) c.write_prepared.ensures.counts
