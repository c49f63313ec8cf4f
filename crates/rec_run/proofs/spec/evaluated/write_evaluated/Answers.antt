use Rattle.std.proofs.Common.{◌++◌, ap, ◌∙◌}
use Rattle.rx_run.proofs.ErrorLemmas.{on_ok_of}
use Rattle.rec_run.specs.GivenTerms.{given_by}
use Rattle.rec_run.specs.Output.{lines, shown_of}
use Rattle.rec_run.specs.Reports.{report_of}
use Rattle.rec_run.proofs.EvaluatedLemmas.{stops_unwritten}
use Rattle.rec_run.proofs.spec.evaluated.write_evaluated.Goals as goal

pub returns-in-Err-clause-err : goal.returns-in-Err-clause-err
returns-in-Err-clause-err g c =
    stops_unwritten (lines c.args.job.checked.spec (given_by (g.B.TermBank.store c.args.bank) c.args.job.list) (shown_of c.args.run.settings)
    c.args.run.settings.options.steps) (g.W.Write.contents c.args.out.now.writer.now)

pub returns-in-Ok-clause-told : goal.returns-in-Ok-clause-told
returns-in-Ok-clause-told g c =
    on_ok_of c.write_ready.result.written
    (λ h. h ∙ ap (λ t. t ++ report_of c.args.run.settings.terms g.S.Reporter.says c.args.job.checked.source c.args.job.checked.spec
    (given_by (g.B.TermBank.store c.args.bank) c.args.job.list) c.args.run.settings.options.steps) c.begin.ensures.told)
    c.write_ready.ensures.told
