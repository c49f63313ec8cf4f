use Rattle.std.proofs.Common.{refl, ◌∙◌}
use Rattle.rx_run.specs.Run.{StopsWriting}
use Rattle.rx_run.specs.Streams.{is_read, is_write}
use Rattle.rx_run.proofs.ErrorLemmas.{if_err_at}
use Rattle.rx_run.proofs.ReportLemmas.{read_on, read_still, reading_no_write, returns_no, returns_on, write_still, writing_no_read}
use Rattle.rec_check.proofs.RunLemmas.{run_stops, run_tells, stops_unread}
use Rattle.rec_check.proofs.runs.check_input.Goals as goal

pub returns-clause-output : goal.returns-clause-output
returns-clause-output g c = run_tells c.args.name.now c.in_ok-text.text.items c.deref.result.now c.deref.ensures.value
    (g.R.Read.remaining c.args.spec.now.reader.now) _ _ c.check_text_to.result c.in_ok-text.ensures.text c.check_text_to.ensures.output

pub returns-clause-fault : goal.returns-clause-fault
returns-clause-fault g c = run_stops c.args.name.now c.in_ok-text.text.items c.deref.result.now c.deref.ensures.value
    (g.R.Read.remaining c.args.spec.now.reader.now) _ _ c.check_text_to.result c.in_ok-text.ensures.text c.check_text_to.ensures.fault

pub returns-clause-reports : goal.returns-clause-reports
returns-clause-reports g c =
    let r = c.check_text_to.result in (
      read_still c.args.spec.now c.read_all_from.new.input r (returns_no is_read StopsWriting r writing_no_read c.check_text_to.ensures.writing)
          c.in_ok-text.ensures.reports,
      c.check_text_to.ensures.reports,
    )

pub returns-in_err-text-clause-fault : goal.returns-in_err-text-clause-fault
returns-in_err-text-clause-fault g c =
    let f = c.in_err-text.field-0.0 in
    if_err_at c.from_residual.result _ f c.from_residual.ensures.1
    (stops_unread c.args.name.now (g.R.Read.remaining c.args.spec.now.reader.now) f _ c.in_err-text.ensures.fault)

pub returns-in_err-text-clause-reports : goal.returns-in_err-text-clause-reports
returns-in_err-text-clause-reports g c =
    let f = c.in_err-text.field-0.0 in
    let r = c.from_residual.result in
    let is = c.from_residual.ensures.1 in (
      read_on c.args.spec.now c.read_all_from.new.input r f is c.in_err-text.ensures.reports,
      write_still c.args.out.now c.args.out.now r (returns_on is_write r f is ∙ reading_no_write f c.in_err-text.ensures.fault) (refl, refl),
    )
