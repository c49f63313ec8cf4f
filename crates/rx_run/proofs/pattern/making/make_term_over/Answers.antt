use Rattle.std.proofs.Common.{Some, refl, ◌∙◌}
use Rattle.std.proofs.lemmas.Result.{IfErr-weaker}
use Rattle.rx_run.specs.Streams.{is_write}
use Rattle.rx_run.specs.PatternRuns.{IsMakeDue}
use Rattle.rx_run.proofs.FaultLemmas.{fills_first, fills_second, not_deep_ran_out, reports_ran_out, room_ran_out}
use Rattle.rx_run.proofs.ErrorLemmas.{if_err_at}
use Rattle.rx_run.proofs.ReportLemmas.{ran_out_no_write, returns_on, write_still}
use Rattle.rx_run.proofs.WholeRunLemmas.{breaks_unwritten}
use Rattle.rx_run.proofs.pattern.making.make_term_over.Goals as goal

pub returns-in_err-reading-clause-fault : goal.returns-in_err-reading-clause-fault
returns-in_err-reading-clause-fault g c =
    let old = g.B.TermBank.store c.args.patterns.now in
    let new = g.B.TermBank.store c.read_pattern_in.new.bank in
    let f = c.in_err-reading.field-0.0 in
    if_err_at c.from_residual.result _ f c.from_residual.ensures.1
    (breaks_unwritten (IsMakeDue c.args.pattern.now) (Some c.args.args.now) f _ (reports_ran_out old new f c.in_err-reading.ensures.fault))

pub returns-in_err-reading-clause-room : goal.returns-in_err-reading-clause-room
returns-in_err-reading-clause-room g c =
    let old = g.B.TermBank.store c.args.patterns.now in
    let new = g.B.TermBank.store c.read_pattern_in.new.bank in
    let f = c.in_err-reading.field-0.0 in
    if_err_at c.from_residual.result _ f c.from_residual.ensures.1 (fills_first old new _ _ f (room_ran_out old new f c.in_err-reading.ensures.fault))

pub returns-clause-room : goal.returns-clause-room
returns-clause-room g c =
    let old = g.B.TermBank.store c.args.patterns.now in
    let new = g.B.TermBank.store c.read_pattern_in.new.bank in
    IfErr-weaker c.make_over.result _ _ (λ f h. fills_second old new _ _ f h) c.make_over.ensures.room

pub returns-in_err-reading-clause-reports : goal.returns-in_err-reading-clause-reports
returns-in_err-reading-clause-reports g c =
    let old = g.B.TermBank.store c.args.patterns.now in
    let new = g.B.TermBank.store c.read_pattern_in.new.bank in
    let f = c.in_err-reading.field-0.0 in
    let r = c.from_residual.result in
    write_still c.args.out.now c.args.out.now r (returns_on is_write r f c.from_residual.ensures.1 ∙ ran_out_no_write old new f c.in_err-reading.ensures.fault)
    (refl, refl)

pub returns-in_err-reading-clause-no_depth : goal.returns-in_err-reading-clause-no_depth
returns-in_err-reading-clause-no_depth g c =
    let old = g.B.TermBank.store c.args.patterns.now in
    let new = g.B.TermBank.store c.read_pattern_in.new.bank in
    let f = c.in_err-reading.field-0.0 in
    if_err_at c.from_residual.result _ f c.from_residual.ensures.1 (not_deep_ran_out old new f c.in_err-reading.ensures.fault)
