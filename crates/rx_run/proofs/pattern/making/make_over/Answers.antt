use Rattle.std.proofs.Common.{Some, refl, ◌∙◌}
use Rattle.std.proofs.lemmas.Result.{IfErr-weaker}
use Rattle.rx_run.specs.Streams.{is_write}
use Rattle.rx_run.specs.PatternRuns.{IsMakeDue, make_due}
use Rattle.rx_run.specs.TermRuns.{lines_at, term_line}
use Rattle.rx_run.proofs.FaultLemmas.{no_reader_writing, not_deep_ran_out, not_deep_writing, reports_ran_out, room_ran_out, room_writing}
use Rattle.rx_run.proofs.ErrorLemmas.{if_err_at}
use Rattle.rx_run.proofs.PatternDueLemmas.{same_due}
use Rattle.rx_run.proofs.ReadDueLemmas.{breaks_by, concludes_by}
use Rattle.rx_run.proofs.WholeRunLemmas.{breaks_unwritten}
use Rattle.rx_run.proofs.ReportLemmas.{ran_out_no_write, returns_on, write_still}
use Rattle.rx_run.proofs.pattern.making.make_over.Goals as goal

pub returns-in_err-made-clause-fault : goal.returns-in_err-made-clause-fault
returns-in_err-made-clause-fault g c =
    let old = g.B.TermBank.store c.args.bank.now in
    let new = g.B.TermBank.store c.make_of_reading.new.bank in
    let f = c.in_err-made.field-0.0 in
    if_err_at c.from_residual.result _ f c.from_residual.ensures.1
    (breaks_unwritten (IsMakeDue c.args.pattern.now) (Some c.args.args.now) f _ (reports_ran_out old new f c.in_err-made.ensures.fault))

pub returns-in_err-made-clause-room : goal.returns-in_err-made-clause-room
returns-in_err-made-clause-room g c =
    let old = g.B.TermBank.store c.args.bank.now in
    let new = g.B.TermBank.store c.make_of_reading.new.bank in
    let f = c.in_err-made.field-0.0 in
    if_err_at c.from_residual.result _ f c.from_residual.ensures.1 (room_ran_out old new f c.in_err-made.ensures.fault)

pub returns-clause-ends : goal.returns-clause-ends
returns-clause-ends g c =
    let w = g.B.TermBank.store c.make_of_reading.new.bank in
    concludes_by (IsMakeDue c.args.pattern.now) (lines_at term_line w) (Some c.args.args.now) c.in_ok-made.made c.end_term.result _ _
    (c.in_ok-made.ensures.due c.args.pattern.now c.requires.read) c.end_term.ensures.ends c.end_term.ensures.ok

pub returns-clause-fault : goal.returns-clause-fault
returns-clause-fault g c =
    let w = g.B.TermBank.store c.make_of_reading.new.bank in
    breaks_by (IsMakeDue c.args.pattern.now) (lines_at term_line w) (λ x. same_due make_due c.args.pattern.now x) (Some c.args.args.now)
    c.in_ok-made.made c.end_term.result _ _ (c.in_ok-made.ensures.due c.args.pattern.now c.requires.read) c.end_term.ensures.err

pub returns-clause-room : goal.returns-clause-room
returns-clause-room g c = IfErr-weaker c.end_term.result _ _
    (room_writing (g.B.TermBank.store c.args.bank.now) (g.B.TermBank.store c.end_term.new.bank)) c.end_term.ensures.writing

pub returns-clause-no_reader : goal.returns-clause-no_reader
returns-clause-no_reader g c = IfErr-weaker c.end_term.result _ _ no_reader_writing c.end_term.ensures.writing

pub returns-in_err-made-clause-reports : goal.returns-in_err-made-clause-reports
returns-in_err-made-clause-reports g c =
    let old = g.B.TermBank.store c.args.bank.now in
    let new = g.B.TermBank.store c.make_of_reading.new.bank in
    let f = c.in_err-made.field-0.0 in
    let r = c.from_residual.result in
    write_still c.args.out.now c.args.out.now r (returns_on is_write r f c.from_residual.ensures.1 ∙ ran_out_no_write old new f c.in_err-made.ensures.fault)
    (refl, refl)

pub returns-in_err-made-clause-no_depth : goal.returns-in_err-made-clause-no_depth
returns-in_err-made-clause-no_depth g c =
    let old = g.B.TermBank.store c.args.bank.now in
    let new = g.B.TermBank.store c.make_of_reading.new.bank in
    let f = c.in_err-made.field-0.0 in
    if_err_at c.from_residual.result _ f c.from_residual.ensures.1 (not_deep_ran_out old new f c.in_err-made.ensures.fault)

pub returns-clause-no_depth : goal.returns-clause-no_depth
returns-clause-no_depth g c = IfErr-weaker c.end_term.result _ _ not_deep_writing c.end_term.ensures.writing
