use Rattle.std.proofs.Common.{refl, subst, sym, ◌∙◌}
use Rattle.rx_run.specs.Streams.{is_read, is_write}
use Rattle.rx_run.specs.PatternRuns.{IsMatchDue, IsMatchedFor, match_due}
use Rattle.rx_run.specs.Inner.PatternAnswers.{answer_lines}
use Rattle.rx_run.proofs.FaultLemmas.{not_deep_unwritten, not_deep_writing, reports_unwritten, room_unwritten, room_writing}
use Rattle.rx_run.proofs.ErrorLemmas.{if_err_at}
use Rattle.rx_run.proofs.MatchedLemmas.{matched_both}
use Rattle.rx_run.proofs.PatternDueLemmas.{same_due}
use Rattle.rx_run.proofs.ReadDueLemmas.{breaks_read, concludes_ended}
use Rattle.rx_run.proofs.WholeRunLemmas.{breaks_unwritten}
use Rattle.rx_run.proofs.ReportLemmas.{read_on, read_still, returns_on, unwritten_no_write, write_on, write_still, writing_no_read}
use Rattle.rx_run.proofs.pattern.matching.match_over.Goals as goal

pub returns-in_err-answer-clause-fault : goal.returns-in_err-answer-clause-fault
returns-in_err-answer-clause-fault g c =
    let old = g.B.TermBank.store c.args.bank.now in
    let new = g.B.TermBank.store c.match_reading.new.bank in
    let f = c.in_err-answer.field-0.0 in
    if_err_at c.from_residual.result _ f c.from_residual.ensures.1
    (breaks_unwritten (IsMatchDue c.args.pattern.now) (g.R.Read.remaining c.args.input.now.reader.now) f _
    (reports_unwritten old new f c.in_err-answer.ensures.fault))

pub returns-in_err-answer-clause-room : goal.returns-in_err-answer-clause-room
returns-in_err-answer-clause-room g c =
    let old = g.B.TermBank.store c.args.bank.now in
    let new = g.B.TermBank.store c.match_reading.new.bank in
    let f = c.in_err-answer.field-0.0 in
    if_err_at c.from_residual.result _ f c.from_residual.ensures.1 (room_unwritten old new f c.in_err-answer.ensures.fault)

pub returns-in_err-answer-clause-unread : goal.returns-in_err-answer-clause-unread
returns-in_err-answer-clause-unread g c = c.in_err-answer.ensures.unread c.args.pattern.now c.requires.read

pub returns-clause-ends : goal.returns-clause-ends
returns-clause-ends g c =
    let w = g.B.TermBank.store c.match_reading.new.bank in
    concludes_ended (IsMatchDue c.args.pattern.now) (answer_lines w) (g.R.Read.remaining c.args.input.now.reader.now) c.in_ok-answer.answer
    c.in_ok-ending.ending _ _ (c.in_ok-answer.ensures.due c.args.pattern.now c.requires.read) c.in_ok-ending.ensures.ends c.in_ok-ending.ensures.ok

pub returns-clause-matched : goal.returns-clause-matched
returns-clause-matched g c =
    let known = g.R.Read.remaining c.args.input.now.reader.now in
    subst (IsMatchedFor c.args.pattern.now known) (sym c.has_matched.ensures)
    (matched_both c.args.pattern.now (g.B.TermBank.store c.match_reading.new.bank) c.in_ok-answer.answer known
    (c.in_ok-answer.ensures.due c.args.pattern.now c.requires.read))

pub returns-in_err-ending-clause-fault : goal.returns-in_err-ending-clause-fault
returns-in_err-ending-clause-fault g c =
    let w = g.B.TermBank.store c.match_reading.new.bank in
    let f = c.in_err-ending.field-0.0 in
    if_err_at c.from_residual-in_err-ending.result _ f c.from_residual-in_err-ending.ensures.1
    (breaks_read (IsMatchDue c.args.pattern.now) (answer_lines w) (λ x. same_due match_due c.args.pattern.now x)
    (g.R.Read.remaining c.args.input.now.reader.now) c.in_ok-answer.answer f _ _
    (c.in_ok-answer.ensures.due c.args.pattern.now c.requires.read) c.in_err-ending.ensures.err)

pub returns-in_err-ending-clause-room : goal.returns-in_err-ending-clause-room
returns-in_err-ending-clause-room g c =
    let f = c.in_err-ending.field-0.0 in
    if_err_at c.from_residual-in_err-ending.result _ f c.from_residual-in_err-ending.ensures.1
    (room_writing (g.B.TermBank.store c.args.bank.now) (g.B.TermBank.store c.match_reading.new.bank) f c.in_err-ending.ensures.writing)

pub returns-in_err-ending-clause-no_depth : goal.returns-in_err-ending-clause-no_depth
returns-in_err-ending-clause-no_depth g c =
    let f = c.in_err-ending.field-0.0 in
    if_err_at c.from_residual-in_err-ending.result _ f c.from_residual-in_err-ending.ensures.1 (not_deep_writing f c.in_err-ending.ensures.writing)

pub returns-in_err-ending-clause-unread : goal.returns-in_err-ending-clause-unread
returns-in_err-ending-clause-unread g c = c.in_ok-answer.ensures.unread c.args.pattern.now c.requires.read

pub returns-in_err-ending-clause-reports : goal.returns-in_err-ending-clause-reports
returns-in_err-ending-clause-reports g c =
    let f = c.in_err-ending.field-0.0 in
    let r = c.from_residual-in_err-ending.result in
    let is = c.from_residual-in_err-ending.ensures.1 in (
      read_still c.args.input.now c.match_reading.new.input r (returns_on is_read r f is ∙ writing_no_read f c.in_err-ending.ensures.writing) c.in_ok-answer.ensures.reports,
      write_on c.args.out.now c.end_answer.new.out r f is c.in_err-ending.ensures.reports,
    )

pub returns-clause-input_read : goal.returns-clause-input_read
returns-clause-input_read g c = λ p. c.in_ok-answer.ensures.input_read c.args.pattern.now p c.requires.read

pub returns-clause-unread : goal.returns-clause-unread
returns-clause-unread g c = c.in_ok-answer.ensures.unread c.args.pattern.now c.requires.read

pub returns-in_err-answer-clause-reports : goal.returns-in_err-answer-clause-reports
returns-in_err-answer-clause-reports g c =
    let old = g.B.TermBank.store c.args.bank.now in
    let new = g.B.TermBank.store c.match_reading.new.bank in
    let f = c.in_err-answer.field-0.0 in
    let r = c.from_residual.result in
    let is = c.from_residual.ensures.1 in (
      read_on c.args.input.now c.match_reading.new.input r f is c.in_err-answer.ensures.reports,
      write_still c.args.out.now c.args.out.now r (returns_on is_write r f is ∙ unwritten_no_write old new f c.in_err-answer.ensures.fault) (refl, refl),
    )

pub returns-in_err-answer-clause-no_depth : goal.returns-in_err-answer-clause-no_depth
returns-in_err-answer-clause-no_depth g c =
    let old = g.B.TermBank.store c.args.bank.now in
    let new = g.B.TermBank.store c.match_reading.new.bank in
    let f = c.in_err-answer.field-0.0 in
    if_err_at c.from_residual.result _ f c.from_residual.ensures.1 (not_deep_unwritten old new f c.in_err-answer.ensures.fault)
