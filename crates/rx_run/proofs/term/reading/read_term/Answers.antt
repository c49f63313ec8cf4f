use Rattle.std.proofs.Common.{subst}
use Rattle.std.proofs.lemmas.Result.{IfErr-weaker}
use Rattle.rx_text.specs.Verdict.{IsVerdict}
use Rattle.rx_run.specs.Run.{RanOut}
use Rattle.rx_run.specs.Streams.{is_read}
use Rattle.rx_run.proofs.ErrorLemmas.{if_err_at}
use Rattle.rx_run.proofs.FaultLemmas.{unwritten, unwritten_reading}
use Rattle.rx_run.proofs.PatternDueLemmas.{if_ok_map}
use Rattle.rx_run.proofs.ReportLemmas.{ran_out_no_read, read_on, read_still, returns_no}
use Rattle.rx_run.proofs.TermDueLemmas.{verdict_given}
use Rattle.rx_term.proofs.StoreLemmas.{Grows-refl}
use Rattle.rx_run.proofs.term.reading.read_term.Goals as goal

pub returns-clause-read : goal.returns-clause-read
returns-clause-read g c =
    if_ok_map c.parse_input.result _ _
    (λ reading v. (
      v.0,
      v.1,
      verdict_given _ c.in_ok-text.text.items v.0 c.in_ok-text.ensures.text
          (subst (λ text. IsVerdict text v.0) c.deref.ensures.value v.2),
    ))
    c.parse_input.ensures.read

pub returns-clause-fault : goal.returns-clause-fault
returns-clause-fault g c = IfErr-weaker c.parse_input.result _ _ (unwritten (g.B.TermBank.store c.args.bank.now) (g.B.TermBank.store c.parse_input.new.bank))
    c.parse_input.ensures.fault

pub returns-in_err-text-clause-grows : goal.returns-in_err-text-clause-grows
returns-in_err-text-clause-grows g c = Grows-refl (g.B.TermBank.store c.args.bank.now)

pub returns-clause-reports : goal.returns-clause-reports
returns-clause-reports g c =
    let old = g.B.TermBank.store c.args.bank.now in
    let new = g.B.TermBank.store c.parse_input.new.bank in
    let r = c.parse_input.result in
    read_still c.args.input.now c.read_all_from.new.input r (returns_no is_read (RanOut old new) r (ran_out_no_read old new) c.parse_input.ensures.fault)
    c.in_ok-text.ensures.reports

pub returns-in_err-text-clause-reports : goal.returns-in_err-text-clause-reports
returns-in_err-text-clause-reports g c =
    read_on c.args.input.now c.read_all_from.new.input c.from_residual.result c.in_err-text.field-0.0 c.from_residual.ensures.1 c.in_err-text.ensures.reports

pub returns-in_err-text-clause-fault : goal.returns-in_err-text-clause-fault
returns-in_err-text-clause-fault g c =
    let f = c.in_err-text.field-0.0 in
    if_err_at c.from_residual.result _ f c.from_residual.ensures.1
    (unwritten_reading (g.B.TermBank.store c.args.bank.now) (g.B.TermBank.store c.args.bank.now) f c.in_err-text.ensures.fault)
