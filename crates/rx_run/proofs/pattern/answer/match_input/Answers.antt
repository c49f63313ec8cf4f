use Rattle.std.proofs.Common.{subst}
use Rattle.std.proofs.lemmas.Result.{IfErr-weaker}
use Rattle.rx_term.specs.Tree.{Tree}
use Rattle.rx_term.specs.declared.Term.{Term}
use Rattle.rx_pattern.specs.Matching.{matching}
use Rattle.rx_run.specs.TermRuns.{due_of}
use Rattle.rx_run.specs.Inner.TermReadings.{IsGivenIn}
use Rattle.rx_run.specs.declared.term.reading.InputForm.TheVariants as form
use Rattle.rx_run.specs.Run.{RanOut}
use Rattle.rx_run.specs.Streams.{is_read}
use Rattle.rx_run.specs.PatternRuns.{match_lines}
use Rattle.rx_run.specs.Inner.PatternAnswers.{answer_due}
use Rattle.rx_run.specs.Refusals.{refusal_due}
use Rattle.rx_run.specs.declared.ending.Source.TheVariants as source
use Rattle.rx_run.specs.declared.refusal.Reading.{Reading}
use Rattle.rx_run.proofs.FaultLemmas.{unwritten_later}
use Rattle.rx_run.proofs.PatternDueLemmas.{due_read, if_ok_map, spelt_due}
use Rattle.rx_run.proofs.TermDueLemmas.{refused_due}
use Rattle.rx_run.proofs.ReportLemmas.{ran_out_no_read, read_still, returns_no}
use Rattle.rx_run.proofs.pattern.answer.match_input.Goals as goal

pub returns-in-Refused-clause-due : goal.returns-in-Refused-clause-due
returns-in-Refused-clause-due g c =
    let w = g.B.TermBank.store c.read_term.new.bank in
    let lines = λ (t : Tree). match_lines (matching c.args.pattern.now t) in
    let v = subst (λ (r : Reading Term). IsGivenIn form.Term (g.R.Read.remaining c.args.input.now.reader.now) w r) c.in-Refused.is c.in_ok-refusal.ensures.read in
    due_read _ (refusal_due c.in-Refused.refusal) (due_of lines) v.0 v.2 (refused_due lines c.in-Refused.refusal v.0 v.1)

pub returns-in-Good-clause-due : goal.returns-in-Good-clause-due
returns-in-Good-clause-due g c =
    let w = g.B.TermBank.store c.read_term.new.bank in
    let lines = λ (t : Tree). match_lines (matching c.args.pattern.now t) in
    let v = subst (λ (r : Reading Term). IsGivenIn form.Term (g.R.Read.remaining c.args.input.now.reader.now) w r) c.in-Good.is c.in_ok-refusal.ensures.read in
    if_ok_map c.match_term.result _ _
    (λ answer h. due_read _ (answer_due (g.B.TermBank.store c.match_term.new.bank) answer) (due_of lines) v.0 v.2
    (spelt_due (due_of lines) source.Term w c.in-Good.t v.0 v.1 _ h))
    c.match_term.ensures.due

pub returns-in-Good-clause-fault : goal.returns-in-Good-clause-fault
returns-in-Good-clause-fault g c =
    let old = g.B.TermBank.store c.args.bank.now in
    let mid = g.B.TermBank.store c.read_term.new.bank in
    let new = g.B.TermBank.store c.match_term.new.bank in
    IfErr-weaker c.match_term.result _ _ (λ f h. unwritten_later old mid new f c.in_ok-refusal.ensures.grows h) c.match_term.ensures.fault

pub returns-in-Good-clause-reports : goal.returns-in-Good-clause-reports
returns-in-Good-clause-reports g c =
    let mid = g.B.TermBank.store c.read_term.new.bank in
    let new = g.B.TermBank.store c.match_term.new.bank in
    let r = c.match_term.result in
    read_still c.args.input.now c.read_term.new.input r (returns_no is_read (RanOut mid new) r (ran_out_no_read mid new) c.match_term.ensures.fault)
    c.in_ok-refusal.ensures.reports
