use Rattle.std.proofs.Common.{Some, subst}
use Rattle.std.proofs.lemmas.Result.{IfErr-weaker}
use Rattle.rx_term.specs.declared.Term.{Term}
use Rattle.rx_text.specs.Verdict.{Verdict, IsVerdict}
use Rattle.rx_run.specs.TermRuns.{IsReadingOf, due_at, term_line}
use Rattle.rx_run.specs.PatternRuns.{due_of_args}
use Rattle.rx_run.specs.Refusals.{refusal_due}
use Rattle.rx_run.specs.declared.ending.Source.TheVariants as source
use Rattle.rx_run.specs.declared.refusal.Reading.{Reading}
use Rattle.rx_run.proofs.FaultLemmas.{ran_out_later}
use Rattle.rx_run.proofs.PatternDueLemmas.{due_read, if_ok_map, spelt_due, unspelt_args}
use Rattle.rx_run.proofs.pattern.answer.make_of_text.Goals as goal

pub returns-in-Refused-clause-due : goal.returns-in-Refused-clause-due
returns-in-Refused-clause-due g c =
    let w = g.B.TermBank.store c.parse.new.bank in
    let v = subst (λ (r : Reading Term). (v : Verdict) × IsReadingOf source.Args w r v × IsVerdict c.args.args.now v) c.in-Refused.is
    c.in_ok-refusal.ensures.read in
    due_read (Some c.args.args.now) (refusal_due c.in-Refused.refusal) (due_of_args c.args.pattern.now) v.0 v.2
    (unspelt_args c.args.pattern.now c.in-Refused.refusal v.0 v.1)

pub returns-in-Good-clause-due : goal.returns-in-Good-clause-due
returns-in-Good-clause-due g c =
    let w = g.B.TermBank.store c.parse.new.bank in
    let v = subst (λ (r : Reading Term). (v : Verdict) × IsReadingOf source.Args w r v × IsVerdict c.args.args.now v) c.in-Good.is
    c.in_ok-refusal.ensures.read in
    if_ok_map c.make_of_term.result _ _
    (λ made h.
    due_read (Some c.args.args.now) (due_at term_line (g.B.TermBank.store c.make_of_term.new.bank) made) (due_of_args c.args.pattern.now) v.0 v.2
    (spelt_due (due_of_args c.args.pattern.now) source.Args w c.in-Good.t v.0 v.1 _ h))
    c.make_of_term.ensures.due

pub returns-in-Good-clause-fault : goal.returns-in-Good-clause-fault
returns-in-Good-clause-fault g c =
    let old = g.B.TermBank.store c.args.bank.now in
    let mid = g.B.TermBank.store c.parse.new.bank in
    let new = g.B.TermBank.store c.make_of_term.new.bank in
    IfErr-weaker c.make_of_term.result _ _ (λ f h. ran_out_later old mid new f c.in_ok-refusal.ensures.grows h) c.make_of_term.ensures.fault
