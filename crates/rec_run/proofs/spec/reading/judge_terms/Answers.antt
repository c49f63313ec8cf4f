use Rattle.std.proofs.Common.{subst}
use Rattle.rx_term.specs.declared.Term.{Term}
use Rattle.rx_run.specs.Readings.{IsReadingIn}
use Rattle.rx_run.specs.declared.ending.Source.TheVariants as source
use Rattle.rx_run.specs.declared.refusal.Reading.{Reading}
use Rattle.rec_run.proofs.GivenDueLemmas.{no_term, some_term}
use Rattle.rx_run.proofs.PatternDueLemmas.{if_ok_map}
use Rattle.rec_run.proofs.spec.reading.judge_terms.Goals as goal

pub returns-in-Refused-clause-verdict : goal.returns-in-Refused-clause-verdict
returns-in-Refused-clause-verdict g c =
    let w = g.B.TermBank.store c.parse_input.new.bank in
    let v = c.in_ok-refusal.ensures.read in
    no_term c.args.form c.args.checked.now.spec w c.args.text.now c.in-Refused.refusal v.0
    (subst (λ (r : Reading Term). IsReadingIn source.Terms c.args.form w r v.0) c.in-Refused.is v.1) v.2

pub returns-in-Good-clause-verdict : goal.returns-in-Good-clause-verdict
returns-in-Good-clause-verdict g c =
    let w = g.B.TermBank.store c.parse_input.new.bank in
    let v = c.in_ok-refusal.ensures.read in
    if_ok_map c.judge_list.result _ _
    (λ r h. some_term c.args.form c.args.checked.now.spec w c.args.text.now c.in-Good.list v.0 r
    (subst (λ (r : Reading Term). IsReadingIn source.Terms c.args.form w r v.0) c.in-Good.is v.1) v.2 h)
    c.judge_list.ensures.verdict
