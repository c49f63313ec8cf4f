use Rattle.std.proofs.Common.{subst}
use Rattle.rx_term.proofs.StoreLemmas.{Grows-trans}
use Rattle.rx_term.specs.declared.Term.{Term}
use Rattle.rx_run.specs.Readings.{IsReadingIn}
use Rattle.rx_run.specs.declared.ending.Source.TheVariants as source
use Rattle.rx_run.specs.declared.refusal.Reading.{Reading}
use Rattle.rec_serve.proofs.OutcomeLemmas.{answered_refused, answered_taken}
use Rattle.rec_serve.proofs.TakenLemmas.{read_taken, read_why}
use Rattle.rec_serve.proofs.answers.answer.Goals as goal

pub returns-in-Ok-Good-clause-answered : goal.returns-in-Ok-Good-clause-answered
returns-in-Ok-Good-clause-answered g c =
    let s = c.args.session.settings in
    let w = g.N.TermBank.store c.parse_input.new.bank in
    let v = c.in-Ok-Good.ensures.read in
    answered_taken c.args.engine.now.spec s c.args.request.now w c.in-Ok-Good.term v.0 c.answer_term.result v.2
    (read_taken s.input w c.in-Ok-Good.term v.0 (subst (λ (r : Reading Term). IsReadingIn source.Term s.input w r v.0) c.in-Ok-Good.field-0-is v.1))
    c.answer_term.ensures.answered

pub returns-in-Ok-Good-clause-grows : goal.returns-in-Ok-Good-clause-grows
returns-in-Ok-Good-clause-grows g c = Grows-trans c.parse_input.ensures.grows c.answer_term.ensures.grows

pub returns-in-Ok-Refused-clause-answered : goal.returns-in-Ok-Refused-clause-answered
returns-in-Ok-Refused-clause-answered g c =
    let s = c.args.session.settings in
    let w = g.N.TermBank.store c.parse_input.new.bank in
    let v = c.in-Ok-Refused.ensures.read in
    let f = c.refusal_for.result in
    answered_refused c.args.engine.now.spec s c.args.request.now v.0 f c.refuse.result v.2
    (read_why s.input w c.in-Ok-Refused.refused v.0 f (subst (λ (r : Reading Term). IsReadingIn source.Term s.input w r v.0) c.in-Ok-Refused.field-0-is v.1)
    c.refusal_for.ensures)
    c.refuse.ensures.text c.refuse.ensures.refusal
