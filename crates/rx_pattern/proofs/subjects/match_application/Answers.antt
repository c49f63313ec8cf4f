use Rattle.rx_pattern.proofs.MeetingLemmas.{met_none, other_application, application_met}
use Rattle.rx_pattern.proofs.subjects.match_application.Goals as goal

pub returns-then-not-is_name-clause-met : goal.returns-then-not-is_name-clause-met
returns-then-not-is_name-clause-met g c = λ u e.
    let w = g.B.TermBank.store c.args.bank.now in
    let name = c.args.name.now in
    met_none w _ c.args.subjects.now.items c.args.subjects.now.items
    (other_application w c.args.t c.in-Appl.symbol name.bytes.items name.quoted c.is_name.result u c.in-Appl.ensures c.is_name.ensures
    c.if-not-is_name.true e)

pub returns-clause-met : goal.returns-clause-met
returns-clause-met g c =
    let w = g.B.TermBank.store c.args.bank.now in
    let name = c.args.name.now in
    application_met w c.args.t c.in-Appl.symbol name.bytes.items name.quoted c.is_name.result c.anns-anns.result c.args-2.result
    c.args.subjects.now.items c.push.new.self.items c.push-2.new.self.items c.in-Appl.ensures c.is_name.ensures c.if-not-is_name.false
    c.anns-anns.ensures c.args-2.ensures c.in_ok-push.ensures.items c.in_ok-push-2.ensures.items
