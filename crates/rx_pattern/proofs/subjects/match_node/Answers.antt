use Rattle.rx_pattern.proofs.MeetingLemmas.{placeholder_arm, rest_arm}
use Rattle.rx_pattern.proofs.subjects.match_node.Goals as goal

pub returns-in-Placeholder-clause-met : goal.returns-in-Placeholder-clause-met
returns-in-Placeholder-clause-met g c =
    placeholder_arm (g.B.TermBank.store c.args.bank.now) c.args.node.now c.in-Placeholder.class c.args.subject c.unwrap-in-Placeholder.result
    c.args.subjects.now.items c.args.out.now.items c.match_placeholder.new.out.items c.match_placeholder.result c.in-Placeholder.is
    c.unwrap-in-Placeholder.ensures c.match_placeholder.ensures.fits c.match_placeholder.ensures.bound

pub returns-in_ok-bind_rest-in-Rest-clause-met : goal.returns-in_ok-bind_rest-in-Rest-clause-met
returns-in_ok-bind_rest-in-Rest-clause-met g c =
    let b = c.in_ok-bind_rest-in-Rest.ensures.bound in
    rest_arm (g.B.TermBank.store c.args.bank.now) (g.B.TermBank.store c.bind_rest.new.bank) c.args.node.now c.args.subject b.0
    c.args.subjects.now.items c.args.out.now.items c.bind_rest.new.out.items c.in-Rest.is c.bind_rest.ensures.grows b.2 b.1
