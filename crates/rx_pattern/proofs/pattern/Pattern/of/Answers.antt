use Rattle.rx_pattern.proofs.WholeLemmas.{whole_nodes}
use Rattle.rx_pattern.proofs.pattern.Pattern.of.Goals as goal

pub invariant_of-result : goal.invariant_of-result
invariant_of-result g c =
    (whole_nodes (g.B.TermBank.store c.args.bank.now) c.args.t c.in_ok-nodes.nodes.items (g.met.B.TermBank.sound c.args.bank.now) c.requires
    c.in_ok-check.ensures.fit c.in_ok-nodes.ensures).0

pub returns-clause-made : goal.returns-clause-made
returns-clause-made g c =
    (whole_nodes (g.B.TermBank.store c.args.bank.now) c.args.t c.in_ok-nodes.nodes.items (g.met.B.TermBank.sound c.args.bank.now) c.requires
    c.in_ok-check.ensures.fit c.in_ok-nodes.ensures).1

pub returns-clause-fit : goal.returns-clause-fit
returns-clause-fit g c =
    (whole_nodes (g.B.TermBank.store c.args.bank.now) c.args.t c.in_ok-nodes.nodes.items (g.met.B.TermBank.sound c.args.bank.now) c.requires
    c.in_ok-check.ensures.fit c.in_ok-nodes.ensures).2
