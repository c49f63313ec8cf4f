use Rattle.rx_text.specs.declared.nodes.Node.TheVariants as node
use Rattle.rx_table.proofs.ReadingLemmas.{item-pushed, needs-fit, trees-fit}
use Rattle.rx_table.proofs.reading.push_item.Goals as goal

pub make_node-requires-clause-held : goal.make_node-requires-clause-held
make_node-requires-clause-held g c =
    let r = c.requires in
    trees-fit (g.B.TermBank.store c.args.bank.now) r.0 c.args.stack.now 1 r.1 r.2

pub take_needs-elements-requires : goal.take_needs-elements-requires
take_needs-elements-requires g c =
    let r = c.requires in
    needs-fit (g.B.TermBank.store c.args.bank.now) c.args.bytes.now r.0 c.args.stack.now node.Placeholder r.1 r.2

pub returns-clause-stack : goal.returns-clause-stack
returns-clause-stack g c = λ t ts s.
    item-pushed (g.B.TermBank.store c.args.bank.now) (g.B.TermBank.store c.make_node.new.bank) t ts c.args.stack.now c.push.new.self s
    c.make_node.new.made.items c.take_needs-elements.new.needs.items c.in_ok-term.term c.take_needs-elements.result c.in_ok-term.ensures.made
    c.take_needs-elements.ensures.most c.take_needs-elements.ensures.left c.in_ok-push.ensures.terms c.in_ok-push.ensures.needs
