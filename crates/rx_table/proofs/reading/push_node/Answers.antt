use Rattle.std.proofs.Common.{◌<◌, length, arith}
use Rattle.rx_table.specs.Inner.Reading.{never}
use Rattle.rx_table.proofs.ReadingLemmas.{needs-fit, node-pushed, trees-fit}
use Rattle.rx_text.specs.Nodes.{needed}
use Rattle.rx_text.specs.Reader.{node_of}
use Rattle.rx_table.proofs.reading.push_node.Goals as goal

pub make_node-requires-clause-held : goal.make_node-requires-clause-held
make_node-requires-clause-held g c =
    let r = c.requires.stack in
    trees-fit (g.B.TermBank.store c.args.bank.now) r.0 c.args.stack.now (needed (node_of c.args.bytes.now c.args.node)) r.1 r.2

pub take_node-elements-requires : goal.take_node-elements-requires
take_node-elements-requires g c =
    let r = c.requires.stack in
    needs-fit (g.B.TermBank.store c.args.bank.now) c.args.bytes.now r.0 c.args.stack.now c.args.node r.1 r.2

pub returns-clause-stack : goal.returns-clause-stack
returns-clause-stack g c = λ ts s le proper shut.
    let terms = c.args.stack.now.terms in
    let few : length terms.items < never = omega (arith, terms.ok.0, terms.ok.1, terms.small) in
    node-pushed (g.B.TermBank.store c.args.bank.now) (g.B.TermBank.store c.make_node.new.bank) c.args.bytes.now ts c.args.stack.now c.push.new.self
    c.args.node s c.make_node.new.made.items c.take_node-elements.new.needs.items c.in_ok-term.term c.take_node-elements.result few le proper shut
    c.in_ok-term.ensures.made c.take_node-elements.ensures.needed c.take_node-elements.ensures.left c.in_ok-push.ensures.terms
    c.in_ok-push.ensures.needs
