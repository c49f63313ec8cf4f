use Rattle.rx_table.proofs.ReadingLemmas.{read-node}
use Rattle.rx_table.proofs.reading.read_next.Goals as goal

pub returns-in_ok-push_node-in-Single-clause-reading : goal.returns-in_ok-push_node-in-Single-clause-reading
returns-in_ok-push_node-in-Single-clause-reading g c = λ all r.
    let e = c.in-Single.ensures in
    rw (e.1) (read-node (g.B.TermBank.store c.args.bank.now) (g.B.TermBank.store c.push_node.new.bank) c.args.bytes.now all c.args.nodes.now e.0
    c.args.stack.now c.push_node.new.stack c.in-Single.node e.1 e.2
    c.in_ok-push_node-in-Single.ensures.stack r)
