use Rattle.rx_term.specs.Walks.{held_tree}
use Rattle.rec_engine.proofs.ShapeLemmas.{no-rules}
use Rattle.rec_engine.proofs.vm.Machine.may_apply.Goals as goal

pub returns-in-Call : goal.returns-in-Call
returns-in-Call g c free =
    no-rules c.args.self.now.checked.spec c.args.self.now.code.matcher (held_tree (g.B.TermBank.store c.args.self.now.heap.bank) c.args.node)
    c.in-Call.symbol _ c.node_op.result c.node_op.ensures c.in-Call.is (c.has_rules.ensures free)
