use Rattle.rx_table.proofs.WalkLemmas.{taken-begins, taken-next}
use Rattle.rx_table.proofs.walk.push_items.Goals as goal

pub loop-items-init : goal.loop-items-init
loop-items-init g c = taken-begins (g.B.TermBank.store c.args.bank.now) c.args.list c.args.items.now.items c.requires

pub loop-items-preserved : goal.loop-items-preserved
loop-items-preserved g c = taken-next (g.B.TermBank.store c.args.bank.now) c.loop-items.rest c.head.result c.tail-rest.result c.in-Cons.ensures
    c.head.ensures c.tail-rest.ensures c.args.list c.args.items.now.items c.loop-items.items.items c.push.new.self.items c.loop-items.invariant
    c.in_ok-push.ensures.items
