use Rattle.rx_pattern.proofs.MatchLemmas.{popped}
use Rattle.rx_pattern.proofs.JoiningLemmas.{item_on}
use Rattle.rx_pattern.proofs.fill.push_item.Goals as goal

pub returns-clause-made : goal.returns-clause-made
returns-clause-made g c =
    item_on (g.B.TermBank.store c.args.bank.now) (g.B.TermBank.store c.plain_list.new.bank) (g.B.TermBank.store c.cons.new.self) c.unwrap-head.result
    c.in_ok-tail.tail c.in_ok-list.list c.unwrap.result c.unwrap-others.result c.args.made.now.items c.pop.new.self.items c.pop-2.new.self.items
    c.push.new.self.items
    c.plain_list.ensures.grows (popped c.args.made.now.items c.pop.new.self.items c.pop.result c.unwrap.result c.pop.ensures.items c.unwrap.ensures)
    c.unwrap-head.ensures (popped c.pop.new.self.items c.pop-2.new.self.items c.pop-2.result c.unwrap-others.result c.pop-2.ensures.items
    c.unwrap-others.ensures)
    c.in_ok-tail.ensures.list c.in_ok-list.ensures c.in_ok-push.ensures.items
