use Rattle.rx_term.specs.Tree.{Items, none}
use Rattle.rx_pattern.proofs.MatchLemmas.{popped}
use Rattle.rx_pattern.proofs.JoiningLemmas.{on_ok, newest_below}
use Rattle.rx_pattern.proofs.fill.push_list.Goals as goal

pub push_noted-requires-clause-newest : goal.push_noted-requires-clause-newest
push_noted-requires-clause-newest g c =
    let r = c.requires in
    let b = newest_below (g.B.TermBank.store c.args.bank.now) (g.B.TermBank.store c.plain_list.new.bank) c.unwrap-items.result c.args.made.now.items
    c.pop.new.self.items c.plain_list.ensures.grows (popped c.args.made.now.items c.pop.new.self.items c.pop.result c.unwrap-items.result
    c.pop.ensures.items c.unwrap-items.ensures) r.0 r.1.0 r.1.1.0 r.1.1.1 in
    (r.1.0, (r.1.1.0, b.1))

pub returns-clause-made : goal.returns-clause-made
returns-clause-made g c =
    on_ok _ _ c.push_noted.result c.push_noted.ensures.made (λ made items anns ps on.
    let b = newest_below (g.B.TermBank.store c.args.bank.now) (g.B.TermBank.store c.plain_list.new.bank) c.unwrap-items.result c.args.made.now.items
    c.pop.new.self.items c.plain_list.ensures.grows (popped c.args.made.now.items c.pop.new.self.items c.pop.result c.unwrap-items.result
    c.pop.ensures.items c.unwrap-items.ensures) items anns ps on in
    made (Items items none) anns ps (c.in_ok-t.ensures.list items b.0) b.1)
