use Rattle.rx_term.specs.Tree.{Appl, none}
use Rattle.rx_pattern.proofs.MatchLemmas.{popped}
use Rattle.rx_pattern.proofs.JoiningLemmas.{on_ok, newest_below}
use Rattle.rx_pattern.proofs.fill.push_application.Goals as goal

pub push_noted-requires-clause-newest : goal.push_noted-requires-clause-newest
push_noted-requires-clause-newest g c =
    let r = c.requires.newest in
    let b = newest_below (g.B.TermBank.store c.args.bank.now) (g.B.TermBank.store c.apply.new.bank) c.unwrap-args.result c.args.made.now.items
    c.pop.new.self.items c.apply.ensures.grows (popped c.args.made.now.items c.pop.new.self.items c.pop.result c.unwrap-args.result
    c.pop.ensures.items c.unwrap-args.ensures) r.0 r.1.0 r.1.1.0 r.1.1.1 in
    (r.1.0, (r.1.1.0, b.1))

pub returns-clause-made : goal.returns-clause-made
returns-clause-made g c =
    on_ok _ _ c.push_noted.result c.push_noted.ensures.made (λ made args anns ps on.
    let b = newest_below (g.B.TermBank.store c.args.bank.now) (g.B.TermBank.store c.apply.new.bank) c.unwrap-args.result c.args.made.now.items
    c.pop.new.self.items c.apply.ensures.grows (popped c.args.made.now.items c.pop.new.self.items c.pop.result c.unwrap-args.result
    c.pop.ensures.items c.unwrap-args.ensures) args anns ps on in
    made (Appl c.args.name.now.bytes.items c.args.name.now.quoted args none) anns ps (c.in_ok-t.ensures.made args b.0) b.1)
