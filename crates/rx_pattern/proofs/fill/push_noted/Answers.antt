use Rattle.rx_pattern.proofs.MatchLemmas.{popped}
use Rattle.rx_pattern.proofs.JoiningLemmas.{noted_on}
use Rattle.rx_pattern.proofs.fill.push_noted.Goals as goal

pub returns-clause-made : goal.returns-clause-made
returns-clause-made g c =
    noted_on (g.B.TermBank.store c.args.bank.now) (g.B.TermBank.store c.annotate.new.bank) c.args.t c.in_ok-whole.whole c.unwrap-anns.result
    c.args.made.now.items c.pop.new.self.items c.push.new.self.items c.annotate.ensures.grows
    (popped c.args.made.now.items c.pop.new.self.items c.pop.result c.unwrap-anns.result c.pop.ensures.items c.unwrap-anns.ensures)
    c.in_ok-push.ensures.items c.in_ok-whole.ensures.noted
