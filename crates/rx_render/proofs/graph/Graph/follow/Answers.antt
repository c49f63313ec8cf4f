use Rattle.rx_render.proofs.DrawingLemmas.{follows_left, follows_written}
use Rattle.rx_render.proofs.graph.Graph.follow.Goals as goal

pub returns-in_ok-push_edge : goal.returns-in_ok-push_edge
returns-in_ok-push_edge g c =
    let bank = c.args.bank.now in
    let k = c.in_ok-number.ensures in
    let p = c.in_ok-push_edge.ensures in
    follows_written (g.B.TermBank.store bank) (g.met.B.TermBank.sound bank) c.args.from c.args.name.now c.args.part c.in_ok-number.number
    c.args.self.now c.number_of.new.self c.push_edge.new.self c.requires.held c.requires.part k.number k.found k.nodes k.lines
    c.if-number-self.true p.found p.nodes p.lines

pub returns-else-number-self : goal.returns-else-number-self
returns-else-number-self g c =
    let bank = c.args.bank.now in
    let k = c.in_ok-number.ensures in
    follows_left (g.B.TermBank.store bank) (g.met.B.TermBank.sound bank) c.args.from c.args.name.now c.args.part c.in_ok-number.number c.args.self.now
    c.number_of.new.self c.number_of.new.self c.requires.held c.requires.part k.number k.found k.nodes k.lines c.if-number-self.false
