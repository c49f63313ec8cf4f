use Rattle.std.proofs.Common.{◌≡◌, [], rules}
use Rattle.rx_term.specs.Walks.{held_tree}
use Rattle.rx_table.specs.Table.{direct}
use Rattle.rx_table.proofs.WalkLemmas.{entering-begins, entering-ends, entering-next, pushes-all}
use Rattle.rx_table.proofs.walk.enter.Goals as goal

pub loop-next-init : goal.loop-next-init
loop-next-init g c =
    let w = g.B.TermBank.store c.args.bank.now in
    let left = c.push_direct.new.inside.items in
    entering-begins w c.args.t c.args.start left c.args.visits.now.items c.push.new.self.items
    (pushes-all w c.args.inside.now.items left (direct (held_tree w c.args.t)) c.requires.empty c.in_ok-push_direct.ensures) c.in_ok-push.ensures.items

pub loop-next-preserved : goal.loop-next-preserved
loop-next-preserved g c = entering-next (g.B.TermBank.store c.args.bank.now) c.args.t c.in-Some.next c.args.start c.loop-next.inside.items
    c.pop.new.self.items c.args.visits.now.items c.loop-next.visits.items c.push-in-Some.new.self.items c.loop-next.invariant c.in-Some.ensures.items
    c.in_ok-push-2.ensures.items

pub returns-clause-enters : goal.returns-clause-enters
returns-clause-enters g c =
    let e : c.loop-next.inside.items ≡ [] = search rules in
    entering-ends (g.B.TermBank.store c.args.bank.now) c.args.t c.args.start c.loop-next.inside.items c.args.visits.now.items
    c.loop-next.visits.items c.requires.held c.loop-next.invariant e
