use Rattle.rec_engine.proofs.VisitLemmas.{enter-first, enter-next}
use Rattle.rec_engine.proofs.terms.visits.enter_node.Goals as goal

pub loop-visits-init : goal.loop-visits-init
loop-visits-init g c =
    enter-first (g.N.TermBank.store c.args.bank.now) c.args.node c.args-rest.result c.args.visits.now.items c.push.new.self.items c.requires
    c.args-rest.ensures c.in_ok-push.ensures.items

pub loop-visits-preserved : goal.loop-visits-preserved
loop-visits-preserved g c =
    enter-next (g.N.TermBank.store c.args.bank.now) c.args.node c.loop-visits.rest c.head.result c.tail-rest.result c.args.visits.now.items
    c.loop-visits.visits.items c.push-in-Cons.new.self.items c.in-Cons.ensures c.head.ensures c.tail-rest.ensures c.loop-visits.invariant
    c.in_ok-push-2.ensures.items
