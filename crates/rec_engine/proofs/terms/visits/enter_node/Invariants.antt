use Rattle.rx_term.specs.Tree.{count_of, items_of}
use Rattle.rx_term.specs.Walks.{held_tree}
use Rattle.rec_engine.proofs.VisitLemmas.{Entering}
use Rattle.rec_engine.proofs.terms.visits.enter_node.Given as goal

abbrev pub invariant-loop-visits : goal.invariant-loop-visits
invariant-loop-visits g l = Entering (g.N.TermBank.store l.bank) l.fn.node l.rest l.fn.visits.items l.visits.items

abbrev pub decreases-loop-visits : goal.decreases-loop-visits
decreases-loop-visits g l = count_of (items_of (held_tree (g.N.TermBank.store l.bank) l.rest))
