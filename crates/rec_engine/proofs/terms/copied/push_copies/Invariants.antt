use Rattle.rx_term.specs.Tree.{count_of, items_of}
use Rattle.rx_term.specs.Walks.{held_tree}
use Rattle.rec_engine.proofs.CopiedLemmas.{Pushing}
use Rattle.rec_engine.proofs.terms.copied.push_copies.Given as goal

abbrev pub invariant-loop-at : goal.invariant-loop-at
invariant-loop-at g l = Pushing (g.N.TermBank.store l.own) l.copies l.fn.list l.rest l.fn.work.items l.work.items

abbrev pub decreases-loop-at : goal.decreases-loop-at
decreases-loop-at g l = count_of (items_of (held_tree (g.N.TermBank.store l.own) l.rest))
