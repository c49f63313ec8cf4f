use Rattle.rx_term.specs.Tree.{Tree}
use Rattle.rec_stuck.specs.Inner.Visits.{AreThere, CanVisit, Walked, visits_by_all}
use Rattle.rec_stuck.proofs.applications.leave_all.Given as goal

-- the applications so far were left, and the visits that follow leave the others
abbrev pub invariant-loop-visit : goal.invariant-loop-visit
invariant-loop-visit g l = record {
  can : CanVisit (g.B.TermBank.store l.bank) l.visits.items;
  there : AreThere (g.B.TermBank.store l.bank) l.left.keys;
  walked : (v : Tree) → Walked (g.B.TermBank.store l.bank) v l.fn.left.keys l.fn.visits.items → Walked (g.B.TermBank.store l.bank) v l.left.keys l.visits.items;
}

abbrev pub decreases-loop-visit : goal.decreases-loop-visit
decreases-loop-visit g l = visits_by_all (g.B.TermBank.store l.bank) l.visits.items
