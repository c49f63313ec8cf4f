use Rattle.rec_engine.specs.Inner.Copied.{Copying}
use Rattle.rec_engine.specs.Inner.Heap.{IsHeld, KeepsRoots}
use Rattle.rec_engine.specs.Inner.Visits.{visits_ahead}
use Rattle.rec_engine.proofs.heap.Heap.copy_term.Given as goal

abbrev pub invariant-loop-visit : goal.invariant-loop-visit
invariant-loop-visit g l = record {
  kept : KeepsRoots g.B.TermBank.store l.fn.self l.self;
  held : IsHeld g.B.TermBank.store l.self;
  copying : Copying (g.N.TermBank.store l.own) (g.B.TermBank.store l.self.bank) l.fn.t (g.B.TermBank.store l.fn.self.bank) l.self.work.items l.copies
      l.visits.items;
}

abbrev pub decreases-loop-visit : goal.decreases-loop-visit
decreases-loop-visit g l = visits_ahead (g.N.TermBank.store l.own) l.visits.items
