use Rattle.std.proofs.Common.{◌-◌, ◌≤◌}
use Rattle.rec_engine.specs.Inner.Heap.{IsHeld, KeepsRoots}
use Rattle.rec_engine.specs.Inner.Building.{LinksSoFar}
use Rattle.rec_engine.proofs.heap.Heap.apply_apart.Given as goal

abbrev pub invariant-links : goal.invariant-links
invariant-links g l = record {
  kept : KeepsRoots g.B.TermBank.store l.fn.self l.self;
  held : IsHeld g.B.TermBank.store l.self;
  linking : LinksSoFar (g.B.TermBank.store l.fn.self.bank) (g.B.TermBank.store l.self.bank) l.fn.self.work.items l.self.work.items
      l.count l.symbol (l.count - l.left);
  within : l.left ≤ l.count;
}

abbrev pub decreases-links : goal.decreases-links
decreases-links g l = l.left
