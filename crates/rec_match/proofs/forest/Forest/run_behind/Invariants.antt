use Rattle.std.proofs.Common.{◌≡◌, ◌-◌, length, drop}
use Rattle.rec_match.specs.Forests.{NoneBefore}
use Rattle.rec_match.proofs.forest.Forest.run_behind.Given as goal

abbrev pub invariant-roots : goal.invariant-roots
invariant-roots g l = record {
  same : l.work.items ≡ l.fn.work.items;
  none : NoneBefore (g.B.TermBank.store l.bank) l.self l.symbol l.least (drop l.first l.fn.work.items) l.next;
}

abbrev pub decreases-roots : goal.decreases-roots
decreases-roots g l = length l.roots.items - l.next
