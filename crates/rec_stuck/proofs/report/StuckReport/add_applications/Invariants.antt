use Rattle.std.proofs.Common.{◌≡◌, ◌++◌, List, ℕ, take}
use Rattle.std.specs.Prelude.{flat_map}
use Rattle.rx_term.specs.Walks.{held_tree}
use Rattle.rec_stuck.specs.Inner.Calls.{AreSpots, line_if}
use Rattle.rec_stuck.specs.Inner.Visits.{reference}
use Rattle.rec_stuck.proofs.report.StuckReport.add_applications.Given as goal

-- the lines so far are there
abbrev pub invariant-loop-i : goal.invariant-loop-i
invariant-loop-i g l = record {
  spots : l.self.spots ≡ l.fn.self.spots;
  lines : (source : List ℕ) → AreSpots source l.engine.spec l.fn.self.spots.items
      → l.self.lines.items ≡ l.fn.self.lines.items ++ flat_map (λ n.
      line_if source l.engine.spec (held_tree (g.B.TermBank.store l.engine.bank) (reference n))) (take l.i l.found.keys);
}
