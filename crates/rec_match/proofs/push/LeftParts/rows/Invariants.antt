use Rattle.std.proofs.Common.{map, length, ◌-◌}
use Rattle.rec_match.specs.Parts.{coded_of}
use Rattle.rec_match.proofs.RootRowLemmas.{RowsBefore}
use Rattle.rec_match.proofs.push.LeftParts.rows.Given as goal

abbrev pub invariant-loop-rule : goal.invariant-loop-rule
invariant-loop-rule l = RowsBefore l.checked.spec l.symbol l.self.parts (map coded_of l.rows.items) l.rule

abbrev pub decreases-loop-rule : goal.decreases-loop-rule
decreases-loop-rule l = length l.checked.spec.rules - l.rule
