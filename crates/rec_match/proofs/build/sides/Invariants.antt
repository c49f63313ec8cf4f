use Rattle.std.proofs.Common.{[], ℕ, List}
use Rattle.rec_sorts.specs.Numbering.{variable_count}
use Rattle.rec_match.specs.Placed.{ArePlaces}
use Rattle.rec_match.specs.Inner.Built.{AreHeads, AreSides}
use Rattle.rec_match.proofs.build.sides.Given as goal

abbrev pub invariant-loop-rule : goal.invariant-loop-rule
invariant-loop-rule l = record {
  places : ArePlaces [] (variable_count l.checked.spec) l.places;
  sides : (fs : List ℕ) → AreHeads l.checked.spec fs → AreSides l.checked.spec fs l.nexts l.sides.items l.rule;
}
