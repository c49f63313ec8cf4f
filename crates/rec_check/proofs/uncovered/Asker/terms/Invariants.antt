use Rattle.std.specs.Prelude.{All}
use Rattle.rec_check.specs.Inner.Grounds.{IsGroundOf}
use Rattle.rec_check.proofs.uncovered.Asker.terms.Given as goal

abbrev pub invariant-loop-letter : goal.invariant-loop-letter
invariant-loop-letter l = All (IsGroundOf l.self.checked.now.spec) l.stack.items
