use Rattle.std.proofs.Common.{take}
use Rattle.std.specs.Prelude.{All}
use Rattle.rec_syntax.specs.Syntax.{Spec}
use Rattle.rec_check.specs.Inner.Grounds.{AreJoined, IsGroundOf, sorts_had}
use Rattle.rec_check.proofs.uncovered.join.Given as goal

-- the terms so far
abbrev pub invariant-loop-i : goal.invariant-loop-i
invariant-loop-i l = (y : Spec) → All (IsGroundOf y) l.terms → AreJoined y (sorts_had (take l.i l.terms)) l.letters.items l.initial.text.items l.text.items
