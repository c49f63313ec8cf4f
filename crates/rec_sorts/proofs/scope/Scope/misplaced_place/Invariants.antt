use Rattle.std.proofs.Common.{◌≡◌, drop, length}
use Rattle.rec_sorts.specs.Least.{earlier}
use Rattle.rec_sorts.specs.Letters.{misplaced}
use Rattle.rec_sorts.proofs.scope.Scope.misplaced_place.Given as goal

abbrev pub invariant-loop-argument : goal.invariant-loop-argument
invariant-loop-argument l = earlier l.least (misplaced l.self (drop (length l.yielded) l.arguments) (drop (length l.yielded) l.sorts)) ≡ misplaced
    l.self l.arguments l.sorts
