use Rattle.std.proofs.Common.{◌≡◌}
use Rattle.std.specs.Prelude.{◌⊎◌}
use Rattle.rec_check.specs.Inner.Rewriters.{HasSymbol}
use Rattle.rec_check.proofs.rewriting.classes.rarest_letter.Given as goal

-- the rarest symbol so far
abbrev pub invariant-loop-letter : goal.invariant-loop-letter
invariant-loop-letter l = (l.rarest ≡ l.head) ⊎ HasSymbol l.left l.rarest
