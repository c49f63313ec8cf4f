use Rattle.std.proofs.Common.{take}
use Rattle.rec_check.specs.Inner.Trials.{AreSizes}
use Rattle.rec_check.proofs.matching.sizes.Given as goal

-- those of the letters so far
abbrev pub invariant-loop-i : goal.invariant-loop-i
invariant-loop-i l = AreSizes (take l.i l.letters) l.sizes.items
