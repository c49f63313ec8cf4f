use Rattle.std.proofs.Common.{◌≡◌, take}
use Rattle.rec_check.proofs.matching.same_letters.Given as goal

-- the letters so far are the same
abbrev pub invariant-loop-i : goal.invariant-loop-i
invariant-loop-i l = take l.i l.left ≡ take l.i l.right
