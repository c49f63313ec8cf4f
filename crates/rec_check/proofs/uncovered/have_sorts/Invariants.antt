use Rattle.std.proofs.Common.{◌≡◌, map, take}
use Rattle.rec_syntax.specs.Parts.{words_of}
use Rattle.rec_check.specs.Inner.Grounds.{sorts_had}
use Rattle.rec_check.proofs.uncovered.have_sorts.Given as goal

-- the sorts so far are the same
abbrev pub invariant-loop-i : goal.invariant-loop-i
invariant-loop-i l = sorts_had (take l.i l.terms) ≡ map (λ w. w.bytes) (words_of l.syntax.source (take l.i l.sorts))
