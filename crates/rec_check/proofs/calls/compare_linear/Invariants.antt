use Rattle.std.specs.Prelude.{length}
use Rattle.rec_check.specs.Inner.Trials.{AreSizes}
use Rattle.rec_check.proofs.calls.compare_linear.Given as goal

abbrev pub invariant-loop-letter : goal.invariant-loop-letter
invariant-loop-letter l = AreSizes l.terms.letters.now l.terms.sizes.now

abbrev pub decreases-loop-letter : goal.decreases-loop-letter
decreases-loop-letter l = length l.letters
