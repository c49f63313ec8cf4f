use Rattle.std.proofs.Common.{length}
use Rattle.rec_check.specs.Inner.Trials.{AreSizes}
use Rattle.rec_check.proofs.TrialLemmas.{AreAsked}
use Rattle.rec_check.proofs.matching.all_match.Given as goal

-- what is left to be asked says whether the left side matches
abbrev pub invariant-loop-letter : goal.invariant-loop-letter
invariant-loop-letter l = record {
  asked : AreAsked l.left l.term.letters.now l.letters l.terms.letters.now l.values;
  sizes : AreSizes l.terms.letters.now l.terms.sizes.now;
}

abbrev pub decreases-loop-letter : goal.decreases-loop-letter
decreases-loop-letter l = length l.letters
