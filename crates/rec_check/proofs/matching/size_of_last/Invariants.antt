use Rattle.std.proofs.Common.{◌≡◌, ◌++◌, ◌<◌, List, length, map}
use Rattle.rec_syntax.specs.Syntax.{Spec, Term}
use Rattle.rec_sorts.specs.Numbering.{Named, named, named_by}
use Rattle.rec_check.proofs.TrialLemmas.{AreDue}
use Rattle.rec_check.proofs.matching.size_of_last.Given as goal

-- so many terms end before the place
abbrev pub invariant-loop-due : goal.invariant-loop-due
invariant-loop-due l = record {
  within : l.at < length l.letters;
  are : (y : Spec) (ms : List Named) (t : Term) → map (named_by y) l.letters ≡ ms ++ named t → AreDue l.letters l.at l.due y ms;
}

abbrev pub decreases-loop-due : goal.decreases-loop-due
decreases-loop-due l = l.due
