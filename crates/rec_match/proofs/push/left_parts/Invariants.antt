use Rattle.rec_match.specs.Pushed.{AreLeftParts}
use Rattle.rec_match.proofs.push.left_parts.Given as goal

abbrev pub invariant-loop-rule : goal.invariant-loop-rule
invariant-loop-rule l = AreLeftParts l.checked.spec l.parts l.numbers.items l.rule
