use Rattle.std.proofs.Common.{length, take}
use Rattle.rec_match.proofs.OrderLemmas.{Numbered}
use Rattle.rec_match.proofs.build.push_variables.Given as goal

abbrev pub invariant-loop-letter : goal.invariant-loop-letter
invariant-loop-letter l = Numbered (length l.fn.places.of.items) (take l.letter-index l.letters) l.variables.items l.places.of.items
