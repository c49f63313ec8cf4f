use Rattle.std.proofs.Common.{◌≡◌, drop}
use Rattle.rec_sorts.specs.Least.{earlier}
use Rattle.rec_sorts.specs.Letters.{unknown_among}
use Rattle.rec_sorts.proofs.terms.unknown_place.Given as goal

abbrev pub invariant-loop-placed : goal.invariant-loop-placed
invariant-loop-placed l = earlier l.least (unknown_among (drop l.placed-index l.letters)) ≡ unknown_among l.letters
