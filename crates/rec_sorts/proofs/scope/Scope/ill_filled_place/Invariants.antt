use Rattle.std.proofs.Common.{◌≡◌, drop}
use Rattle.rec_sorts.specs.Least.{earlier}
use Rattle.rec_sorts.specs.Letters.{ill_filled_among}
use Rattle.rec_sorts.proofs.scope.Scope.ill_filled_place.Given as goal

abbrev pub invariant-loop-placed : goal.invariant-loop-placed
invariant-loop-placed l = earlier l.least (ill_filled_among l.self (drop l.placed-index l.letters)) ≡ ill_filled_among l.self l.letters
