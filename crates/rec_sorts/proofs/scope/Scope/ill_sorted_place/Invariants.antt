use Rattle.std.proofs.Common.{◌≡◌, drop, []}
use Rattle.rec_sorts.specs.Least.{earlier}
use Rattle.rec_sorts.specs.Letters.{ill_sorted_among}
use Rattle.rec_sorts.proofs.scope.Scope.ill_sorted_place.Given as goal

abbrev pub invariant-loop-placed : goal.invariant-loop-placed
invariant-loop-placed l = earlier l.least (ill_sorted_among l.self l.heads.items (drop l.placed-index l.letters)) ≡ ill_sorted_among l.self [] l.letters
