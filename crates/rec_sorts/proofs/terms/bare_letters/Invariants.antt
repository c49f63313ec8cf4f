use Rattle.std.proofs.Common.{◌≡◌, take}
use Rattle.rec_sorts.specs.Letters.{bare}
use Rattle.rec_sorts.proofs.terms.bare_letters.Given as goal

abbrev pub invariant-loop-placed : goal.invariant-loop-placed
invariant-loop-placed l = l.kept.items ≡ bare (take l.placed-index l.letters)
