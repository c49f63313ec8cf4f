use Rattle.std.proofs.Common.{◌≡◌, take}
use Rattle.std.specs.Prelude.{filter}
use Rattle.rec_uses.specs.Inner.Values.{as_use, as_uses}
use Rattle.rec_uses.specs.Uses.{names_same}
use Rattle.rec_uses.proofs.choosing.like.Given as goal

abbrev pub invariant-loop-used : goal.invariant-loop-used
invariant-loop-used l = as_uses l.kept.items ≡ filter (λ u. names_same (as_use l.picked) u) (as_uses (take l.used-index l.uses))
