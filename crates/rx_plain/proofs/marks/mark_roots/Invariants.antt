use Rattle.std.proofs.Common.{◌≡◌}
use Rattle.rx_plain.specs.Marks.{root_marked}
use Rattle.rx_plain.proofs.SweepLemmas.{partly}
use Rattle.rx_plain.proofs.marks.mark_roots.Given as goal

abbrev pub invariant-loop-place : goal.invariant-loop-place
invariant-loop-place l = l.slots ≡ partly root_marked l.fn.slots l.place
