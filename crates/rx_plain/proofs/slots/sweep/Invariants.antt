use Rattle.std.proofs.Common.{◌≡◌}
use Rattle.rx_plain.specs.Slots.{swept_of}
use Rattle.rx_plain.proofs.SweepLemmas.{partly}
use Rattle.rx_plain.proofs.slots.sweep.Given as goal

abbrev pub invariant-loop-i : goal.invariant-loop-i
invariant-loop-i l = l.slots ≡ partly swept_of l.fn.slots l.i
