use Rattle.std.proofs.Common.{◌≡◌, ◌<◌, ℕ, None}
use Rattle.rx_plain.specs.Slots.{heap_of}
use Rattle.rx_plain.proofs.slots.find_free.Given as goal

abbrev pub invariant-loop-i : goal.invariant-loop-i
invariant-loop-i l = (t : ℕ) → t < l.i → heap_of l.slots t ≡ None → ⊥
