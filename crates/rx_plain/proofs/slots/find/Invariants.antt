use Rattle.std.proofs.Common.{◌≡◌, ◌<◌, ℕ, Some}
use Rattle.rx_plain.specs.Slots.{heap_of, cell_of}
use Rattle.rx_plain.proofs.slots.find.Given as goal

abbrev pub invariant-loop-i : goal.invariant-loop-i
invariant-loop-i l = (t : ℕ) → t < l.i → heap_of l.slots t ≡ Some (cell_of l.body) → ⊥
