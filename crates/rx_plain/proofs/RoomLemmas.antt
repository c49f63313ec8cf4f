-- More room for the same slots.
use Rattle.std.proofs.Common.{List, length, ℕ, ◌≡◌, ◌+◌, ◌≤◌, refl, ap, arith, vec_capacity}
use Rattle.rx_term.specs.Steps.{Reserves, RefusesReserve, ReserveFits}
use Rattle.rx_term.specs.Heap.{Least, is_whole}
use Rattle.rx_names.specs.Names.{symbols_of}
use Rattle.rx_term.specs.declared.faults.BankFault.{BankFault}
use Rattle.rx_plain.specs.declared.slots.Slot.{Slot}
use Rattle.rx_plain.specs.Slots.{heap_of, roots_of}
use Rattle.rx_plain.specs.State.{store_of, store_from}
use Rattle.rx_plain.specs.declared.bank.PlainBank.{PlainBank}
use Rattle.rx_plain.specs.Inner.Soundness.{table}
use Rattle.rx_plain.proofs.ContentLemmas.{same-content}

-- more room for the same slots
pub same-slots-reserve : (b : PlainBank) (ys : List Slot) (w : Least (is_whole (heap_of ys) (table b) (length ys))) (room k : ℕ) → ys ≡ b.slots.items
    → vec_capacity b.slots ≤ room → b.taken + k ≤ b.cap → b.taken + k ≤ room → Reserves (store_of b) (store_from (symbols_of b.names) ys w b.cap b.taken room) k
same-slots-reserve b ys w room k items enough limit wanted = record {
  content = same-content (table b) b.slots.items ys items b.whole w;
  beside = record { symbols = refl; roots = ap roots_of items; cap = refl };
  room = omega arith;
  reserved = omega arith;
}

pub same-slots-refused : (b : PlainBank) (ys : List Slot) (w : Least (is_whole (heap_of ys) (table b) (length ys))) (room k : ℕ) (e : BankFault)
    → ys ≡ b.slots.items → vec_capacity b.slots ≤ room → ReserveFits (store_of b) k e
    → RefusesReserve (store_of b) (store_from (symbols_of b.names) ys w b.cap b.taken room) k e
same-slots-refused b ys w room k e items enough fits = record {
  content = same-content (table b) b.slots.items ys items b.whole w;
  beside = record { symbols = refl; roots = ap roots_of items; cap = refl };
  room = omega arith;
  fits = fits;
}
