-- Every store satisfies the invariant of term stores.
use Rattle.std.proofs.Common.{List, length, ℕ, ◌≡◌, ◌≤◌, ◌<◌, true, Option, Some, None, is_some}
use Rattle.std.proofs.Common.{refl, ap, inl, inr, arith}
use Rattle.std.specs.FinMap as map
use Rattle.std.proofs.lemmas.Option.{slice_get_past}
use Rattle.rx_term.specs.Steps.{IsSound}
use Rattle.rx_term.specs.Heap.{Cell, Table, tree_of, IsHeap, content_by}
use Rattle.rx_term.proofs.HeapLemmas.{lt_or_le}
use Rattle.rx_term.proofs.ContentLemmas.{len-tabulate-le}
use Rattle.rx_term.proofs.BankLemmas as heaps
use Rattle.rx_term.proofs.BankLemmas.{heap-sound}
use Rattle.rx_names.specs.Names.{symbols_of}
use Rattle.rx_names.proofs.NameLemmas.{table as names-table}
use Rattle.rx_plain.specs.declared.slots.Slot.{Slot}
use Rattle.rx_plain.specs.Slots.{heap_of, roots_of, cell_at}
use Rattle.rx_term.specs.Bank.{table_of}
use Rattle.rx_plain.specs.State.{store_of}
use Rattle.rx_plain.specs.declared.bank.PlainBank.{PlainBank}

-- the signatures of a store's symbols
abbrev pub table : PlainBank → Table
table b = table_of (symbols_of b.names)

-- a slot with a cell is one of the vector
pub cell-within : (xs : List Slot) (t : ℕ) (x : Cell) → heap_of xs t ≡ Some x → t < length xs
cell-within xs t x e = elim (lt_or_le t (length xs)) [
  | inl lt ↦ lt
  | inr le ↦ (let q : heap_of xs t ≡ None = ap cell_at (slice_get_past xs t le) in cc)
]

-- a store's slots are a heap
pub bank-heap : (b : PlainBank)
    → IsHeap (heap_of b.slots.items) (table b) (length b.slots.items) b.whole.0
bank-heap b = record {
  bounded = λ t le. ap cell_at (slice_get_past b.slots.items t le);
  distinct = b.distinct;
  whole = b.whole.1.passes;
  symbols = names-table b.names;
}

-- there are at most as many taken slots as slots
pub taken-le : (b : PlainBank) → b.taken ≤ length b.slots.items
unfolding content_by
taken-le b =
    let n = length b.slots.items in
    let counted = b.counted in
    let most = len-tabulate-le n (tree_of (heap_of b.slots.items) (table b) b.whole.0) in
    omega (arith, counted, most)

-- a reference exists if and only if its slot has a cell
pub cell-held : (b : PlainBank) (t : ℕ)
    → is_some (map.get (store_of b).content t) ≡ is_some (heap_of b.slots.items t)
cell-held b = heaps.cell-held (heap_of b.slots.items) (table b) (length b.slots.items) b.whole
    (bank-heap b)

-- every store satisfies the invariant of term stores
pub sound : (b : PlainBank) → IsSound (store_of b)
unfolding content_by
sound b = heap-sound (symbols_of b.names) (heap_of b.slots.items) (length b.slots.items) b.whole
    (bank-heap b) (roots_of b.slots.items) b.cap (store_of b).spare
    (λ t pos. taken_if_rooted t (heap_of b.slots.items t) refl pos) b.counts
    (let p = b.counted in
    let q = taken-le b in let r : length b.slots.items ≤ b.cap = b.bounded in omega arith) where
      taken_if_rooted : (t : ℕ) (o : Option Cell) → heap_of b.slots.items t ≡ o
          → 0 < roots_of b.slots.items t → is_some o ≡ true
      taken_if_rooted t None e pos = let z = b.unrooted t e in absurd (omega arith)
      taken_if_rooted t (Some x) e pos = refl
