-- The state of a store in contracts.
use Rattle.std.specs.Prelude.{ℕ, ◌-◌, min, List, Option, length, vec_capacity}
use Rattle.std.specs.FinMap as map
use Rattle.rx_term.specs.Tree.{Tree}
use Rattle.rx_term.specs.Store.{Store}
use Rattle.std.specs.Ordering.{nat_cmp}
use Rattle.rx_term.specs.Name.{Signature}
use Rattle.rx_names.specs.Names.{symbols_of}
use Rattle.rx_term.specs.Heap.{Least, is_whole}
use Rattle.rx_plain.specs.Slots.{heap_of, roots_of, cell_of}
use Rattle.rx_term.specs.Bank.{table_of, heap_store, tree_of_cell}
pub use Rattle.rx_term.specs.Bank.{IsEmptyStore}
use Rattle.rx_plain.specs.declared.slots.Body.{Body}
use Rattle.rx_plain.specs.declared.slots.Slot.{Slot}
use Rattle.rx_plain.specs.declared.bank.PlainBank.{PlainBank}

-- store_from: the store with these symbols and slots, this limit, this number of taken slots, and
-- this capacity
abbrev pub store_from : (symbols : map.FinMap nat_cmp Signature) (xs : List Slot)
    → Least (is_whole (heap_of xs) (table_of symbols) (length xs)) → ℕ → ℕ → ℕ → Store
store_from symbols xs w cap taken room = heap_store symbols (heap_of xs) (length xs) w (roots_of xs)
    cap (min room cap - taken)

-- store_of b: the state of a store
abbrev pub store_of : PlainBank → Store
store_of b = store_from (symbols_of b.names) b.slots.items b.whole b.cap b.taken
    (vec_capacity b.slots)

-- tree_of_body w x: the tree of a body, from the trees of references
abbrev pub tree_of_body : Store → Body → Option Tree
tree_of_body w x = tree_of_cell w (cell_of x)
