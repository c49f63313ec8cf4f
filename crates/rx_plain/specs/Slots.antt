-- The heap that a vector of slots represents.
use Rattle.std.specs.Prelude.{ℕ, List, Bool, true, false, Option, Some, None, is_some, slice_get}
use Rattle.rx_term.specs.declared.Term.{Term}
use Rattle.rx_term.specs.Heap.{Node, number, empty, pair, application, placeholder, Cell, Heap}
use Rattle.rx_plain.specs.declared.slots.Body.{Body}
use Rattle.rx_plain.specs.declared.slots.Slot.{Slot}
use Rattle.rx_plain.specs.declared.slots.Shape.{Shape}
use Rattle.rx_plain.specs.declared.slots.Shape.TheVariants as shape

-- node_of shape: the node of a shape
abbrev pub node_of : Shape → Node
node_of (shape.Int z) = number z
node_of shape.Nil = empty
node_of (shape.Cons i j) = pair i.0 j.0
node_of (shape.Appl s j) = application s.0 j.0
node_of (shape.Hole i) = placeholder i.0

-- notes_of anns: the slot of the annotations
abbrev pub notes_of : Option Term → Option ℕ
notes_of None = None
notes_of (Some t) = Some t.0

-- cell_of b: the cell of a body
abbrev pub cell_of : Body → Cell
cell_of b = record { node = node_of b.shape; notes = notes_of b.anns }

-- cell_in o: the cell of a body that may not exist
abbrev pub cell_in : Option Body → Option Cell
cell_in None = None
cell_in (Some b) = Some (cell_of b)

-- cell_at o: the cell of a slot
abbrev pub cell_at : Option Slot → Option Cell
cell_at None = None
cell_at (Some s) = cell_in s.body

-- heap_of xs: the cell of each slot
abbrev pub heap_of : List Slot → Heap
heap_of xs t = cell_at (slice_get xs t)

-- count_in o: the number of protections of a slot
abbrev pub count_in : Option Slot → ℕ
count_in None = 0
count_in (Some s) = s.roots

-- roots_of xs t: the number of protections of slot `t`
abbrev pub roots_of : List Slot → ℕ → ℕ
roots_of xs t = count_in (slice_get xs t)

-- swept_by marked s: the slot after a sweep: kept if it was marked, otherwise free; not marked
abbrev pub swept_by : Bool → Slot → Slot
swept_by true s = record { body = s.body; roots = s.roots; mark = false }
swept_by false s = record { body = None; roots = 0; mark = false }

-- swept_of s: the slot after a sweep
abbrev pub swept_of : Slot → Slot
swept_of s = swept_by s.mark s

-- is_taken s: the slot is taken
abbrev pub is_taken : Slot → Bool
is_taken s = is_some s.body

-- mark_in o: the slot is marked
abbrev pub mark_in : Option Slot → Bool
mark_in None = false
mark_in (Some s) = s.mark

-- marks_of xs t: slot `t` is marked
abbrev pub marks_of : List Slot → ℕ → Bool
marks_of xs t = mark_in (slice_get xs t)
