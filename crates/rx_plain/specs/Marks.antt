-- Marks on slots, and the effects of marking functions.
use Rattle.std.specs.Prelude.{ℕ, ◌+◌, ◌<◌, ◌≡◌, ◌⊎◌, Bool, true, false, List, [], ◌∷◌, length}
use Rattle.std.specs.Prelude.{Option, Some, None, Contains, if◌then◌else◌, nat_lt}
use Rattle.rx_term.specs.Heap.{Cell, links, IsLinked}
use Rattle.rx_term.specs.declared.Term.{Term}
use Rattle.rx_plain.specs.Slots.{heap_of, roots_of, marks_of, cell_in}
use Rattle.rx_plain.specs.declared.slots.Slot.{Slot}

-- count_unless b n: `n`, plus 1 if the slot is not marked
abbrev pub count_unless : Bool → ℕ → ℕ
count_unless true n = n
count_unless false n = n + 1

-- unmarked slots: the number of slots that are not marked
abbrev pub unmarked : List Slot → ℕ
unmarked [] = 0
unmarked (s ∷ ss) = count_unless s.mark (unmarked ss)

-- Keeps old new: only marks differ, and no mark is removed
pub record Keeps (old new : List Slot) : Type 0 where
  pub heap : heap_of new ≡ heap_of old
  pub roots : roots_of new ≡ roots_of old
  pub len : length new ≡ length old
  pub grows : (t : ℕ) → marks_of old t ≡ true → marks_of new t ≡ true

-- Marks old new here: exactly these slots are marked in addition
pub record Marks (old new : List Slot) (here : List ℕ) : Type 0 where
  pub keeps : Keeps old new
  pub all : (t : ℕ) → Contains here t → marks_of new t ≡ true
  pub only : (t : ℕ) → marks_of new t ≡ true → (marks_of old t ≡ true) ⊎ Contains here t

-- Fresh b old new: whether there is a new mark
abbrev pub Fresh : Bool → List Slot → List Slot → Type 0
Fresh false old new = new ≡ old
Fresh true old new = unmarked new < unmarked old

-- cell_links o: the slots that a cell names
abbrev pub cell_links : Option Cell → List ℕ
cell_links None = []
cell_links (Some x) = links x

-- links_below o: the slots that a slot names, if it is marked
abbrev pub links_below : Option Slot → List ℕ
links_below None = []
links_below (Some s) = if s.mark then cell_links (cell_in s.body) else []

-- AreLinksWithin xs: cells name only slots of the vector
abbrev pub AreLinksWithin : List Slot → Type 0
AreLinksWithin xs = (t i : ℕ) (x : Cell) → heap_of xs t ≡ Some x → Contains (links x) i
    → i < length xs

-- IsMarkClosedAt xs t: if slot `t` is marked, the slots that it names are marked
abbrev pub IsMarkClosedAt : List Slot → ℕ → Type 0
IsMarkClosedAt xs t = (i : ℕ) (x : Cell) → marks_of xs t ≡ true → heap_of xs t ≡ Some x
    → Contains (links x) i → marks_of xs i ≡ true

-- MarksAreClosed xs: the slots that marked slots name are marked
abbrev pub MarksAreClosed : List Slot → Type 0
MarksAreClosed xs = (t : ℕ) → IsMarkClosedAt xs t

-- OnlyLinked old new: each mark is on a slot that marked slots reach
abbrev pub OnlyLinked : List Slot → List Slot → Type 0
OnlyLinked old new = (t : ℕ) → marks_of new t ≡ true
    → IsLinked (heap_of old) (λ s. marks_of old s ≡ true) t

-- Progress: no new mark, and the slots that the first `k` slots name are marked; or there are new
-- marks
abbrev pub Progress : Bool → List Slot → List Slot → ℕ → Type 0
Progress false old new k = (new ≡ old) × ((t : ℕ) → t < k → IsMarkClosedAt old t)
Progress true old new k = unmarked new < unmarked old

-- Passes: one pass: no new mark if all named slots were marked, otherwise fewer slots are unmarked
pub record Passes (old new : List Slot) (fresh : Bool) : Type 0 where
  pub keeps : Keeps old new
  pub only : OnlyLinked old new
  pub progress : Progress fresh old new (length old)

-- Spreads old new: all slots that marked slots reach are marked
pub record Spreads (old new : List Slot) : Type 0 where
  pub keeps : Keeps old new
  pub only : OnlyLinked old new
  pub closed : MarksAreClosed new

-- IsStart xs extra t: the slot is protected, or one of `extra`
abbrev pub IsStart : List Slot → List Term → ℕ → Type 0
IsStart xs extra t = (0 < roots_of xs t) ⊎ ((r : Term) × Contains extra r × (r.0 ≡ t))

-- Reaches old new extra: exactly the slots that these slots reach are marked
pub record Reaches (old new : List Slot) (extra : List Term) : Type 0 where
  pub heap : heap_of new ≡ heap_of old
  pub roots : roots_of new ≡ roots_of old
  pub len : length new ≡ length old
  pub started : (t : ℕ) → IsStart old extra t → marks_of new t ≡ true
  pub closed : MarksAreClosed new
  pub only : (t : ℕ) → marks_of new t ≡ true → IsLinked (heap_of old) (IsStart old extra) t

-- root_marked s: the slot, marked if and only if it is protected
abbrev pub root_marked : Slot → Slot
root_marked s = record { body = s.body; roots = s.roots; mark = nat_lt 0 s.roots }
