-- The terms that a heap keeps, and the results of its functions.
use Rattle.std.specs.Prelude.{List, [], Result}
use Rattle.rx_term.specs.Store.{Store}
use Rattle.rx_term.specs.Steps.{Keeps}
use Rattle.rx_term.specs.Walks.{AllHeld}
use Rattle.rx_term.specs.declared.Term.{Term}
use Rattle.rec_engine.specs.declared.heap.cells.Node.{Node}
use Rattle.rec_engine.specs.declared.engine.errors.EngineFault.{EngineFault}
use Rattle.rec_engine.specs.declared.heap.Heap.{Heap}
use Rattle.rec_engine.specs.declared.heap.pace.Pace.{Pace}
use Rattle.rec_engine.specs.Cells.{built, MakesFor, RoomOnly}
use Rattle.rec_engine.specs.Inner.Pace.{KeepsKnown}

-- IsHeld store h: all references of the value stack are in the store
abbrev pub IsHeld : {B : Type 0} → (B → Store) → Heap B → Type 0
IsHeld store h = AllHeld (store h.bank) h.work.items

-- Keeping old new kept p p': protected terms, the references `kept`, known constants and memoized
-- results keep their trees
pub record Keeping (old new : Store) (kept : List Term) (p p' : Pace) : Type 0 where
  pub keeps : Keeps old new kept
  pub known : KeepsKnown old new p p'

-- KeepsHeap store old new: protected terms, the value stack, known constants and memoized results
-- keep their trees
abbrev pub KeepsHeap : {B : Type 0} → (B → Store) → Heap B → Heap B → Type 0
KeepsHeap store old new = Keeping (store old.bank) (store new.bank) old.work.items old.pace new.pace

-- KeepsRoots store old new: protected terms, known constants and memoized results keep their trees;
-- the value stack need not
abbrev pub KeepsRoots : {B : Type 0} → (B → Store) → Heap B → Heap B → Type 0
KeepsRoots store old new = Keeping (store old.bank) (store new.bank) [] old.pace new.pace

-- HasRoomOnly store h r: `Room` is returned only if the store of the heap is full of needed terms
-- and the memo table is empty; `Deep` is never returned
abbrev pub HasRoomOnly : {A B : Type 0} → (B → Store) → Heap B → Result A EngineFault → Type 0
HasRoomOnly store h r = RoomOnly (store h.bank) h.work.items h.pace.memo r

-- MakesIn store old new node r: the reference of the tree of a node, or an error with its reason
abbrev pub MakesIn : {B : Type 0} → (B → Store) → Heap B → Heap B → Node → Result Term EngineFault
    → Type 0
MakesIn store old new node r = MakesFor (store new.bank) new.work.items new.pace.memo
    (built (store old.bank) node) r
