-- Pending nodes of growing matching trees, and the steps by which trees grow.
use Rattle.std.specs.Prelude.{ℕ, ◌≡◌, ◌≢◌, ◌+◌, ◌<◌, ◌≤◌, ◌⊎◌, Bool, true, false, List, [], ◌∷◌}
use Rattle.std.specs.Prelude.{◌++◌, All, length, map, get_or, set, ◌-◌, Some}
use Rattle.rec_syntax.specs.Syntax.{Spec}
use Rattle.rec_sorts.specs.Lookup.{symbols}
use Rattle.rec_sorts.specs.Laws.{Every}
use Rattle.rec_sorts.specs.Numbering.{name_of, arity_of}
use Rattle.rec_sorts.specs.declared.letters.Meaning.TheVariants.{Symbol}
use Rattle.rec_match.specs.Rows.{Row, opened_cells, changed}
use Rattle.rec_match.specs.Forests.{no_child, number_at, IsNew}
use Rattle.rec_match.specs.Inner.Growing.{State, AllWithin, Grows, Extends}
use Rattle.rec_match.specs.Inner.Marking.{HasMarks}
use Rattle.rec_match.specs.Inner.Starting.{ChainsRules}
use Rattle.rec_match.specs.Leaves.{code_places}
use Rattle.rec_match.specs.Matching.{numbers_of}
use Rattle.rec_match.specs.Parts.{Coded, coded_of, AreDistinct, AreDistinctVariables, AreRows}
use Rattle.rec_match.specs.Parts.{IsWhole}
use Rattle.rec_match.specs.Pushed.{AreLeftParts}
use Rattle.rec_match.specs.declared.forest.Child.{Child}
use Rattle.rec_match.specs.declared.forest.Forest.{Forest}
use Rattle.rec_match.specs.declared.forest.Node.TheVariants.{Fail, Try, Switch}
use Rattle.rec_match.specs.declared.forest.Place.{Place}
use Rattle.rec_match.specs.declared.parts.Code.{Code}
use Rattle.rec_match.specs.declared.parts.Parts.{Parts}
use Rattle.rec_match.specs.declared.grow.Grower.{Grower}
use Rattle.rec_match.specs.declared.grow.Growth.{Growth}
use Rattle.rec_match.specs.declared.grow.Pending.{Pending}
use Rattle.rec_match.specs.declared.marks.Marks.{Marks}
use Rattle.rec_match.specs.declared.parts.CodeRow.{CodeRow}

-- a pending node: the number of registers, and the rows that remain
pub record Task : Type 0 where
  pub node : ℕ
  pub width : ℕ
  pub rows : List Coded

-- task_of p: the pending node
abbrev pub task_of : Pending → Task
task_of p = record { node = p.node; width = p.width; rows = map coded_of p.rows.items }

-- AreApart y ns: different symbols have different numbers in the store
abbrev pub AreApart : Spec → List ℕ → Type 0
AreApart y ns = (i j : ℕ) → i < length (symbols y) → j < length (symbols y)
    → number_at ns i ≡ number_at ns j → i ≡ j

-- IsGround y ns ps: the assumptions of tree building: distinct names and numbers, complete parts
pub record IsGround (y : Spec) (ns : List ℕ) (ps : Parts) : Type 0 where
  pub symbols_differ : AreDistinct y
  pub variables_differ : AreDistinctVariables y
  pub numbers_differ : AreApart y ns
  pub whole : IsWhole ps

-- AreThere n cs: the parts of these tests exist
abbrev pub AreThere : ℕ → List Code → Type 0
AreThere n cs = Every (λ (c : Code). c.part < n) cs

-- AreLeft: the coded rows represent these rows, and their parts and registers exist
pub record AreLeft (y : Spec) (ps : Parts) (width : ℕ) (coded : List Coded) (rows : List Row)
    : Type 0 where
  pub are : AreRows y ps coded rows
  pub there : Every (λ (r : Coded). AreThere (length ps.parts.items) r.codes) coded
  pub registers : AllWithin width rows

-- IsTask y ps f s t: the rows of a pending node are those that it represents
pub record IsTask (y : Spec) (ps : Parts) (f : Forest) (s : ℕ → State) (t : Task) : Type 0 where
  pub there : t.node < length f.nodes.items
  pub width : (s t.node).width ≡ t.width
  pub rows : AreLeft y ps t.width t.rows (s t.node).rows

-- Waits ts n: node `n` is pending
abbrev pub Waits : List Task → ℕ → Type 0
Waits [] n = ⊥
Waits (t ∷ ts) n = (t.node ≡ n) ⊎ Waits ts n

-- Growing: each node is pending or represents its rows
pub record Growing (y : Spec) (ns : List ℕ) (ps : Parts) (f : Forest) (ts : List Task)
    (s : ℕ → State) : Type 0 where
  pub tasks : Every (IsTask y ps f s) ts
  pub nodes : (n : ℕ) → n < length f.nodes.items
      → Waits ts n ⊎ Grows y ns f s n (get_or f.nodes.items n Fail)

-- GoesOn: old nodes represent the same rows, and nodes that were not pending are unchanged
pub record GoesOn (y : Spec) (ns : List ℕ) (ps : Parts) (f : Forest) (ts : List Task)
    (s : ℕ → State) (g : Forest) (us : List Task) : Type 0 where
  pub states : ℕ → State
  pub extends : Extends f s g states
  pub growing : Growing y ns ps g us states
  pub kept : (n : ℕ) → n < length f.nodes.items → (Waits ts n → ⊥)
      → (Waits us n → ⊥) × (get_or g.nodes.items n Fail ≡ get_or f.nodes.items n Fail)

-- Steps: a step of building; all nodes still represent their rows after it
abbrev pub Steps : Spec → List ℕ → Parts → Forest → List Task → Forest → List Task → Type 0
Steps y ns ps f ts g us = (s : ℕ → State) → Growing y ns ps f ts s → GoesOn y ns ps f ts s g us

-- IsBranch: a child of a symbol represents what remains of the rows for it
pub record IsBranch (y : Spec) (ns : List ℕ) (f : Forest) (s : ℕ → State) (n register number : ℕ)
    (child : Child) : Type 0 where
  pub symbol : ℕ
  pub declared : symbol < length (symbols y)
  pub numbered : number_at ns symbol ≡ number
  pub counted : child.count ≡ arity_of y symbol
  pub later : n < child.node
  pub there : child.node < length f.nodes.items
  pub state : s child.node
      ≡ record {
        width = (s n).width + arity_of y symbol;
        rows = changed
            (opened_cells y register (name_of y (Symbol symbol)) (arity_of y symbol) (s n).width)
            (s n).rows;
      }

-- Branches: the children in a window belong to symbols, and those of `ks` from index `m` on exist
pub record Branches (y : Spec) (ns : List ℕ) (f : Forest) (s : ℕ → State) (n register low : ℕ)
    (ks : List ℕ) (window : List Child) (m : ℕ) : Type 0 where
  pub each : (q : ℕ) → q < length window → (get_or window q no_child).node ≢ 0
      → IsBranch y ns f s n register (low + q) (get_or window q no_child)
  pub all : (i : ℕ) → m ≤ i → i < length ks
      → (get_or window (number_at ns (get_or ks i 0) - low) no_child).node ≢ 0

-- Covers ns ks low span: the numbers of these symbols lie in the window
abbrev pub Covers : List ℕ → List ℕ → ℕ → ℕ → Type 0
Covers ns ks low span = (i : ℕ) → i < length ks
    → (low ≤ number_at ns (get_or ks i 0)) × (number_at ns (get_or ks i 0) < low + span)

-- AddsNode f g node: one node is added, at which no rule remains
pub record AddsNode (f g : Forest) (node : ℕ) : Type 0 where
  pub node_is : node ≡ length f.nodes.items
  pub nodes : g.nodes.items ≡ f.nodes.items ++ Fail ∷ []
  pub places : g.places.items ≡ f.places.items
  pub children : g.children.items ≡ f.children.items

-- Adds: one pending node is added
pub record Adds (f : Forest) (ts : List Task) (g : Forest) (us : List Task) (width : ℕ)
    (coded : List Coded) (node : ℕ) : Type 0 where
  pub one : AddsNode f g node
  pub tasks : us ≡ ts ++ (record { node = node; width = width; rows = coded }) ∷ []

-- WritesTry: the node becomes one that tries a rule, with these positions
pub record WritesTry (f g : Forest) (n rule : ℕ) (pl : List Place) (next : ℕ) : Type 0 where
  pub linear : Bool
  pub are_new : linear ≡ true → All IsNew pl
  pub nodes : g.nodes.items
      ≡ set f.nodes.items n
      (Try rule (length f.places.items) (length f.places.items + length pl) next linear)
  pub places : g.places.items ≡ f.places.items ++ pl
  pub children : g.children.items ≡ f.children.items

-- WritesSwitch: the node becomes a switch with this window of children
pub record WritesSwitch (f g : Forest) (n register low : ℕ) (window : List Child) (other : ℕ)
    : Type 0 where
  pub nodes : g.nodes.items
      ≡ set f.nodes.items n (Switch register low (length f.children.items) (length window) other)
  pub places : g.places.items ≡ f.places.items
  pub children : g.children.items ≡ f.children.items ++ window

-- Branched: children of the symbols from index `m` on were added while a node is pending
pub record Branched (y : Spec) (ns : List ℕ) (ps : Parts) (f : Forest) (ts : List Task)
    (s : ℕ → State) (t : Task) (g : Forest) (us : List Task) (register low : ℕ) (ks : List ℕ)
    (window : List Child) (m : ℕ) : Type 0 where
  pub goes : GoesOn y ns ps f (t ∷ ts) s g (t ∷ us)
  pub branches : Branches y ns g goes.states t.node register low ks window m

-- BranchesOut: this holds for each pending node with these rows
abbrev pub BranchesOut : Spec → List ℕ → Parts → Forest → List Task → ℕ → List Coded → Forest
    → List Task → ℕ → ℕ → List ℕ → List Child → ℕ → Type 0
BranchesOut y ns ps f ts width coded g us register low ks window m = (n : ℕ) (s : ℕ → State)
    → Growing y ns ps f ((record { node = n; width = width; rows = coded }) ∷ ts) s
    → Branched y ns ps f ts s (record { node = n; width = width; rows = coded }) g us register low
    ks window m

-- TriesFirst: the first row becomes a leaf, and the remaining rows a pending node after it
abbrev pub TriesFirst : Forest → List Task → ℕ → ℕ → ℕ → List Place → List Coded → Forest
    → List Task → Type 0
TriesFirst f ts n width rule pl rest g us = (y : Spec) (ns : List ℕ) (ps : Parts) (cs : List Code)
    → IsGround y ns ps → code_places ps [] cs ≡ Some pl
    → Steps y ns ps f
    ((record { node = n; width = width; rows = (record { number = rule; codes = cs }) ∷ rest })
    ∷ ts) g us

-- TreeGoesOn: the forest has grown, and a root other than 0 represents all rows
pub record TreeGoesOn (y : Spec) (ns : List ℕ) (ps : Parts) (f : Forest) (s : ℕ → State) (width : ℕ)
    (rows : List Row) (g : Forest) (root : ℕ) : Type 0 where
  pub goes : GoesOn y ns ps f [] s g []
  pub stands : root ≢ 0
      → (root < length g.nodes.items) × (goes.states root ≡ record { width = width; rows = rows })

-- HasTree: a tree has grown at the root, or there is none
abbrev pub HasTree : Spec → List ℕ → Parts → Forest → ℕ → List Coded → Forest → ℕ → Type 0
HasTree y ns ps f width coded g root = (s : ℕ → State) (rows : List Row) → Growing y ns ps f [] s
    → AreLeft y ps width coded rows → TreeGoesOn y ns ps f s width rows g root

-- task n width rows: a pending node with these rows
abbrev pub task : ℕ → ℕ → List CodeRow → Task
task n width rows = record { node = n; width = width; rows = map coded_of rows }

-- tasks_of w: the pending nodes
abbrev pub tasks_of : Growth → List Task
tasks_of w = map task_of w.pending.items

-- IsReady g: the inputs of tree building belong to one specification without violations
pub record IsReady (g : Grower) : Type 0 where
  pub linked : length g.links.now ≡ length (symbols g.checked.now.spec)
  pub ground : IsGround g.checked.now.spec (numbers_of g.links.now) g.left.now.parts
  pub left : AreLeftParts g.checked.now.spec g.left.now.parts g.left.now.numbers.items
      (length g.checked.now.spec.rules)
  pub chains : ChainsRules g.checked.now.spec g.chains.now

-- CanMark g marks: there is a mark for each symbol
abbrev pub CanMark : Grower → Marks → Type 0
CanMark g marks = HasMarks marks (length (symbols g.checked.now.spec))

-- StepsBy: a step of building with the inputs of a grower
abbrev pub StepsBy : Grower → Forest → List Task → Forest → List Task → Type 0
StepsBy g f ts h us = Steps g.checked.now.spec (numbers_of g.links.now) g.left.now.parts f ts h us

-- CanStep: all nodes are pending or represent their rows
abbrev pub CanStep : Grower → Forest → List Task → Type 0
CanStep g f ts = (s : ℕ → State)
    × Growing g.checked.now.spec (numbers_of g.links.now) g.left.now.parts f ts s

-- StepsOrStays: a step was made, or the forest is unchanged
abbrev pub StepsOrStays : Grower → Forest → List Task → Growth → Bool → Type 0
StepsOrStays g f ts new true = StepsBy g f ts new.forest (tasks_of new)
StepsOrStays g f ts new false = f ≡ new.forest

-- GrowsOut: no node is pending, or building stopped with pending nodes
abbrev pub GrowsOut : Grower → Growth → Forest → Bool → Type 0
GrowsOut g old new true = StepsBy g old.forest (tasks_of old) new []
GrowsOut g old new false = (us : List Task) × StepsBy g old.forest (tasks_of old) new us

-- CanGrow: a tree can grow for these rows
pub record CanGrow (g : Grower) (f : Forest) (width : ℕ) (coded : List Coded) : Type 0 where
  pub states : ℕ → State
  pub rows : List Row
  pub growing : Growing g.checked.now.spec (numbers_of g.links.now) g.left.now.parts f [] states
  pub left : AreLeft g.checked.now.spec g.left.now.parts width coded rows
