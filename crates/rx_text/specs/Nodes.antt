-- A tree as a list of nodes, each after those of its parts.
use Rattle.std.specs.Prelude.{◌≡◌, ℕ, zero, suc, ◌+◌, ◌<◌, ◌≤◌, Bool, List, [], ◌∷◌, drop, length}
use Rattle.std.specs.Prelude.{ℤ}
use Rattle.rx_term.specs.Tree.{Tree, Trees, none, more, Int, Appl, Items, Hole, annotated}
use Rattle.rx_text.specs.Machine.{onto}

-- Node: an integer; an application to a number of trees; a list of a number of trees; a placeholder
-- of one tree; a number of annotations of the tree below them
pub data Node : Type 0 where
  Number : ℤ → Node
  Application : List ℕ → Bool → ℕ → Node
  Listing : ℕ → Node
  Holding : Node
  Annotating : ℕ → Node

-- taken k made: the newest `k` trees, the newest first
abbrev pub taken : ℕ → List Tree → Trees
taken zero made = none
taken (suc k) [] = none
taken (suc k) (t ∷ made) = more t (taken k made)

-- newest k made: the newest `k` trees, the newest last
abbrev pub newest : ℕ → List Tree → Trees
newest k made = onto (taken k made) none

-- top made: the newest tree
abbrev pub top : List Tree → Tree
top [] = Items none none
top (t ∷ made) = t

-- rest made: the trees except the newest
abbrev pub rest : List Tree → List Tree
rest [] = []
rest (t ∷ made) = made

-- needed n: the number of trees that a node takes
abbrev pub needed : Node → ℕ
needed (Number z) = 0
needed (Application name quoted k) = k
needed (Listing k) = k
needed Holding = 1
needed (Annotating k) = k + 1

-- assembled n made: the trees after a node has replaced those that it takes by the one that it
-- makes
abbrev pub assembled : Node → List Tree → List Tree
assembled (Number z) made = Int z none ∷ made
assembled (Application name quoted k) made = Appl name quoted (newest k made) none ∷ drop k made
assembled (Listing k) made = Items (newest k made) none ∷ drop k made
assembled Holding made = Hole (top made) none ∷ rest made
assembled (Annotating k) made = annotated (top (drop k made)) (newest k made) ∷ rest (drop k made)

-- trees_of made ns: the trees after all nodes, the newest first; `made` were made before
abbrev pub trees_of : List Tree → List Node → List Tree
trees_of made [] = made
trees_of made (n ∷ ns) = trees_of (assembled n made) ns

-- Enough made ns: each node finds the number of trees that it takes
abbrev pub Enough : List Tree → List Node → Type 0
Enough made [] = Unit {0}
Enough made (n ∷ ns) = (needed n ≤ length made) × Enough (assembled n made) ns

-- IsProper n made: a node of annotations has some, and its tree has none yet
abbrev pub IsProper : Node → List Tree → Type 0
IsProper (Annotating k) made = (0 < k) × (annotated (top (drop k made)) none ≡ top (drop k made))
IsProper n made = Unit {0}

-- AreProper made ns: all nodes of annotations are proper
abbrev pub AreProper : List Tree → List Node → Type 0
AreProper made [] = Unit {0}
AreProper made (n ∷ ns) = IsProper n made × AreProper (assembled n made) ns
