-- The tables next to the cells: for each slot its mark, and the next slot of its list.
use Rattle.std.specs.Prelude.{◌≡◌, ℕ, List, [], ◌∷◌, length, Option}
use Rattle.std.specs.Option.{option_map}
use Rattle.rx_arena.specs.Inner.Node.{Stored, Node, node_of}

-- nodes_of ks ts cs: the contents of the slots: each cell with its mark and its next slot
abbrev pub nodes_of : List ℕ → List (Option ℕ) → List (Option Stored) → List (Option Node)
nodes_of [] ts cs = []
nodes_of (k ∷ ks) [] cs = []
nodes_of (k ∷ ks) (t ∷ ts) [] = []
nodes_of (k ∷ ks) (t ∷ ts) (c ∷ cs) = option_map (node_of k t) c ∷ nodes_of ks ts cs

-- HasTables ks ts cs: the tables have an entry for each slot
abbrev pub HasTables : List ℕ → List (Option ℕ) → List (Option Stored) → Type 0
HasTables ks ts cs = (length ks ≡ length cs) × (length ts ≡ length cs)
