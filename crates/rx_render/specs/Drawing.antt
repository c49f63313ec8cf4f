-- The state of a graph while it is written.
use Rattle.std.specs.Prelude.{◌≡◌, ℕ, List, ◌++◌, Some, IsSome, map, slice_get}
use Rattle.std.specs.List.{AllByRecursion}
use Rattle.indexmap.specs.IndexSet.{insert_all}
use Rattle.rx_term.specs.Tree.{Tree, tree_eq}
use Rattle.rx_term.specs.Store.{Store, tree_at}
use Rattle.rx_term.specs.Walks.{held_tree}
use Rattle.rx_term.specs.declared.Term.{Term}
use Rattle.rx_render.specs.Graph.{Link, link_lines, part_lines, with_own}
use Rattle.rx_render.specs.declared.graph.Graph.{Graph}

-- term_of n: the reference with this number
abbrev pub term_of : ℕ → Term
term_of n = record { 0 = n }

-- trees_found w g: the trees of the parts that were discovered
abbrev pub trees_found : Store → Graph → List Tree
trees_found w g = map (λ n. held_tree w (term_of n)) g.found.keys

-- AreHeld w g: the store has these trees
abbrev pub AreHeld : Store → Graph → Type 0
AreHeld w g = AllByRecursion (λ n. IsSome (tree_at w (term_of n))) g.found.keys

-- Follows w n ls old new: edges from part `n` were followed: their ends were discovered, and their
-- lines were appended
pub record Follows (w : Store) (n : ℕ) (ls : List Link) (old new : Graph) : Type 0 where
  pub found : trees_found w new ≡ insert_all tree_eq (trees_found w old) (map (λ l. l.part) ls)
  pub lines : new.lines.items
      ≡ old.lines.items ++ link_lines old.nodes (trees_found w new) n ls
  pub nodes : new.nodes ≡ old.nodes
  pub held : AreHeld w new

-- LooksAt w n t old new: part `n` was visited: its own parts were discovered, and `lines` has its
-- lines
pub record LooksAt (w : Store) (n : ℕ) (t : Tree) (old new : Graph) : Type 0 where
  pub found : trees_found w new ≡ with_own (trees_found w old) (Some t)
  pub lines : new.lines.items ≡ part_lines old.nodes (trees_found w new) n (Some t)
  pub nodes : new.nodes ≡ old.nodes
  pub held : AreHeld w new

-- next_found w n g: the parts that are discovered after visiting part `n`
abbrev pub next_found : Store → ℕ → Graph → List Tree
next_found w n g = with_own (trees_found w g) (slice_get (trees_found w g) n)

-- next_lines w n g: the lines of part `n`
abbrev pub next_lines : Store → ℕ → Graph → List ℕ
next_lines w n g = part_lines g.nodes (next_found w n g) n (slice_get (trees_found w g) n)

-- Passes w n old new: part `n` was visited, if there is one
pub record Passes (w : Store) (n : ℕ) (old new : Graph) : Type 0 where
  pub found : trees_found w new ≡ next_found w n old
  pub nodes : new.nodes ≡ old.nodes
  pub held : AreHeld w new
