-- The list that a tracer keeps in a store, and the protection of other terms.
use Rattle.std.specs.Prelude.{ℕ, ◌+◌, ◌-◌, ◌≡◌, ◌≤◌, ◌<◌, ◌==◌, List, Some, if◌then◌else◌, length}
use Rattle.std.specs.Prelude.{reverse, take}
use Rattle.rx_term.specs.Tree.{Tree, from_list, items_of, list_of, to_list}
use Rattle.rx_term.specs.Store.{Store, tree_at}
use Rattle.rx_term.specs.Steps.{with_count}
use Rattle.rx_term.specs.Walks.{held_tree, held_trees}
use Rattle.rx_term.specs.declared.Term.{Term}
use Rattle.rec_trace.specs.declared.row.Row.{Row}
use Rattle.rec_trace.specs.declared.saved.Saved.{Saved}

-- listed w r: the items of a list; none if the term is no list
abbrev pub listed : Store → Term → List Tree
listed w r = to_list (items_of (held_tree w r))

-- IsList w r: the term is a list without annotations
abbrev pub IsList : Store → Term → Type 0
IsList w r = tree_at w r ≡ Some (list_of (from_list (listed w r)))

-- count_among r k: 1 if `k` is the number of the term `r`, otherwise 0
abbrev pub count_among : Term → ℕ → ℕ
count_among r k = if k == r.0 then 1 else 0

-- IsKept w r: the term is a list without annotations, and protected
pub record IsKept (w : Store) (r : Term) : Type 0 where
  pub list : IsList w r
  pub counted : (k : ℕ) → count_among r k ≤ w.roots k

-- IsSaved w r s: the list is kept, and its lowest items are the unchanged values of a row
pub record IsSaved (w : Store) (r : Row) (s : Saved) : Type 0 where
  pub kept : IsKept w s.list
  pub counted : length (listed w s.list) ≡ s.count
  pub low : r.low ≤ s.count
  pub within : r.low ≤ length r.values.items
  pub same : held_trees w (take r.low r.values.items) ≡ take r.low (reverse (listed w s.list))

-- Spares old new a b: the protection of `a` has moved to `b`, and all other protected terms stay
pub record Spares (old new : Store) (a b : Term) : Type 0 where
  pub counts : (k : ℕ) → new.roots k + count_among a k ≡ old.roots k + count_among b k
  pub trees : (t : Term) (u : Tree) → tree_at old t ≡ Some u → count_among a t.0 < old.roots t.0
      → tree_at new t ≡ Some u
  pub cap : new.cap ≡ old.cap

-- Stays old new a b: the list `b` is kept, and all terms that others protect stay
pub record Stays (old new : Store) (a b : Term) : Type 0 where
  pub kept : IsKept new b
  pub spares : Spares old new a b

-- protected_instead w a b: `b` is protected once more, and then `a` once less
abbrev pub protected_instead : Store → Term → Term → Store
protected_instead w a b =
    let w' = with_count w b (w.roots b.0 + 1) in
    with_count w' a (w'.roots a.0 - 1)
