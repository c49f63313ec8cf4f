-- The values in the list that a tracer keeps in a store.
use Rattle.std.specs.Prelude.{ℕ, ◌-◌, ◌≡◌, ◌≤◌, List, Contains, drop, length, reverse, take}
use Rattle.rx_term.specs.Store.{Store}
use Rattle.rx_term.specs.Walks.{AllHeld, held_tree, held_trees}
use Rattle.rx_term.specs.declared.Term.{Term as Reference}
use Rattle.rec_trace.specs.Lists.{IsSaved, listed}
use Rattle.rec_trace.specs.Rows.{KeepsParts}
use Rattle.rec_trace.specs.declared.row.Row.{Row}
use Rattle.rec_trace.specs.declared.saved.Saved.{Saved}

-- AreSaved w vs s: the list has the lowest values
pub record AreSaved (w : Store) (vs : List Reference) (s : Saved) : Type 0 where
  pub within : s.count ≤ length vs
  pub counted : length (listed w s.list) ≡ s.count
  pub same : held_trees w (take s.count vs) ≡ reverse (listed w s.list)

-- Shortens w w' old new count: at most the `count` lowest items of the list are left
pub record Shortens (w w' : Store) (old new : Saved) (count : ℕ) : Type 0 where
  pub left : new.count ≡ old.count - (old.count - count)
  pub items : listed w' new.list ≡ drop (old.count - count) (listed w old.list)

-- Lengthens ..: the list has at least `count` values, and all values stay
pub record Lengthens (w w' : Store) (old new : List Reference) (s : Saved) (count : ℕ) : Type 0
  where
    pub values : new ≡ old
    pub held : AllHeld w' new
    pub parts : KeepsParts w w' old
    pub saved : AreSaved w' new s
    pub enough : count ≤ s.count

-- KeepsLowest ..: the values stay, perhaps below others, and the list has no fewer of the lowest
-- ones
pub record KeepsLowest (w w' : Store) (old new : List Reference) (before after : Saved) : Type 0
  where
    pub values : take (length old) new ≡ old
    pub parts : KeepsParts w w' old
    pub saved : AreSaved w' old after
    pub enough : before.count ≤ after.count

-- CanSave w r s count: the list has the lowest values of a row, which has at least `count`
pub record CanSave (w : Store) (r : Row) (s : Saved) (count : ℕ) : Type 0 where
  pub saved : IsSaved w r s
  pub held : AllHeld w r.values.items
  pub within : count ≤ length r.values.items

-- Saves ..: the list has at least the `count` lowest values of a row; all its values and operations
-- stay
pub record Saves (w w' : Store) (old new : Row) (s : Saved) (count : ℕ) : Type 0 where
  pub steps : new.steps ≡ old.steps
  pub values : new.values.items ≡ old.values.items
  pub parts : KeepsParts w w' old.values.items
  pub saved : IsSaved w' new s
  pub enough : count ≤ new.low

-- KeepsSaved ..: the values of a row stay, perhaps below others, and its operations stay
pub record KeepsSaved (w w' : Store) (old new : Row) (s : Saved) : Type 0 where
  pub steps : new.steps ≡ old.steps
  pub values : take (length old.values.items) new.values.items ≡ old.values.items
  pub parts : KeepsParts w w' old.values.items
  pub saved : IsSaved w' new s

-- Leaves ..: the `count` lowest values of a row are left, and all of them stay in the store
pub record Leaves (w w' : Store) (old new : Row) (s : Saved) (count : ℕ) : Type 0 where
  pub steps : new.steps ≡ old.steps
  pub values : new.values.items ≡ take count old.values.items
  pub parts : KeepsParts w w' old.values.items
  pub saved : IsSaved w' new s

-- HasAll w list vs: all values are items of a list
abbrev pub HasAll : Store → Reference → List Reference → Type 0
HasAll w list vs = (r : Reference) → Contains vs r → Contains (listed w list) (held_tree w r)
