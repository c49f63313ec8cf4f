-- The store in which a request is read.
use Rattle.std.specs.Prelude.{ℕ, ◌≡◌, None}
use Rattle.rx_term.specs.Store.{Store, tree_at}
use Rattle.rx_term.specs.declared.Term.{Term}

-- no reference is protected
abbrev pub IsUnrooted : Store → Type 0
IsUnrooted w = (t : ℕ) → w.roots t ≡ 0

-- no term is held or protected, and `cap` is the largest number of cells; symbols may be there
pub record IsEmptied (w : Store) (cap : ℕ) : Type 0 where
  pub none : (t : Term) → tree_at w t ≡ None
  pub unrooted : IsUnrooted w
  pub limit : w.cap ≡ cap
