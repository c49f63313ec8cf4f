-- From the graph of a held tree to what is due.
use Rattle.std.proofs.Common.{◌≡◌, ℕ, List, Option, Some, None, IfSome, IsSome, refl}
use Rattle.rx_term.specs.Parts.{part_count}
use Rattle.rx_term.specs.Store.{Store, tree_at}
use Rattle.rx_term.specs.Tree.{Tree}
use Rattle.rx_term.specs.Walks.{held_tree}
use Rattle.rx_term.specs.declared.Term.{Term}
use Rattle.rx_run.specs.TermRuns.{lines_at}

-- the lines of a tree that is held
pub lines_held : (lines : Tree → List ℕ) (w v : Store) (t : Term) → IsSome (tree_at w t) → tree_at v t ≡ tree_at w t
    → lines_at lines w t ≡ lines (held_tree v t)
lines_held lines w v t h same = by (tree_at w t) refl h
  where
    by : (o : Option Tree) → tree_at w t ≡ o → IsSome o → lines_at lines w t ≡ lines (held_tree v t)
    by None e k = absurd (cc k)
    by (Some u) e k = rw (same, e) refl

-- the parts of the one tree that is kept
pub counted_tree : (w v : Store) (t : Term) (n : ℕ) → IsSome (tree_at w t) → tree_at v t ≡ tree_at w t → IfSome (tree_at w t) (λ u. n ≡ part_count u)
    → n ≡ part_count (held_tree v t)
counted_tree w v t n h same c = by (tree_at w t) refl h c
  where
    by : (o : Option Tree) → tree_at w t ≡ o → IsSome o → IfSome o (λ u. n ≡ part_count u) → n ≡ part_count (held_tree v t)
    by None e k d = absurd (cc k)
    by (Some u) e k d = rw (same, e) d
