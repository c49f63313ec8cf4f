-- The references that a memo table adds to the roots of a garbage collection.
use Rattle.std.specs.Prelude.{◌≡◌, ◌⊎◌, List, Some, IsSome, Contains}
use Rattle.rx_term.specs.declared.Term.{Term}
use Rattle.rx_term.specs.Store.{Store, tree_at}
use Rattle.rec_memo.specs.Pairs.{Pair, Pairs, pair_at}

-- IsOfPair w m t: `t` is the key or the value of a pair, and both are in the store
pub record IsOfPair (w : Store) (m : Pairs) (t : Term) : Type 0 where
  pub key : Term
  pub pair : Pair
  pub is : pair_at m key ≡ Some pair
  pub one : (t ≡ key) ⊎ (t ≡ pair.0)
  pub key_held : IsSome (tree_at w key)
  pub value_held : IsSome (tree_at w pair.0)

-- HandsOver w m old new: `new` has all of `old`, and any others belong to pairs
pub record HandsOver (w : Store) (m : Pairs) (old new : List Term) : Type 0 where
  pub all : (t : Term) → Contains old t → Contains new t
  pub others : (t : Term) → Contains new t → Contains old t ⊎ IsOfPair w m t
