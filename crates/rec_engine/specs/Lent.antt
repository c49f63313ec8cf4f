-- Terms that are made on a borrowed stack.
use Rattle.std.specs.Prelude.{ℕ, ◌-◌, ◌≡◌, List, [], ◌∷◌, ◌++◌, Some, length, take, drop}
use Rattle.rx_term.specs.Store.{Store, tree_at}
use Rattle.rx_term.specs.Walks.{held_trees}
use Rattle.rx_term.specs.declared.Term.{Term}
use Rattle.rec_syntax.specs.Syntax.{Spec}
use Rattle.rec_engine.specs.Machine.{called}

-- IsAppliedOn: the `count` references on top were replaced by the application of a symbol to them
pub record IsAppliedOn (y : Spec) (old new : Store) (f count : ℕ) (stack stack' : List Term)
    : Type 0 where
  pub top : Term
  pub split : stack' ≡ take (length stack - count) stack ++ top ∷ []
  pub is : tree_at new top ≡ Some (called y f (held_trees old (drop (length stack - count) stack)))
