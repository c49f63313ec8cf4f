-- The subterms of a list of terms.
use Rattle.std.specs.Prelude.{List, flat_map}
use Rattle.rx_term.specs.Tree.{Tree, to_list}
use Rattle.rx_term.specs.Store.{Store}
use Rattle.rx_term.specs.Walks.{AllHeld, held_trees}
use Rattle.rec_sorts.specs.TermRules.{arguments}
use Rattle.rec_sorts.specs.Walking.{SameTrees, unstacked}
use Rattle.rec_sorts.specs.declared.walk.ListNodes.{ListNodes}

-- AreNodes w ts n: `n` has the subterms of these terms, and the subterms of their arguments, in any
-- order
pub record AreNodes (w : Store) (ts : List Tree) (n : ListNodes) : Type 0 where
  pub all_held : AllHeld w n.all.items
  pub inner_held : AllHeld w n.inner.items
  pub all_found : SameTrees (held_trees w n.all.items) (unstacked ts)
  pub inner_found : SameTrees (held_trees w n.inner.items)
      (unstacked (flat_map (λ t. to_list (arguments t)) ts))
