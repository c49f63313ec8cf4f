-- The walk over the different subterms of a term.
use Rattle.std.specs.Prelude.{ℕ, ◌+◌, ◌*◌, ◌≡◌, List, [], ◌∷◌, ◌++◌, IsSome, length, map}
use Rattle.rx_term.specs.Tree.{Tree, to_list}
use Rattle.rx_term.specs.Store.{Store, tree_at}
use Rattle.rx_term.specs.Walks.{AllHeld, held_tree, held_trees}
use Rattle.rx_term.specs.declared.Term.{Term}
use Rattle.rec_sorts.specs.Laws.{Every}
use Rattle.rec_sorts.specs.TermRules.{arguments}
use Rattle.rec_sorts.specs.Walking.{backwards}
use Rattle.rec_engine.specs.declared.terms.visits.Visit.{Visit}
use Rattle.rec_engine.specs.declared.terms.visits.Visit.TheVariants.{Enter, Leave}

-- reference n: the term reference with the number n
abbrev pub reference : ℕ → Term
reference n = record { 0 = n }

-- visited v: the term that a visit enters or leaves
abbrev pub visited : Visit → Term
visited (Enter t) = t
visited (Leave t) = t

-- CanVisit P w v: the store has the term of the visit, and all its subterms have the property
pub record CanVisit (P : Tree → Type 0) (w : Store) (v : Visit) : Type 0 where
  pub held : IsSome (tree_at w (visited v))
  pub nodes : Every P (backwards (held_tree w (visited v)))

-- visits_by w v: a number that is greater than that of the visits that follow from a visit
abbrev pub visits_by : Store → Visit → ℕ
visits_by w (Enter t) = 2 * length (backwards (held_tree w t))
visits_by w (Leave t) = 1

-- visits_ahead w vs: the sum of these numbers
abbrev pub visits_ahead : Store → List Visit → ℕ
visits_ahead w [] = 0
visits_ahead w (v ∷ vs) = visits_by w v + visits_ahead w vs

-- enters ts: the visits that enter these terms
abbrev pub enters : List Term → List Visit
enters ts = map (λ t. let v : Visit = Enter t in v) ts

-- EntersNode w node old new: the arguments of a term are visited next, and then it is left
pub record EntersNode (w : Store) (node : Term) (old new : List Visit) : Type 0 where
  pub args : List Term
  pub pushed : new ≡ old ++ Leave node ∷ enters args
  pub held : AllHeld w args
  pub trees : held_trees w args ≡ to_list (arguments (held_tree w node))
