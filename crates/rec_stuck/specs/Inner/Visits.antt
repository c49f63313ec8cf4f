-- A walk over the applications in a value, in progress.
use Rattle.std.specs.Prelude.{ℕ, suc, ◌+◌, ◌≡◌, ◌<◌, ◌⊎◌, true, List, [], ◌∷◌, ◌++◌, IsSome, map}
use Rattle.std.specs.Prelude.{nat_eq}
use Rattle.std.specs.List.{AllByRecursion, list_any}
use Rattle.rx_term.specs.Tree.{Tree, Trees, Appl, Items, none, more}
use Rattle.rx_term.specs.Store.{Store, tree_at}
use Rattle.rx_term.specs.Walks.{held_tree}
use Rattle.rx_term.specs.declared.Term.{Term}
use Rattle.rec_stuck.specs.Stuck.{applications, different}
use Rattle.rec_stuck.specs.declared.applications.Visit.{Visit}
use Rattle.rec_stuck.specs.declared.applications.Visit.TheVariants.{Enter, Leave}

-- reference n: the term reference with number `n`
abbrev pub reference : ℕ → Term
reference n = record { 0 = n }

-- trees_of w ns: the trees of references
abbrev pub trees_of : Store → List ℕ → List Tree
trees_of w ns = map (λ n. held_tree w (reference n)) ns

-- AreThere w ns: the store has the terms of these references
abbrev pub AreThere : Store → List ℕ → Type 0
AreThere w ns = AllByRecursion (λ n. IsSome (tree_at w (reference n))) ns

-- place_of v: the term that a visit enters or leaves
abbrev pub place_of : Visit → Term
place_of (Enter t) = t
place_of (Leave t) = t

-- left_by w v: the applications that a visit leaves
abbrev pub left_by : Store → Visit → List Tree
left_by w (Enter t) = applications (held_tree w t)
left_by w (Leave t) = held_tree w t ∷ []

-- left_by_all w vs: the applications that visits leave; the last visit comes first
abbrev pub left_by_all : Store → List Visit → List Tree
left_by_all w [] = []
left_by_all w (v ∷ vs) = left_by_all w vs ++ left_by w v

-- visits_of t: the number of visits that a tree takes if nothing is skipped
abbrev mutual
  pub visits_of : Tree → ℕ
  visits_of (Appl name quoted args anns) = suc (suc (visits_of_all args))
  visits_of (Items items anns) = visits_of_all items
  visits_of t = 1

  pub visits_of_all : Trees → ℕ
  visits_of_all none = 1
  visits_of_all (more t ts) = suc (visits_of t + visits_of_all ts)

-- visits_by w v: the number of visits that a visit takes, with itself
abbrev pub visits_by : Store → Visit → ℕ
visits_by w (Enter t) = visits_of (held_tree w t)
visits_by w (Leave t) = 1

-- visits_by_all w vs: the number of visits that all of these take
abbrev pub visits_by_all : Store → List Visit → ℕ
visits_by_all w [] = 0
visits_by_all w (v ∷ vs) = visits_by w v + visits_by_all w vs

-- CanVisit w vs: the store has the terms of these visits
abbrev pub CanVisit : Store → List Visit → Type 0
CanVisit w vs = AllByRecursion (λ v. IsSome (tree_at w (place_of v))) vs

-- Enters w t left old new: a tree was entered: the new visits leave its applications, or it was
-- left before
pub record Enters (w : Store) (t : Term) (left : List ℕ) (old new : List Visit) : Type 0 where
  pub visits : List Visit
  pub pushed : new ≡ old ++ visits
  pub can : CanVisit w visits
  pub leaves : (left_by_all w visits ≡ applications (held_tree w t))
      ⊎ ((list_any (nat_eq t.0) left ≡ true) × (visits ≡ []))
  pub fewer : visits_by_all w visits < visits_of (held_tree w t)

-- Walked w v left visits: the applications so far were left, and the visits leave the others
pub record Walked (w : Store) (v : Tree) (left : List ℕ) (visits : List Visit) : Type 0 where
  pub before : List Tree
  pub all : applications v ≡ before ++ left_by_all w visits
  pub trees : trees_of w left ≡ different before
