-- A walk over the subterms of a tree, in progress.
use Rattle.std.specs.Prelude.{ℕ, ◌+◌, ◌*◌, ◌≡◌, ◌<◌, ◌≤◌, ◌^◌, true, false, List, [], ◌∷◌, ◌++◌, Some, IsSome}
use Rattle.std.specs.Prelude.{drop, flat_map, get_or, length, map, nat_eq, take}
use Rattle.std.specs.List.{AllByRecursion, list_any}
use Rattle.indexmap.specs.IndexSet.{insert_key}
use Rattle.rx_term.specs.Tree.{Tree, Trees, Int, Appl, Items, Hole, to_list, tree_eq}
use Rattle.rx_term.specs.Store.{Store, tree_at}
use Rattle.rx_term.specs.Walks.{HaveTrees, held_tree}
use Rattle.rx_term.specs.declared.Term.{Term}
use Rattle.rx_table.specs.Table.{different, direct, subterms}
use Rattle.rx_table.specs.declared.walk.Parts.{Parts}
use Rattle.rx_table.specs.declared.walk.Visit.{Visit}
use Rattle.rx_table.specs.declared.walk.Visit.TheVariants.{Enter, Leave}

-- term_of n: the term reference with number `n`
abbrev pub term_of : ℕ → Term
term_of n = record { 0 = n }

-- trees_of w ns: the trees of references
abbrev pub trees_of : Store → List ℕ → List Tree
trees_of w ns = map (λ n. held_tree w (term_of n)) ns

-- AreThere w ns: the store has the terms of these references
abbrev pub AreThere : Store → List ℕ → Type 0
AreThere w ns = AllByRecursion (λ n. IsSome (tree_at w (term_of n))) ns

-- part_tree w ns i: the tree of the reference with this index
abbrev pub part_tree : Store → List ℕ → ℕ → Tree
part_tree w ns i = held_tree w (term_of (get_or ns i 0))

-- trees_at w ns is: the trees of the references with these indices
abbrev pub trees_at : Store → List ℕ → List ℕ → List Tree
trees_at w ns is = map (part_tree w ns) is

-- AreBelow n is: each index is less than `n`
abbrev pub AreBelow : ℕ → List ℕ → Type 0
AreBelow n is = AllByRecursion (λ i. i < n) is

-- bounds_of n ts: where the trees one step inside of each of these trees begin, and where the last of
-- them end, if there are `n` trees before
abbrev pub bounds_of : ℕ → List Tree → List ℕ
bounds_of n [] = n ∷ []
bounds_of n (t ∷ ts) = n ∷ bounds_of (n + length (direct t)) ts

-- Indexed w parts: the trees one step inside of the parts are found by their indices
pub record Indexed (w : Store) (parts : Parts) : Type 0 where
  pub there : AreThere w parts.terms.keys
  pub few : length parts.terms.keys ≤ 2 ^ 31
  pub below : AreBelow (length parts.terms.keys) parts.inside.items
  pub trees : trees_at w parts.terms.keys parts.inside.items ≡ flat_map direct (trees_of w parts.terms.keys)
  pub bounds : parts.bounds.items ≡ bounds_of 0 (trees_of w parts.terms.keys)

-- HasParts w t parts: the parts of a tree, which are found by their indices
pub record HasParts (w : Store) (t : Tree) (parts : Parts) : Type 0 where
  pub indexed : Indexed w parts
  pub trees : trees_of w parts.terms.keys ≡ different (subterms t)

-- IsList w list: the tree of the reference is a list
abbrev pub IsList : Store → Term → Type 0
IsList w list = (items : Trees) × ((anns : Trees) × (tree_at w list ≡ Some (Items items anns)))

-- Pushes w old new ts: references of these trees were pushed
abbrev pub Pushes : Store → List Term → List Term → List Tree → Type 0
Pushes w old new ts = (added : List Term) × (new ≡ old ++ added) × HaveTrees w added ts

-- body_items t: the trees one step inside of a tree, without its annotations
abbrev pub body_items : Tree → List Tree
body_items (Int z anns) = []
body_items (Appl name quoted args anns) = to_list args
body_items (Items items anns) = to_list items
body_items (Hole inner anns) = inner ∷ []

-- IsAmong t ts: the tree is one of these
abbrev pub IsAmong : Tree → List Tree → Type 0
IsAmong t ts = list_any (tree_eq t) ts ≡ true

-- AreAmong xs ts: each of the trees `xs` is one of `ts`
abbrev pub AreAmong : List Tree → List Tree → Type 0
AreAmong xs ts = AllByRecursion (λ x. IsAmong x ts) xs

-- IsClosed ts: with each tree, `ts` has its subterms
abbrev pub IsClosed : List Tree → Type 0
IsClosed ts = (t : Tree) → IsAmong t ts → AreAmong (subterms t) ts

-- Begun ts: each prefix of the list is closed
abbrev pub Begun : List Tree → Type 0
Begun ts = (xs ys : List Tree) → ts ≡ xs ++ ys → IsClosed xs

-- place_of v: the term that a visit enters or leaves
abbrev pub place_of : Visit → Term
place_of (Enter t) = t
place_of (Leave t start) = t

-- left_by w v: the trees that a visit leaves
abbrev pub left_by : Store → Visit → List Tree
left_by w (Enter t) = subterms (held_tree w t)
left_by w (Leave t start) = held_tree w t ∷ []

-- left_by_all w vs: the trees that visits leave; the last visit comes first
abbrev pub left_by_all : Store → List Visit → List Tree
left_by_all w [] = []
left_by_all w (v ∷ vs) = left_by_all w vs ++ left_by w v

-- visits_by w v: a number that is greater than that of the visits that follow from a visit
abbrev pub visits_by : Store → Visit → ℕ
visits_by w (Enter t) = 2 * length (subterms (held_tree w t))
visits_by w (Leave t start) = 1

-- visits_by_all w vs: the sum of these numbers
abbrev pub visits_by_all : Store → List Visit → ℕ
visits_by_all w [] = 0
visits_by_all w (v ∷ vs) = visits_by w v + visits_by_all w vs

-- CanVisit w vs: the store has the terms of these visits
abbrev pub CanVisit : Store → List Visit → Type 0
CanVisit w vs = AllByRecursion (λ v. IsSome (tree_at w (place_of v))) vs

-- EndsIn all start ts: the trees from this place on
abbrev pub EndsIn : List Tree → ℕ → List Tree → Type 0
EndsIn all start ts = (front : List Tree) × (all ≡ front ++ ts) × (length front ≡ start)

-- after w v ts: the finished trees after a visit and all that follow from it
abbrev pub after : Store → Visit → List Tree → List Tree
after w (Enter t) ts = ts ++ held_tree w t ∷ []
after w (Leave t start) ts = take start ts ++ held_tree w t ∷ []

-- after_all w vs ts: the finished trees after visits; the last visit comes first
abbrev pub after_all : Store → List Visit → List Tree → List Tree
after_all w [] ts = ts
after_all w (v ∷ vs) ts = after w v (after_all w vs ts)

-- FitsOne w v ts: a tree is left when the last finished trees are those one step inside of it
abbrev pub FitsOne : Store → Visit → List Tree → Type 0
FitsOne w (Enter t) ts = Unit {0}
FitsOne w (Leave t start) ts = EndsIn ts start (direct (held_tree w t))

-- Fits w vs ts: so is each tree that these visits leave
abbrev pub Fits : Store → List Visit → List Tree → Type 0
Fits w [] ts = Unit {0}
Fits w (v ∷ vs) ts = Fits w vs ts × FitsOne w v (after_all w vs ts)

-- Enters w t start old new: a tree was entered: the new visits leave its subterms, and add it to the
-- finished trees
pub record Enters (w : Store) (t : Term) (start : ℕ) (old new : List Visit) : Type 0 where
  pub visits : List Visit
  pub pushed : new ≡ old ++ visits
  pub can : CanVisit w visits
  pub leaves : left_by_all w visits ≡ subterms (held_tree w t)
  pub fewer : visits_by_all w visits < 2 * length (subterms (held_tree w t))
  pub fits : (ts : List Tree) → length ts ≡ start → Fits w visits ts × (after_all w visits ts ≡ ts ++ held_tree w t ∷ [])

-- AddsPart start before old new: the finished trees from `start` on are those inside of a new part
pub record AddsPart (start : ℕ) (before : List ℕ) (old new : Parts) : Type 0 where
  pub inside : new.inside.items ≡ old.inside.items ++ drop start before
  pub bounds : new.bounds.items ≡ old.bounds.items ++ length new.inside.items ∷ []

-- Leaves t start old before new now: a tree was left: it is a part, the last finished tree, and in
-- place of those from `start` on
pub record Leaves (t : Term) (start : ℕ) (old : Parts) (before : List ℕ) (new : Parts) (now : List ℕ) : Type 0 where
  pub index : ℕ
  pub keys : new.terms.keys ≡ insert_key nat_eq old.terms.keys t.0
  pub within : index < length new.terms.keys
  pub found : get_or new.terms.keys index 0 ≡ t.0
  pub few : length new.terms.keys ≤ 2 ^ 31
  pub finished : now ≡ take start before ++ index ∷ []
  pub added : list_any (nat_eq t.0) old.terms.keys ≡ false → AddsPart start before old new
  pub kept : list_any (nat_eq t.0) old.terms.keys ≡ true → (new.inside.items ≡ old.inside.items) × (new.bounds.items ≡ old.bounds.items)

-- Walked w all left visits: a prefix of the trees `all` was left, and the visits leave the others
pub record Walked (w : Store) (all : List Tree) (left : List ℕ) (visits : List Visit) : Type 0 where
  pub before : List Tree
  pub whole : all ≡ before ++ left_by_all w visits
  pub trees : trees_of w left ≡ different before
