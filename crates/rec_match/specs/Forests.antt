-- The rules that matching trees in flat form find.
use Rattle.std.specs.Option.{option_map}
use Rattle.std.specs.Prelude.{slice_range, ◌≢◌, ◌⊎◌, ℕ, ◌≡◌, ◌+◌, ◌-◌, ◌<◌, ◌≤◌, suc, ◌&&◌, Bool}
use Rattle.std.specs.Prelude.{true, false, List, [], ◌∷◌}
use Rattle.std.specs.Prelude.{◌++◌, Option, Some, None, All, length, drop, map, get_or, nat_eq}
use Rattle.std.specs.Prelude.{nat_le, nat_lt, if◌then◌else◌}
use Rattle.rx_term.specs.Tree.{Tree, Trees, Items, none, count_of, to_list, from_list, tree_eq}
use Rattle.rx_term.specs.Store.{Store, tree_at, signature_of}
use Rattle.rx_term.specs.Walks.{AllHeld, held_tree, held_trees}
use Rattle.rx_term.specs.declared.Term.{Term}
use Rattle.rec_syntax.specs.Syntax.{Spec}
use Rattle.rec_sorts.specs.Lookup.{symbols}
use Rattle.rec_sorts.specs.Laws.{Every}
use Rattle.rec_sorts.specs.Binding.{application, next_match, Substitution}
use Rattle.rec_sorts.specs.Linked.{signature}
use Rattle.rec_sorts.specs.Numbering.{name_of, arity_of}
use Rattle.rec_sorts.specs.declared.letters.Meaning.TheVariants.{Symbol}
use Rattle.rec_match.specs.Bound.{opened}
use Rattle.rec_match.specs.Rows.{Found, found_of, found_at, or_else, tree_in, values_of}
use Rattle.rec_match.specs.declared.forest.Forest.{Forest}
use Rattle.rec_match.specs.declared.forest.Glance.{Glance}
use Rattle.rec_match.specs.declared.forest.Glance.TheVariants.{Found as Hits, Left}
use Rattle.rec_match.specs.declared.forest.Hit.{Hit}
use Rattle.rec_match.specs.declared.forest.Node.{Node}
use Rattle.rec_match.specs.declared.forest.Node.TheVariants.{Fail, Try, Switch}
use Rattle.rec_match.specs.declared.forest.Place.{Place}
use Rattle.rec_match.specs.declared.forest.Place.TheVariants.{First, Again}
use Rattle.rec_match.specs.declared.forest.Values.{Values}
use Rattle.rec_match.specs.declared.forest.Values.TheVariants.{OnTop, InRegisters}
use Rattle.rec_match.specs.declared.forest.Child.{Child}

-- ArePlaces n k ps: each register is below `n`, and each earlier value that is named exists
abbrev pub ArePlaces : ℕ → ℕ → List Place → Type 0
ArePlaces n k [] = Unit {0}
ArePlaces n k (First r ∷ ps) = (r < n) × ArePlaces n (suc k) ps
ArePlaces n k (Again r v ∷ ps) = (r < n) × (v < k) × ArePlaces n k ps

-- register_of p: the register that a position names
abbrev pub register_of : Place → ℕ
register_of (First r) = r
register_of (Again r v) = r

-- IsWithin first work p: the register exists; registers are the references from index `first` on
abbrev pub IsWithin : ℕ → List Term → Place → Type 0
IsWithin first work p = register_of p < length (drop first work)

-- value_in first work p: the value in the register of a position
abbrev pub value_in : ℕ → List Term → Place → Term
value_in first work p = get_or (drop first work) (register_of p) (record { 0 = 0 })

-- IsNew p: the value need not equal an earlier one
abbrev pub IsNew : Place → Type 0
IsNew (First r) = Unit {0}
IsNew (Again r v) = ⊥

-- filled eq d ps us vs: the values at these positions, after `vs`; none if two that have to be
-- equal differ
abbrev pub filled : {X : Type 0} → (X → X → Bool) → X → List Place → List X → List X
    → Option (List X)
filled eq d [] us vs = Some vs
filled eq d (First r ∷ ps) us vs = filled eq d ps us (vs ++ get_or us r d ∷ [])
filled eq d (Again r v ∷ ps) us vs =
    elim (eq (get_or vs v d) (get_or us r d)) [ true ↦ filled eq d ps us vs | false ↦ None ]

-- same_term s t: two term references are equal
abbrev pub same_term : Term → Term → Bool
same_term s t = nat_eq s.0 t.0

-- terms_filled ps us vs: the term references at these positions
abbrev pub terms_filled : List Place → List Term → List Term → Option (List Term)
terms_filled ps us vs = filled same_term (record { 0 = 0 }) ps us vs

-- Fills ps us bind found: `bind` has the values at these positions if they exist; else it is empty
abbrev pub Fills : List Place → List Term → List Term → Bool → Type 0
Fills ps us bind true = terms_filled ps us [] ≡ Some bind
Fills ps us bind false = (terms_filled ps us [] ≡ None) × (bind ≡ [])

-- IsListOf w t k: the tree of `t` is a list of `k` items without annotations
abbrev pub IsListOf : Store → Term → ℕ → Type 0
IsListOf w t k = (ts : Trees) × (tree_at w t ≡ Some (Items ts none)) × (count_of ts ≡ k)

-- Extends old new: `new` is `old` with more references at the end
abbrev pub Extends : List Term → List Term → Type 0
Extends old new = (more : List Term) × (new ≡ old ++ more)

-- PushesArguments w t old new: the items of a list are pushed
abbrev pub PushesArguments : Store → Term → List Term → List Term → Type 0
PushesArguments w t old new = (ts : Trees) → tree_at w t ≡ Some (Items ts none) → AllHeld w old
    → AllHeld w new × (held_trees w new ≡ held_trees w old ++ to_list ts)

-- the entry that means "no child"
abbrev pub no_child : Child
no_child = record { node = 0; count = 0 }

-- child_at cs low from span q: the child of symbol number `q` in a window of children
abbrev pub child_at : List Child → ℕ → ℕ → ℕ → ℕ → Child
child_at cs low from span q =
    if nat_le low q && nat_lt (q - low) span
    then get_or cs (from + (q - low)) no_child
    else no_child

-- number_at ns k: the store's number of symbol `k`
abbrev pub number_at : List ℕ → ℕ → ℕ
number_at ns k = get_or ns k 0

-- AreNumbers y w ns: `ns` are the numbers of a specification's symbols in a store
abbrev pub AreNumbers : Spec → Store → List ℕ → Type 0
AreNumbers y w ns = (k : ℕ) → k < length (symbols y)
    → signature_of w (record { 0 = number_at ns k }) ≡ Some (signature y k)

-- IsChild y ns q child: `child` belongs to the symbol with store number `q`
pub record IsChild (y : Spec) (ns : List ℕ) (q : ℕ) (child : Child) : Type 0 where
  pub symbol : ℕ
  pub declared : symbol < length (symbols y)
  pub numbered : number_at ns symbol ≡ q
  pub counted : child.count ≡ arity_of y symbol

-- the window of a switch's children
pub record Cases : Type 0 where
  pub children : List Child
  pub low : ℕ
  pub from : ℕ
  pub span : ℕ

-- case_at s q: the child of a switch for symbol number `q`
abbrev pub case_at : Cases → ℕ → Child
case_at s q = child_at s.children s.low s.from s.span q

-- AreCases y ns s: each child of the switch belongs to its symbol
abbrev pub AreCases : Spec → List ℕ → Cases → Type 0
AreCases y ns s = (q : ℕ) → (case_at s q).node ≢ 0 → IsChild y ns q (case_at s q)

-- OpensNoCase y ns s u: the tree is not an application of a symbol that has a child
abbrev pub OpensNoCase : Spec → List ℕ → Cases → Tree → Type 0
OpensNoCase y ns s u = (k : ℕ) → k < length (symbols y) → (case_at s (number_at ns k)).node ≢ 0
    → opened (name_of y (Symbol k)) (arity_of y k) u ≡ None

-- OpensCase y ns s u args next: the tree applies a symbol whose child is `next` to `args`
pub record OpensCase (y : Spec) (ns : List ℕ) (s : Cases) (u : Tree) (args : Trees) (next : ℕ)
    : Type 0 where
  pub symbol : ℕ
  pub declared : symbol < length (symbols y)
  pub child : (case_at s (number_at ns symbol)).node ≡ next
  pub there : next ≢ 0
  pub is : u ≡ application (name_of y (Symbol symbol)) args
  pub counted : count_of args ≡ arity_of y symbol

-- TurnsIn: the switch leads to the child of the term's symbol, and pushes the arguments
pub record TurnsIn (y : Spec) (w : Store) (ns : List ℕ) (s : Cases) (u : Term) (old new : List Term)
    (next : ℕ) : Type 0 where
  pub args : Trees
  pub opens : OpensCase y ns s (held_tree w u) args next
  pub held : AllHeld w new
  pub registers : held_trees w new ≡ held_trees w old ++ to_list args

-- TurnsAway: the term has no child, and the switch leads to the other node
pub record TurnsAway (y : Spec) (w : Store) (ns : List ℕ) (s : Cases) (other : ℕ) (u : Term)
    (old new : List Term) (next : ℕ) : Type 0 where
  pub next_is : next ≡ other
  pub same : new ≡ old
  pub opens : OpensNoCase y ns s (held_tree w u)

-- Turns: the switch leads to a child or to the other node
abbrev pub Turns : Store → Cases → ℕ → Term → List Term → List Term → ℕ → Type 0
Turns w s other u old new next = (y : Spec) (ns : List ℕ) → AreNumbers y w ns → AreCases y ns s
    → TurnsIn y w ns s u old new next ⊎ TurnsAway y w ns s other u old new next

-- CanTurn w s: the switch belongs to a specification whose symbols are in the store
pub record CanTurn (w : Store) (s : Cases) : Type 0 where
  pub spec : Spec
  pub numbers : List ℕ
  pub linked : AreNumbers spec w numbers
  pub cases : AreCases spec numbers s

-- the meaning of nodes: the rule that each finds for registers, and the number of registers at each
pub record Reading : Type 0 where
  pub finds : ℕ → ℕ → List Tree → Option Found
  pub width : ℕ → ℕ

-- a tree for registers that do not exist
abbrev pub empty : Tree
empty = Items none none

-- trees_filled ps us vs: the trees at these positions
abbrev pub trees_filled : List Place → List Tree → List Tree → Option (List Tree)
trees_filled ps us vs = filled tree_eq empty ps us vs

-- Follows f m n next: `next` is a node after `n`
pub record Follows (f : Forest) (m : Reading) (n next : ℕ) : Type 0 where
  pub later : n < next
  pub there : next < length f.nodes.items

-- FitsTry: node `n` tries a rule and then its next node
pub record FitsTry (f : Forest) (m : Reading) (n rule from to next : ℕ) (linear : Bool)
    : Type 0 where
  pub follows : Follows f m n next
  pub width : m.width next ≡ m.width n
  pub ordered : from ≤ to
  pub within : to ≤ length f.places.items
  pub places : ArePlaces (m.width n) 0 (slice_range f.places.items from to)
  pub are_new : linear ≡ true → All IsNew (slice_range f.places.items from to)
  pub finds : (least : ℕ) (us : List Tree) → length us ≡ m.width n
      → m.finds n least us
      ≡ or_else (found_at least rule (trees_filled (slice_range f.places.items from to) us []))
      (m.finds next least us)

-- FitsSwitch: node `n` is a switch; each child finds what `n` finds for its symbol
pub record FitsSwitch (y : Spec) (ns : List ℕ) (f : Forest) (m : Reading) (n register other : ℕ)
    (s : Cases) : Type 0 where
  pub register_there : register < m.width n
  pub within : s.from + s.span ≤ length f.children.items
  pub cases : AreCases y ns s
  pub follows : Follows f m n other
  pub width : m.width other ≡ m.width n
  pub otherwise : (least : ℕ) (us : List Tree) → length us ≡ m.width n
      → OpensNoCase y ns s (tree_in us register) → m.finds n least us ≡ m.finds other least us
  pub follow : (k : ℕ) → k < length (symbols y) → (case_at s (number_at ns k)).node ≢ 0
      → Follows f m n (case_at s (number_at ns k)).node
  pub widths : (k : ℕ) → k < length (symbols y) → (case_at s (number_at ns k)).node ≢ 0
      → m.width (case_at s (number_at ns k)).node ≡ m.width n + arity_of y k
  pub opened : (least : ℕ) (us : List Tree) (args : Trees) (next : ℕ) → length us ≡ m.width n
      → OpensCase y ns s (tree_in us register) args next
      → m.finds n least us ≡ m.finds next least (us ++ to_list args)

-- Fits y ns f m n node: the node finds what the meaning `m` assigns to it
abbrev pub Fits : Spec → List ℕ → Forest → Reading → ℕ → Node → Type 0
Fits y ns f m n Fail = (least : ℕ) (us : List Tree) → m.finds n least us ≡ None
Fits y ns f m n (Try rule from to next linear) = FitsTry f m n rule from to next linear
Fits y ns f m n (Switch register low from span other) = FitsSwitch y ns f m n register other
    (record { children = f.children.items; low = low; from = from; span = span })

-- roots_at f k: the roots of a symbol's trees
abbrev pub roots_at : Forest → ℕ → List ℕ
roots_at f k = get_or (map (λ v. v.items) f.roots.items) k []

-- first_tree m least rs us: the result of the first of these trees that finds a rule
abbrev pub first_tree : Reading → ℕ → List ℕ → List Tree → Option Found
first_tree m least [] us = None
first_tree m least (r ∷ rs) us = or_else (m.finds r least us) (first_tree m least rs us)

-- IsRoot f m width r: `r` is a node that takes `width` registers
abbrev pub IsRoot : Forest → Reading → ℕ → ℕ → Type 0
IsRoot f m width r = (r < length f.nodes.items) × (m.width r ≡ width)

-- AreRoots y f m k: a symbol's trees find the lowest-numbered rule that matches its application
pub record AreRoots (y : Spec) (f : Forest) (m : Reading) (k : ℕ) : Type 0 where
  pub each : Every (IsRoot f m (arity_of y k)) (roots_at f k)
  pub finds : (least : ℕ) (args : Trees) → count_of args ≡ arity_of y k
      → first_tree m least (roots_at f k) (to_list args)
      ≡ option_map found_of (next_match y least (application (name_of y (Symbol k)) args))

-- IsForest y ns f: `f` are the matching trees of a specification with these symbol numbers
pub record IsForest (y : Spec) (ns : List ℕ) (f : Forest) : Type 0 where
  pub reading : Reading
  pub fits : (n : ℕ) → n < length f.nodes.items
      → Fits y ns f reading n (get_or f.nodes.items n Fail)
  pub counted : length f.roots.items ≡ length (symbols y)
  pub roots : (k : ℕ) → k < length (symbols y) → AreRoots y f reading k

-- HasFound: rule `i` matches, and `bind` has its values
pub record HasFound (y : Spec) (w : Store) (name : List ℕ) (least : ℕ) (args bind : List Term)
    (i : ℕ) : Type 0 where
  pub values : Substitution
  pub first : next_match y least (application name (from_list (held_trees w args)))
      ≡ Some (record { number = i; values = values })
  pub bound : held_trees w bind ≡ values_of values
  pub held : AllHeld w bind

-- Finds: the lowest-numbered rule, at least `least`, that matches; or there is none
abbrev pub Finds : Spec → Store → List ℕ → ℕ → List Term → List Term → Option ℕ → Type 0
Finds y w name least args bind (Some i) = HasFound y w name least args bind i
Finds y w name least args bind None =
    (next_match y least (application name (from_list (held_trees w args))) ≡ None) × (bind ≡ [])

-- CanRun w f k count: the trees of symbol `k` take `count` arguments
pub record CanRun (w : Store) (f : Forest) (k count : ℕ) : Type 0 where
  pub spec : Spec
  pub numbers : List ℕ
  pub linked : AreNumbers spec w numbers
  pub forest : IsForest spec numbers f
  pub declared : k < length (symbols spec)
  pub counted : count ≡ arity_of spec k

-- Runs: `found` is the result of the trees of symbol `k`, for each specification that they fit
abbrev pub Runs : Store → Forest → ℕ → ℕ → List Term → List Term → Option ℕ → Type 0
Runs w f k least args bind found = (y : Spec) (ns : List ℕ) → AreNumbers y w ns → IsForest y ns f
    → k < length (symbols y) → length args ≡ arity_of y k
    → Finds y w (name_of y (Symbol k)) least args bind found

-- values_among f first work values: the values of a rule that was found
abbrev pub values_among : Forest → ℕ → List Term → Values → List Term
values_among f first work (OnTop k) = drop k work
values_among f first work (InRegisters from to) =
    map (value_in first work) (slice_range f.places.items from to)

-- StandAbove f first n work values: the values exist; those on top are above the first `n`
-- references
abbrev pub StandAbove : Forest → ℕ → ℕ → List Term → Values → Type 0
StandAbove f first n work (OnTop k) = (n ≤ k) × (k ≤ length work)
StandAbove f first n work (InRegisters from to) = (n ≤ length work) × (from ≤ to)
    × (to ≤ length f.places.items)
    × All (IsWithin first work) (slice_range f.places.items from to)

-- AtPlaces from to values: values in registers are those that a node's positions name
abbrev pub AtPlaces : ℕ → ℕ → Values → Type 0
AtPlaces from to (OnTop k) = Unit {0}
AtPlaces from to (InRegisters first last) = (first ≡ from) × (last ≡ to)

-- Tries node found: the node tries the rule that was found
abbrev pub Tries : Node → Hit → Type 0
Tries Fail found = ⊥
Tries (Try rule from to next linear) found = (found.rule ≡ rule) × AtPlaces from to found.values
Tries (Switch register low from span other) found = ⊥

-- IsFoundBy f found: the rule was found by a node of the forest
abbrev pub IsFoundBy : Forest → Hit → Type 0
IsFoundBy f found = (found.node < length f.nodes.items)
    × Tries (get_or f.nodes.items found.node Fail) found

-- RunsOn: the result of a run over the references from `first` on, and its values in `new`
abbrev pub RunsOn : Store → Forest → ℕ → ℕ → ℕ → List Term → List Term → Option Hit → Type 0
RunsOn w f k least first old new (Some found) = StandAbove f first (length old) new found.values
    × Runs w f k least (drop first old) (values_among f first new found.values) (Some found.rule)
    × IsFoundBy f found
RunsOn w f k least first old new None = Runs w f k least (drop first old) [] None

-- CanWalk w f root count: the tree takes `count` registers
pub record CanWalk (w : Store) (f : Forest) (root count : ℕ) : Type 0 where
  pub spec : Spec
  pub numbers : List ℕ
  pub linked : AreNumbers spec w numbers
  pub forest : IsForest spec numbers f
  pub there : root < length f.nodes.items
  pub wide : count ≡ forest.reading.width root

-- FindsAt: the result of a root for these references: a rule with its values, or none
abbrev pub FindsAt : Store → Reading → ℕ → ℕ → List Term → List Term → Option ℕ → Type 0
FindsAt w m root least args bind (Some i) = (m.finds root least (held_trees w args)
    ≡ Some (record { number = i; values = held_trees w bind })) × AllHeld w bind
FindsAt w m root least args bind None = m.finds root least (held_trees w args) ≡ None

-- Walks: `found` is the result of the tree at `root`, for each specification that it fits
abbrev pub Walks : Store → Forest → ℕ → ℕ → List Term → List Term → Option ℕ → Type 0
Walks w f root least args bind found = (y : Spec) (ns : List ℕ) → AreNumbers y w ns
    → (h : IsForest y ns f) → length args ≡ h.reading.width root
    → FindsAt w h.reading root least args bind found

-- WalksOn: the result of a walk over the references from `first` on, and its values in `new`
abbrev pub WalksOn : Store → Forest → ℕ → ℕ → ℕ → List Term → List Term → Option Hit → Type 0
WalksOn w f root least first old new (Some found) =
    StandAbove f first (length old) new found.values
    × Walks w f root least (drop first old) (values_among f first new found.values)
    (Some found.rule)
    × IsFoundBy f found
WalksOn w f root least first old new None = Walks w f root least (drop first old) [] None

-- Stands: the root finds for its arguments exactly what node `at` finds for the registers
pub record Stands (w : Store) (root least : ℕ) (args : List Term) (m : Reading) (at : ℕ)
    (registers : List Term) : Type 0 where
  pub width : length registers ≡ m.width at
  pub same : m.finds root least (held_trees w args) ≡ m.finds at least (held_trees w registers)

-- AllStand: this holds for each specification that the forest fits
abbrev pub AllStand : Store → Forest → ℕ → ℕ → List Term → ℕ → List Term → Type 0
AllStand w f root least args at registers = (y : Spec) (ns : List ℕ) → AreNumbers y w ns
    → (h : IsForest y ns f) → length args ≡ h.reading.width root
    → Stands w root least args h.reading at registers

-- NoneBefore: the first `i` trees of a symbol find no rule for these references
abbrev pub NoneBefore : Store → Forest → ℕ → ℕ → List Term → ℕ → Type 0
NoneBefore w f k least args i = (y : Spec) (ns : List ℕ) → AreNumbers y w ns
    → (h : IsForest y ns f) → k < length (symbols y) → length args ≡ arity_of y k
    → first_tree h.reading least (roots_at f k) (held_trees w args)
    ≡ first_tree h.reading least (drop i (roots_at f k)) (held_trees w args)

-- GlancesOn: the result of the fast path over the references from `first` on, and its values in
-- `new`
abbrev pub GlancesOn : Store → Forest → ℕ → ℕ → List Term → List Term → Glance → Type 0
GlancesOn w f k first old new (Hits hit) = RunsOn w f k 0 first old new (Some hit)
GlancesOn w f k first old new (Left n) = NoneBefore w f k 0 (drop first old) n × (new ≡ old)
