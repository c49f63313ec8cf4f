-- The meaning of a row of operations over values.
use Rattle.std.specs.Prelude.{ℕ, suc, ◌+◌, ◌-◌, ◌≡◌, ◌≤◌, ◌<◌, List, [], ◌∷◌, ◌++◌, Option, Some}
use Rattle.std.specs.Prelude.{None, Contains, drop, length, reverse, slice_get, take}
use Rattle.rx_term.specs.Tree.{Tree}
use Rattle.rx_term.specs.Parts.{parts}
use Rattle.rx_term.specs.Store.{Store, tree_at}
use Rattle.rx_term.specs.Walks.{AllHeld, held_tree, held_trees}
use Rattle.rx_term.specs.declared.Term.{Term as Reference}
use Rattle.rec_syntax.specs.Syntax.{Spec}
use Rattle.rec_sorts.specs.Lookup.{symbols}
use Rattle.rec_sorts.specs.Numbering.{arity_of, name_of}
use Rattle.rec_sorts.specs.declared.letters.Meaning.TheVariants.{Symbol}
use Rattle.rec_trace.specs.States.{Move, Give, Invoke}
use Rattle.rec_trace.specs.declared.row.Row.{Row}
use Rattle.rec_trace.specs.declared.row.Step.{Step}
use Rattle.rec_trace.specs.declared.row.Step.TheVariants as step

-- moves_of y w ss: the moves of operations, the next one first
abbrev pub moves_of : Spec → Store → List Step → List Move
moves_of y w [] = []
moves_of y w (step.Give t ∷ ss) = Give (held_tree w t) ∷ moves_of y w ss
moves_of y w (step.GiveLast t at ∷ ss) = Give (held_tree w t) ∷ moves_of y w ss
moves_of y w (step.Invoke f k ∷ ss) = Invoke (name_of y (Symbol f)) k ∷ moves_of y w ss

-- floor_of ss: the number of values that are out of reach until the next `GiveLast`: up to its tree
abbrev pub floor_of : List Step → ℕ
floor_of [] = 0
floor_of (step.Give t ∷ ss) = floor_of ss
floor_of (step.GiveLast t at ∷ ss) = suc at
floor_of (step.Invoke f k ∷ ss) = floor_of ss

-- stacked ss vs: the values, the top first, without the trees whose parts are still to be pushed
abbrev pub stacked : List Step → List Reference → List Reference
stacked [] vs = reverse vs
stacked (step.Give t ∷ ss) vs = stacked ss vs
stacked (step.GiveLast t at ∷ ss) vs = reverse (drop (suc at) vs) ++ stacked ss (take at vs)
stacked (step.Invoke f k ∷ ss) vs = stacked ss vs

-- AreSteps y ss: each symbol is one of `y`, and has its number of arguments
abbrev pub AreSteps : Spec → List Step → Type 0
AreSteps y [] = Unit {0}
AreSteps y (step.Give t ∷ ss) = AreSteps y ss
AreSteps y (step.GiveLast t at ∷ ss) = AreSteps y ss
AreSteps y (step.Invoke f k ∷ ss) = (f < length (symbols y)) × (arity_of y f ≡ k) × AreSteps y ss

-- IsPart w whole t: the store has the term `t`, which is a part of `whole`
pub record IsPart (w : Store) (whole t : Reference) : Type 0 where
  pub tree : Tree
  pub held : tree_at w t ≡ Some tree
  pub within : Contains (parts (held_tree w whole)) tree

-- source_of ss vs: the tree whose parts are pushed next
abbrev pub source_of : List Step → List Reference → Option Reference
source_of [] vs = None
source_of (step.Give t ∷ ss) vs = source_of ss vs
source_of (step.GiveLast t at ∷ ss) vs = slice_get vs at
source_of (step.Invoke f k ∷ ss) vs = source_of ss vs

-- AreGiven w ss vs: each value to be pushed is a part of its tree
abbrev pub AreGiven : Store → List Step → List Reference → Type 0
AreGiven w [] vs = Unit {0}
AreGiven w (step.Give t ∷ ss) vs = (r : Reference) × (source_of ss vs ≡ Some r) × IsPart w r t
    × AreGiven w ss vs
AreGiven w (step.GiveLast t at ∷ ss) vs = (r : Reference) × (slice_get vs at ≡ Some r)
    × IsPart w r t × AreGiven w ss (take at vs)
AreGiven w (step.Invoke f k ∷ ss) vs = AreGiven w ss vs

-- IsClear ss n: over `n` values, each symbol finds its arguments within reach
abbrev pub IsClear : List Step → ℕ → Type 0
IsClear [] n = Unit {0}
IsClear (step.Give t ∷ ss) n = IsClear ss (suc n)
IsClear (step.GiveLast t at ∷ ss) n = (at < n) × (floor_of ss ≤ at) × IsClear ss n
IsClear (step.Invoke f k ∷ ss) n = (floor_of ss + k ≤ n) × IsClear ss (suc (n - k))

-- AreInRow y w ss vs: operations, the next one first, can be executed over values, the top last
pub record AreInRow (y : Spec) (w : Store) (ss : List Step) (vs : List Reference) : Type 0 where
  pub held : AllHeld w vs
  pub steps : AreSteps y ss
  pub given : AreGiven w ss vs
  pub floor : floor_of ss ≤ length vs
  pub clear : IsClear ss (length vs)

-- IsRow y w r: the operations of a row can be executed over its values
abbrev pub IsRow : Spec → Store → Row → Type 0
IsRow y w r = AreInRow y w (reverse r.steps.items) r.values.items

-- moves_in y w r: the moves of a row
abbrev pub moves_in : Spec → Store → Row → List Move
moves_in y w r = moves_of y w (reverse r.steps.items)

-- stack_in w r: the stack of a row, the top first
abbrev pub stack_in : Store → Row → List Tree
stack_in w r = held_trees w (stacked (reverse r.steps.items) r.values.items)

-- reach_of r: the number of values within reach
abbrev pub reach_of : Row → ℕ
reach_of r = length r.values.items - floor_of (reverse r.steps.items)

-- Lowers old new: the lowest values, as far as `new` records, are unchanged, and it records no more
-- than `old`
pub record Lowers (old new : Row) : Type 0 where
  pub low : new.low ≤ old.low
  pub within : old.low ≤ length old.values.items → new.low ≤ length new.values.items
  pub values : take new.low new.values.items ≡ take new.low old.values.items

-- KeepsParts w w' rs: all parts of the terms `rs` stay in the store
abbrev pub KeepsParts : Store → Store → List Reference → Type 0
KeepsParts w w' rs = (t r : Reference) (u : Tree) → Contains rs r → tree_at w t ≡ Some u
    → Contains (parts (held_tree w r)) u → tree_at w' t ≡ Some u
