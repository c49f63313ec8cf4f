-- The results of calls on references: each error has one meaning, and so has each success.
use Rattle.std.specs.Prelude.{◌≡◌, ◌≢◌, ◌⊎◌, ℕ, zero, suc, ◌+◌, ◌-◌, ◌<◌, ◌≤◌, ◌^◌, ℤ, Bool, true}
use Rattle.std.specs.Prelude.{false, List, ◌++◌, length, drop, map, Option, Some, None, Result, Ok, Err}
use Rattle.std.specs.Prelude.{IsSome, is_some}
use Rattle.std.specs.List.{list_all}
use Rattle.std.specs.Option.{option_and_then}
use Rattle.rx_term.specs.Name.{is_allowed}
use Rattle.rx_term.specs.Tree.{Tree, Trees, Appl, Items, none, more, count_of, items_of, to_list}
use Rattle.rx_term.specs.Store.{Store, tree_at, part_at, args_of}
use Rattle.rx_term.specs.Kinds.{HasInt, HasNil, HasCons, HasAppl, HasHole}
use Rattle.rx_term.specs.Steps.{Makes, Refuses, Grows, Reserves, RefusesReserve, Reclaims}
use Rattle.rx_term.specs.Steps.{with_count}
use Rattle.rx_term.specs.Walks.{HaveTrees, Lists}
use Rattle.rx_term.specs.declared.Term.{Term}
use Rattle.rx_term.specs.declared.Symbol.{Symbol}
use Rattle.rx_term.specs.declared.faults.BankFault.TheVariants as bank
use Rattle.rx_text.specs.Canon.{canon}
use Rattle.rx_text.specs.Verdict.{IsVerdict, Spelt, Outside, TooLong}
use Rattle.psilt_core.specs.Names.{IsFull, IsFullFor, KeepsLimit}
use Rattle.psilt_core.specs.declared.fault.Fault.{Fault}
use Rattle.psilt_core.specs.declared.fault.Fault.TheVariants.{Memory, Full, Stale, Kind, Syntax}
use Rattle.psilt_core.specs.declared.fault.Fault.TheVariants.{Range, Name, Roots, Unprotected}

-- Has o P: there is a value, and P holds of it
abbrev pub Has : {X : Type 0} → Option X → (X → Type 0) → Type 0
Has {X} o P = (x : X) × (o ≡ Some x) × P x

-- term_of n: the reference of a number
abbrev pub term_of : ℕ → Term
term_of n = record { 0 = n }

-- terms_of ns: the references of these numbers
abbrev pub terms_of : List ℕ → List Term
terms_of ns = map term_of ns

-- are_held w ns: whether the store has the references of all these numbers
abbrev pub are_held : Store → List ℕ → Bool
are_held w ns = list_all (λ n. is_some (tree_at w (term_of n))) ns

-- is_plain_list t: whether there is a tree and it is a list without annotations
abbrev pub is_plain_list : Option Tree → Bool
is_plain_list (Some (Items ts none)) = true
is_plain_list t = false

-- MakesFrom old new given tree r: the tree is made; or nothing changed, since a given reference is
-- not in the store or the parts do not fit; or the store has an error
abbrev pub MakesFrom : Store → Store → List ℕ → Option Tree → Result Term Fault → Type 0
MakesFrom old new given tree (Ok r) = IsSome tree × Makes old new tree r
MakesFrom old new given tree (Err Stale) = (are_held old given ≡ false) × (new ≡ old)
MakesFrom old new given tree (Err Kind) = (are_held old given ≡ true) × (tree ≡ None) × (new ≡ old)
MakesFrom old new given tree (Err Memory) = IsSome tree × Refuses old new tree bank.Memory
MakesFrom old new given tree (Err Full) = IsSome tree × Refuses old new tree bank.Full
MakesFrom old new given tree (Err e) = ⊥

-- IsApplication w name quoted args tree: the tree applies a name to the trees of these references
abbrev pub IsApplication : Store → List ℕ → Bool → List ℕ → Option Tree → Type 0
IsApplication w name quoted args tree = (ts : Trees) × HaveTrees w (terms_of args) (to_list ts)
    × (tree ≡ Some (Appl name quoted ts none))

-- IsRest w args tree: the tree is the list of the trees of these references from some index on
abbrev pub IsRest : Store → List ℕ → Tree → Type 0
IsRest w args tree = (k : ℕ) × Lists w (terms_of (drop k args)) (Some tree)

-- AddsRests old new args: each new tree is such a list
abbrev pub AddsRests : Store → Store → List ℕ → Type 0
AddsRests old new args = (r : Term) (v : Tree) → tree_at new r ≡ Some v
    → (tree_at old r ≡ Some v) ⊎ IsRest old args v

-- Applies most old new name quoted args r: the application is made; or nothing changed, since the
-- name has to be quoted, or else there are too many arguments, or else one is not in the store; or
-- memory, cells or names ran out
abbrev pub Applies : ℕ → Store → Store → List ℕ → Bool → List ℕ → Result Term Fault → Type 0
Applies most old new name quoted args (Ok r) = IsApplication old name quoted args (tree_at new r)
    × Grows old new × KeepsLimit most old new
Applies most old new name quoted args (Err Name) = (is_allowed name quoted ≡ false) × (new ≡ old)
Applies most old new name quoted args (Err Range) = (is_allowed name quoted ≡ true)
    × (2 ^ 32 ≤ length args) × (new ≡ old)
Applies most old new name quoted args (Err Stale) = (is_allowed name quoted ≡ true)
    × (length args < 2 ^ 32) × (are_held old args ≡ false) × (new ≡ old)
Applies most old new name quoted args (Err Memory) = Grows old new
Applies most old new name quoted args (Err Full) =
    IsFullFor most old new (record { name = name; quoted = quoted; arity = length args })
    × Grows old new
Applies most old new name quoted args (Err e) = ⊥

-- Looks w t P r: P holds of the result, or the reference is not in the store
abbrev pub Looks : {X : Type 0} → Store → Term → (X → Type 0) → Result X Fault → Type 0
Looks w t P (Ok x) = P x
Looks w t P (Err Stale) = tree_at w t ≡ None
Looks w t P (Err e) = ⊥

-- ReadsPart w t of r: a part of the tree of a reference; or the reference is not in the store, or
-- its tree has no such part
abbrev pub ReadsPart : Store → Term → (Tree → Option Tree) → Result Term Fault → Type 0
ReadsPart w t of (Ok r) = IsSome (tree_at w r) × (tree_at w r ≡ part_at of w t)
ReadsPart w t of (Err Stale) = tree_at w t ≡ None
ReadsPart w t of (Err Kind) = IsSome (tree_at w t) × (part_at of w t ≡ None)
ReadsPart w t of (Err e) = ⊥

-- HasKindNumber w t n z: the number of the kind of a tree, and the value of an integer
abbrev pub HasKindNumber : Store → Term → ℕ → ℤ → Type 0
HasKindNumber w t zero z = HasInt w t z
HasKindNumber w t (suc zero) z = HasNil w t
HasKindNumber w t (suc (suc zero)) z = HasCons w t
HasKindNumber w t (suc (suc (suc zero))) z = (s : Symbol) × HasAppl w t s
HasKindNumber w t (suc (suc (suc (suc zero)))) z = HasHole w t
HasKindNumber w t n z = ⊥

-- ReadsSymbol w t r: the symbol of an application; or the reference is not in the store, or is not
-- an application
abbrev pub ReadsSymbol : Store → Term → Result Symbol Fault → Type 0
ReadsSymbol w t (Ok s) = HasAppl w t s
ReadsSymbol w t (Err Stale) = tree_at w t ≡ None
ReadsSymbol w t (Err Kind) = IsSome (tree_at w t)
    × ((name : List ℕ) (quoted : Bool) (args anns : Trees)
    → tree_at w t ≢ Some (Appl name quoted args anns))
ReadsSymbol w t (Err e) = ⊥

-- ReadsOf w t of r: a property that trees of some kinds have; or the reference is not in the store,
-- or its tree does not have it
abbrev pub ReadsOf : {X : Type 0} → Store → Term → (Tree → Option X) → Result X Fault → Type 0
ReadsOf w t of (Ok x) = option_and_then of (tree_at w t) ≡ Some x
ReadsOf w t of (Err Stale) = tree_at w t ≡ None
ReadsOf w t of (Err Kind) = IsSome (tree_at w t) × (option_and_then of (tree_at w t) ≡ None)
ReadsOf w t of (Err e) = ⊥

-- name_in t: the name of an application
abbrev pub name_in : Tree → Option (List ℕ)
name_in (Appl name quoted args anns) = Some name
name_in t = None

-- quoted_in t: whether the name of an application is quoted
abbrev pub quoted_in : Tree → Option Bool
quoted_in (Appl name quoted args anns) = Some quoted
quoted_in t = None

-- arity_in t: the number of arguments of an application
abbrev pub arity_in : Tree → Option ℕ
arity_in (Appl name quoted args anns) = Some (count_of args)
arity_in t = None

-- item_at i ts: the tree with an index, from 0
abbrev pub item_at : ℕ → Trees → Option Tree
item_at i none = None
item_at zero (more t ts) = Some t
item_at (suc i) (more t ts) = item_at i ts

-- item_in i tree: the item of a list with an index, from 0
abbrev pub item_in : ℕ → Option Tree → Option Tree
item_in i tree = option_and_then (λ u. item_at i (items_of u)) tree

-- IsPlaceIn i tree: the tree is a list without annotations that has more than i items
abbrev pub IsPlaceIn : ℕ → Option Tree → Type 0
IsPlaceIn i tree = (ts : Trees) × (tree ≡ Some (Items ts none)) × (i < count_of ts)

-- arg_of i t: the argument of an application with an index, from 0
abbrev pub arg_of : ℕ → Tree → Option Tree
arg_of i (Appl name quoted args anns) = item_at i args
arg_of i t = None

-- ReadsArg w t i r: the argument of an application; or the reference is not in the store, is not an
-- application, or has at most i arguments
abbrev pub ReadsArg : Store → Term → ℕ → Result Term Fault → Type 0
ReadsArg w t i (Ok r) = IsSome (tree_at w r) × (tree_at w r ≡ part_at (arg_of i) w t)
ReadsArg w t i (Err Stale) = tree_at w t ≡ None
ReadsArg w t i (Err Kind) = IsSome (tree_at w t) × (part_at args_of w t ≡ None)
ReadsArg w t i (Err Range) = (n : ℕ) × (option_and_then arity_in (tree_at w t) ≡ Some n) × (n ≤ i)
ReadsArg w t i (Err e) = ⊥

-- Spells w t of before after r: the text is replaced and its length returned; or it is unchanged,
-- since the reference is not in the store, its tree has no such text, or memory ran out
abbrev pub Spells : Store → Term → (Tree → Option (List ℕ)) → List ℕ → List ℕ → Result ℕ Fault
    → Type 0
Spells w t of before after (Ok n) = (option_and_then of (tree_at w t) ≡ Some after)
    × (n ≡ length after)
Spells w t of before after (Err Stale) = (tree_at w t ≡ None) × (after ≡ before)
Spells w t of before after (Err Kind) = IsSome (tree_at w t)
    × (option_and_then of (tree_at w t) ≡ None) × (after ≡ before)
Spells w t of before after (Err Memory) = after ≡ before
Spells w t of before after (Err e) = ⊥

-- printed_in t: the printed text of a tree
abbrev pub printed_in : Tree → Option (List ℕ)
printed_in t = Some (canon t)

-- SpellsWithin w t most before after r: the text is replaced by the printed one, which has at most
-- `most` bytes, and its length returned; or it is unchanged, since the reference is not in the store,
-- the printed text is longer, or memory ran out
abbrev pub SpellsWithin : Store → Term → ℕ → List ℕ → List ℕ → Result ℕ Fault → Type 0
SpellsWithin w t most before after (Ok n) = Spells w t printed_in before after (Ok n) × (n ≤ most)
SpellsWithin w t most before after (Err Range) =
    Has (tree_at w t) (λ u. most < length (canon u)) × (after ≡ before)
SpellsWithin w t most before after (Err Stale) = (tree_at w t ≡ None) × (after ≡ before)
SpellsWithin w t most before after (Err Memory) = after ≡ before
SpellsWithin w t most before after (Err e) = ⊥

-- Reads most old new text place r: the tree that a text spells is made; or the store is unchanged,
-- since the text is too long or leaves the grammar at `place`; or memory, cells or names ran out
abbrev pub Reads : ℕ → Store → Store → List ℕ → ℕ → Result Term Fault → Type 0
Reads most old new text place (Ok t) = (u : Tree) × (tree_at new t ≡ Some u)
    × IsVerdict text (Spelt u) × Grows old new × KeepsLimit most old new
Reads most old new text place (Err Range) = IsVerdict text TooLong × (new ≡ old)
Reads most old new text place (Err Syntax) = IsVerdict text (Outside place) × (new ≡ old)
Reads most old new text place (Err Memory) = Grows old new
Reads most old new text place (Err Full) = IsFull new most × Grows old new
Reads most old new text place (Err e) = ⊥

-- Protects old new t r: the protection count is one higher; or nothing changed, since the reference
-- is not in the store or its count is 65,535
abbrev pub Protects : Store → Store → Term → Result (Unit {0}) Fault → Type 0
Protects old new t (Ok u) = new ≡ with_count old t (old.roots t.0 + 1)
Protects old new t (Err Stale) = (tree_at old t ≡ None) × (new ≡ old)
Protects old new t (Err Roots) = (old.roots t.0 ≡ 65535) × (new ≡ old)
Protects old new t (Err e) = ⊥

-- Unprotects old new t r: the protection count is one lower; or nothing changed, since it is 0
abbrev pub Unprotects : Store → Store → Term → Result (Unit {0}) Fault → Type 0
Unprotects old new t (Ok u) = (0 < old.roots t.0) × (new ≡ with_count old t (old.roots t.0 - 1))
Unprotects old new t (Err Unprotected) = (old.roots t.0 ≡ 0) × (new ≡ old)
Unprotects old new t (Err e) = ⊥

-- Keeps old new kept r: all terms are freed that neither the roots nor the given references reach;
-- or nothing changed, since one of these is not in the store, or memory ran out
abbrev pub Keeps : Store → Store → List ℕ → Result (Unit {0}) Fault → Type 0
Keeps old new kept (Ok u) = Reclaims old new (terms_of kept)
Keeps old new kept (Err Stale) = (are_held old kept ≡ false) × (new ≡ old)
Keeps old new kept (Err Memory) = new ≡ old
Keeps old new kept (Err e) = ⊥

-- Copies text before after r: the first bytes of a buffer are those of the text, and the others are
-- unchanged; or the buffer is shorter and unchanged
abbrev pub Copies : List ℕ → List ℕ → List ℕ → Result (Unit {0}) Fault → Type 0
Copies text before after (Ok u) = after ≡ text ++ drop (length text) before
Copies text before after (Err Range) = (length before < length text) × (after ≡ before)
Copies text before after (Err e) = ⊥

-- MakesRoom old new k r: memory for k more cells is reserved, or why not
abbrev pub MakesRoom : Store → Store → ℕ → Result (Unit {0}) Fault → Type 0
MakesRoom old new k (Ok u) = Reserves old new k
MakesRoom old new k (Err Memory) = RefusesReserve old new k bank.Memory
MakesRoom old new k (Err Full) = RefusesReserve old new k bank.Full
MakesRoom old new k (Err e) = ⊥
