-- The effect of each function of a term store on its state.
use Rattle.std.specs.Prelude.{ℕ, ◌+◌, ◌≤◌, ◌<◌, ◌≡◌, ◌≢◌, ◌⊎◌, ◌==◌, Bool, List, Option, Some}
use Rattle.std.specs.Prelude.{Result, Ok, Err, IsSome, if◌then◌else◌, Contains, IsTrue}
use Rattle.rx_term.specs.Name.{Signature, is_name}
use Rattle.rx_term.specs.Tree.{Tree, Trees, Appl, count_of, is_tree}
use Rattle.rx_term.specs.Parts.{parts}
use Rattle.rx_term.specs.Store.{Store, tree_at, signature_of, cells}
use Rattle.rx_term.specs.declared.Term.{Term}
use Rattle.rx_term.specs.declared.Symbol.{Symbol}
use Rattle.rx_term.specs.declared.faults.RootsFull.{RootsFull}
use Rattle.rx_term.specs.declared.faults.BankFault.{BankFault}
use Rattle.rx_term.specs.declared.faults.BankFault.TheVariants.{Memory, Full}

-- SameBesideContent old new: the parts that only `symbol`, `protect` and `unprotect` change are
-- equal
pub record SameBesideContent (old new : Store) : Type 0 where
  pub symbols : new.symbols ≡ old.symbols
  pub roots : new.roots ≡ old.roots
  pub cap : new.cap ≡ old.cap

-- Makes old new tree r: `r` has the tree in `new`, no other reference changes, and nothing at all
-- changes if `r` was in `old`
pub record Makes (old new : Store) (tree : Option Tree) (r : Term) : Type 0 where
  pub made : tree_at new r ≡ tree
  pub others : (t : Term) → t ≢ r → tree_at new t ≡ tree_at old t
  pub there : IsSome (tree_at old r) → new ≡ old
  pub beside : SameBesideContent old new
  pub room : old.spare + cells old ≤ new.spare + cells new

-- FaultFits w e: the number of cells in use when making a term fails with this error
abbrev pub FaultFits : Store → BankFault → Type 0
FaultFits w Memory = cells w < w.cap
FaultFits w Full = cells w ≡ w.cap

-- IsBankRefusal w e: if the error is Full, as many cells are in use as the limit allows
abbrev pub IsBankRefusal : Store → BankFault → Type 0
IsBankRefusal w Memory = Unit {0}
IsBankRefusal w Full = cells w ≡ w.cap

-- ReserveFits w k e: Full if `k` more cells would pass the limit, Memory if they would not
abbrev pub ReserveFits : Store → ℕ → BankFault → Type 0
ReserveFits w k Memory = cells w + k ≤ w.cap
ReserveFits w k Full = w.cap < cells w + k

-- Refuses old new tree e: making a term failed: the tree was not there, no cell was spare, and no
-- tree or count changed
pub record Refuses (old new : Store) (tree : Option Tree) (e : BankFault) : Type 0 where
  pub content : new.content ≡ old.content
  pub beside : SameBesideContent old new
  pub room : old.spare ≤ new.spare
  pub absent : (t : Term) → tree_at old t ≢ tree
  pub none_spare : old.spare ≡ 0
  pub fits : FaultFits old e

-- IsKeptRoot w extra r: a reference that is protected or in `extra`
abbrev pub IsKeptRoot : Store → List Term → Term → Type 0
IsKeptRoot w extra r = (0 < w.roots r.0) ⊎ Contains extra r

-- IsReached w extra u: the tree is a part of the tree of such a reference
abbrev pub IsReached : Store → List Term → Tree → Type 0
IsReached w extra u = (r : Term)
    × ((v : Tree) × IsKeptRoot w extra r × (tree_at w r ≡ Some v) × Contains (parts v) u)

-- Reclaims old new extra: exactly the references of reached trees stay, with their trees; the cell
-- of each other one becomes spare
pub record Reclaims (old new : Store) (extra : List Term) : Type 0 where
  pub kept : (t : Term) (u : Tree) → tree_at old t ≡ Some u → IsReached old extra u
      → tree_at new t ≡ Some u
  pub only : (t : Term) (u : Tree) → tree_at new t ≡ Some u
      → (tree_at old t ≡ Some u) × IsReached old extra u
  pub beside : SameBesideContent old new
  pub room : new.spare + cells new ≡ old.spare + cells old

-- with_count w t n: the store in which `t` has `n` protections
abbrev pub with_count : Store → Term → ℕ → Store
with_count w t n = record w { roots = λ k. if k == t.0 then n else w.roots k }

-- Adds old new g s: `s` has the signature in `new`, no other symbol changes, and nothing at all
-- changes if `s` was in `old`
pub record Adds (old new : Store) (g : Signature) (s : Symbol) : Type 0 where
  pub added : signature_of new s ≡ Some g
  pub others : (t : Symbol) → t ≢ s → signature_of new t ≡ signature_of old t
  pub there : IsSome (signature_of old s) → new ≡ old
  pub content : new.content ≡ old.content
  pub roots : new.roots ≡ old.roots
  pub cap : new.cap ≡ old.cap
  pub spare : new.spare ≡ old.spare

-- Reserves old new k: at least `k` cells are spare, and nothing else changed
pub record Reserves (old new : Store) (k : ℕ) : Type 0 where
  pub content : new.content ≡ old.content
  pub beside : SameBesideContent old new
  pub room : old.spare ≤ new.spare
  pub reserved : k ≤ new.spare

-- RefusesReserve old new k e: room was refused: Full if and only if `k` more cells would pass the
-- limit; nothing but spare cells changed
pub record RefusesReserve (old new : Store) (k : ℕ) (e : BankFault) : Type 0 where
  pub content : new.content ≡ old.content
  pub beside : SameBesideContent old new
  pub room : old.spare ≤ new.spare
  pub fits : ReserveFits old k e

-- MakesOrRefuses: the result of making a term: the reference, or an error
abbrev pub MakesOrRefuses : Store → Store → Option Tree → Result Term BankFault → Type 0
MakesOrRefuses old new tree (Ok r) = Makes old new tree r
MakesOrRefuses old new tree (Err e) = Refuses old new tree e

-- AddsOrRefuses: the result of `symbol`: the one symbol of a signature, or out of memory
abbrev pub AddsOrRefuses : Store → Store → Signature → Result Symbol BankFault → Type 0
AddsOrRefuses old new g (Ok s) = Adds old new g s
AddsOrRefuses old new g (Err e) = (new ≡ old) × (e ≡ Memory)

-- ReservesOrRefuses: the result of `reserve`: room for `k` cells, or an error
abbrev pub ReservesOrRefuses : Store → Store → ℕ → Result (Unit {0}) BankFault → Type 0
ReservesOrRefuses old new k (Ok u) = Reserves old new k
ReservesOrRefuses old new k (Err e) = RefusesReserve old new k e

-- ProtectsOrRefuses: the result of `protect`: one more protection, or 65,535 of them are there
abbrev pub ProtectsOrRefuses : Store → Store → Term → Result (Unit {0}) RootsFull → Type 0
ProtectsOrRefuses old new t (Ok u) = (old.roots t.0 < 65535)
    × (new ≡ with_count old t (old.roots t.0 + 1))
ProtectsOrRefuses old new t (Err e) = (old.roots t.0 ≡ 65535) × (new ≡ old)

-- Grows old new: every tree and symbol stays, and so do protections and limit; this holds after
-- making terms and symbols and after reserving room, also if they fail
pub record Grows (old new : Store) : Type 0 where
  pub trees : (t : Term) (u : Tree) → tree_at old t ≡ Some u → tree_at new t ≡ Some u
  pub symbols : (s : Symbol) (g : Signature) → signature_of old s ≡ Some g
      → signature_of new s ≡ Some g
  pub roots : new.roots ≡ old.roots
  pub cap : new.cap ≡ old.cap
  pub room : old.spare + cells old ≤ new.spare + cells new

-- Keeps old new work: each tree that is reached from roots or from `work` stays; symbols,
-- protections and limit are equal; this holds after making terms and after collections
pub record Keeps (old new : Store) (work : List Term) : Type 0 where
  pub trees : (t : Term) (u : Tree) → tree_at old t ≡ Some u → IsReached old work u
      → tree_at new t ≡ Some u
  pub beside : SameBesideContent old new

-- IsExhausted w work: the store is full, and each of its trees is reached from roots or from `work`
pub record IsExhausted (w : Store) (work : List Term) : Type 0 where
  pub full : cells w ≡ w.cap
  pub needed : (t : Term) (u : Tree) → tree_at w t ≡ Some u → IsReached w work u

-- IsSound w: the invariant of every store: one reference for each tree, one symbol for each
-- signature, all parts and symbols of its trees are there and valid, and what is protected is there
pub record IsSound (w : Store) : Type 0 where
  pub one_to_one : (s t : Term) (u : Tree) → tree_at w s ≡ Some u → tree_at w t ≡ Some u → s ≡ t
  pub closed : (t : Term) (u v : Tree) → tree_at w t ≡ Some u → Contains (parts u) v
      → (s : Term) × (tree_at w s ≡ Some v)
  pub valid : (t : Term) (u : Tree) → tree_at w t ≡ Some u → IsTrue (is_tree u)
  pub named : (t : Term) (name : List ℕ) (quoted : Bool) (args anns : Trees)
      → tree_at w t ≡ Some (Appl name quoted args anns)
      → (s : Symbol)
      × (signature_of w s ≡ Some (record { name = name; quoted = quoted; arity = count_of args }))
  pub valid_names : (s : Symbol) (g : Signature) → signature_of w s ≡ Some g
      → IsTrue (is_name g.name g.quoted)
  pub symbols_one_to_one : (s t : Symbol) (g : Signature) → signature_of w s ≡ Some g
      → signature_of w t ≡ Some g → s ≡ t
  pub rooted_held : (t : Term) → 0 < w.roots t.0 → IsSome (tree_at w t)
  pub counted : (t : Term) → w.roots t.0 ≤ 65535
  pub room : w.spare + cells w ≤ w.cap
