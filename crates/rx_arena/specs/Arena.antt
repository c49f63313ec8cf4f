-- The state of an arena in contracts: the taken slots, the chains and the gray list.
use Rattle.std.specs.Prelude.{◌≡◌, ℕ, ◌+◌, ◌%◌, ◌<◌, ◌≤◌, ◌^◌, Bool, true, false, not, cond, nat_eq}
use Rattle.std.specs.Prelude.{List}
use Rattle.std.specs.Prelude.{[], ◌∷◌, length, filter, map, get_or, replicate, Option, Some, None}
use Rattle.std.specs.Option.{option_map}
use Rattle.rx_arena.specs.declared.CellBody.{CellBody}
use Rattle.rx_arena.specs.declared.Slot.{Slot}
use Rattle.rx_arena.specs.Inner.Node.{Node, has_mark}
use Rattle.rx_arena.specs.Put.{times, times_in, filled}
use Rattle.rx_arena.specs.Inner.Pool.{PoolState, spare_of}

-- a taken slot: the contents of its cell, the number of protections, and whether it is marked
pub record Taken : Type 0 where
  pub body : CellBody
  pub roots : ℕ
  pub marked : Bool

-- the state of an arena
pub record ArenaState : Type 0 where
  -- the contents of each slot
  pub cells : List (Option Taken)
  pub chains : List (List ℕ)
  pub gray : List ℕ
  -- the number of slots that can be taken without new memory
  pub spare : ℕ
  -- the largest number of slots that can be taken at once
  pub cap : ℕ

-- taken_at a s: the contents of a slot
abbrev pub taken_at : ArenaState → ℕ → Option Taken
taken_at a s = get_or a.cells s None

-- IsTaken a s: the slot is taken
abbrev pub IsTaken : ArenaState → ℕ → Type 0
IsTaken a s = (t : Taken) × (taken_at a s ≡ Some t)

-- taken_count a: the number of slots that are taken
abbrev pub taken_count : ArenaState → ℕ
taken_count a = filled a.cells

-- chain_at a c: the slots of a chain
abbrev pub chain_at : ArenaState → ℕ → List ℕ
chain_at a c = get_or a.chains c []

-- InChain a s: the slot is in a chain
abbrev pub InChain : ArenaState → ℕ → Type 0
InChain a s = 0 < times_in s a.chains

-- IsLoose a s: the slot is in no chain
abbrev pub IsLoose : ArenaState → ℕ → Type 0
IsLoose a s = times_in s a.chains ≡ 0

-- is_marked o: the slot is taken and marked
abbrev pub is_marked : Option Taken → Bool
is_marked None = false
is_marked (Some t) = t.marked

-- marked_at a s: this of a slot
abbrev pub marked_at : ArenaState → ℕ → Bool
marked_at a s = is_marked (taken_at a s)

-- IsMarked a s: this as a statement
abbrev pub IsMarked : ArenaState → ℕ → Type 0
IsMarked a s = marked_at a s ≡ true

-- is_unmarked o: the slot is taken and not marked
abbrev pub is_unmarked : Option Taken → Bool
is_unmarked None = false
is_unmarked (Some t) = not t.marked

-- root_count o: the number of protections
abbrev pub root_count : Option Taken → ℕ
root_count None = 0
root_count (Some t) = t.roots

-- roots_at a s: the number of protections of a slot
abbrev pub roots_at : ArenaState → ℕ → ℕ
roots_at a s = root_count (taken_at a s)

-- stored_hash o: the hash in a cell
abbrev pub stored_hash : Option Taken → ℕ
stored_hash None = 0
stored_hash (Some t) = t.body.hash

-- hash_at a s: the hash in the cell of a slot
abbrev pub hash_at : ArenaState → ℕ → ℕ
hash_at a s = stored_hash (taken_at a s)

-- new_cell b: a cell that was just taken
abbrev pub new_cell : CellBody → Taken
new_cell b = record { body = b; roots = 0; marked = false }

-- with_count k t: the cell with `k` protections
abbrev pub with_count : ℕ → Taken → Taken
with_count k t = record t { roots = k }

-- with_marking y t: the cell, marked or not
abbrev pub with_marking : Bool → Taken → Taken
with_marking y t = record t { marked = y }

-- kept_in a c: the slots of a chain that are marked
abbrev pub kept_in : ArenaState → ℕ → List ℕ
kept_in a c = filter (λ s. marked_at a s) (chain_at a c)

-- dropped_from a c: the slots of a chain that are not marked
abbrev pub dropped_from : ArenaState → ℕ → List ℕ
dropped_from a c = filter (λ s. not (marked_at a s)) (chain_at a c)

-- besides s ss: the slots of a list without this one
abbrev pub besides : ℕ → List ℕ → List ℕ
besides s ss = filter (λ t. not (nat_eq t s)) ss

-- IsUnprotected a c: no slot that chain `c` would drop is protected
abbrev pub IsUnprotected : ArenaState → ℕ → Type 0
IsUnprotected a c = (s : ℕ) → 0 < times s (chain_at a c) → marked_at a s ≡ false → roots_at a s ≡ 0

-- IsFirst s ss: the slot is the first of the list, or the list is empty
abbrev pub IsFirst : Option Slot → List ℕ → Type 0
IsFirst None ss = ss ≡ []
IsFirst (Some s) ss = (rest : List ℕ) × (ss ≡ s.0 ∷ rest)

-- times_hashed a n c s: the number of times that the slot has to be in chain `c` of `n`, by its
-- hash
abbrev pub times_hashed : ArenaState → ℕ → ℕ → ℕ → ℕ
times_hashed a n c s = cond (nat_eq (hash_at a s % n) c) (times_in s a.chains) 0

-- IsArena a: the invariant of every arena
pub record IsArena (a : ArenaState) : Type 0 where
  -- no slot is in the chains twice
  pub alone : (s : ℕ) → times_in s a.chains ≤ 1
  pub chained_taken : (s : ℕ) → InChain a s → IsTaken a s
  -- no slot is in the gray list twice
  pub gray_once : (s : ℕ) → times s a.gray ≤ 1
  pub gray_marked : (s : ℕ) → 0 < times s a.gray → IsMarked a s
  pub fits : a.spare + taken_count a ≤ a.cap
  pub below : (s : ℕ) → IsTaken a s → s < a.cap
  pub few_chains : length a.chains < 2 ^ 32
  pub small_cap : a.cap ≤ 2 ^ 30

-- empty_arena cap chains: no slot is taken, and all chains are empty
abbrev pub empty_arena : ℕ → ℕ → ArenaState
empty_arena cap chains =
    record { cells = []; chains = replicate chains []; gray = []; spare = 0; cap = cap }

-- shown_of turned n: the visible contents of a node, from the state of the turn
abbrev pub shown_of : Bool → Node → Taken
shown_of turned n = record { body = n.body; roots = n.roots; marked = has_mark turned n }

-- state_of p chains gray: the arena of a pool, with these lists through its cells
abbrev pub state_of : PoolState → List (List ℕ) → List ℕ → ArenaState
state_of p chains gray = record {
  cells = map (option_map (shown_of p.turned)) p.cells;
  chains = chains;
  gray = gray;
  spare = spare_of p;
  cap = p.cap;
}
