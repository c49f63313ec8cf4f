-- The state of a pool: the slots that are taken, and those that can be.
use Rattle.std.specs.Prelude.{◌≡◌, ℕ, ◌+◌, ◌-◌, ◌<◌, ◌≤◌, ◌^◌, min, List, take, length, get_or}
use Rattle.std.specs.Prelude.{Option, Some, None, Bool, true, false, nat_eq}
use Rattle.rx_arena.specs.Inner.Node.{Node, mark_of}
use Rattle.rx_arena.specs.Inner.Held.{IsHeld}
use Rattle.rx_arena.specs.Put.{times, filled, without}

-- the state of a pool
pub record PoolState : Type 0 where
  -- the contents of each slot that is taken
  pub cells : List (Option Node)
  -- the slots that were freed, the next one to be taken first
  pub free : List ℕ
  -- the slots from this one on were never taken
  pub fresh : ℕ
  -- the number of slots of all blocks
  pub room : ℕ
  pub cap : ℕ
  -- whether the two marks of taken cells have exchanged their meanings
  pub turned : Bool

-- spare_of p: the number of slots that can be taken without new memory
abbrev pub spare_of : PoolState → ℕ
spare_of p = min p.cap p.room - filled p.cells

-- cells_of slots free fresh: the contents of the taken slots, from those of all slots
abbrev pub cells_of : List (Option Node) → List ℕ → ℕ → List (Option Node)
cells_of slots free fresh = without (take fresh slots) free

-- is_unmarked_node turned o: there is a node, and it is not marked
abbrev pub is_unmarked_node : Bool → Option Node → Bool
is_unmarked_node turned None = false
is_unmarked_node turned (Some n) = nat_eq n.mark (mark_of turned false)

-- is_given_back o: there is a node, and it was freed
abbrev pub is_given_back : Option Node → Bool
is_given_back None = false
is_given_back (Some n) = nat_eq n.mark 2

-- IsPool: the free slots, the counts and the contents agree; marks distinguish taken cells from
-- freed ones
pub record IsPool (slots : List (Option Node)) (free : List ℕ) (fresh taken room cap : ℕ)
    : Type 0 where
  pub once : (s : ℕ) → times s free ≤ 1
  pub held : (s : ℕ) → s < fresh → IsHeld slots s
  pub empty : (s : ℕ) → fresh ≤ s → get_or slots s None ≡ None
  pub free_known : (s : ℕ) → 0 < times s free → is_given_back (get_or slots s None) ≡ true
  pub taken_known : (s : ℕ) (n : Node) → get_or (cells_of slots free fresh) s None ≡ Some n
      → n.mark ≤ 1
  pub free_counted : taken + length free ≡ fresh
  pub taken_counted : filled (cells_of slots free fresh) ≡ taken
  pub room_is : length slots ≡ room
  pub fresh_in_room : fresh ≤ room
  pub fresh_in_cap : fresh ≤ cap
  pub room_in_cap : room < cap + 1024
  pub cap_small : cap ≤ 2 ^ 30
