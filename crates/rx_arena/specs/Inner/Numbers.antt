-- Slots, or none, as numbers.
use Rattle.std.specs.Prelude.{ℕ, nat_eq, cond, Option, Some, None}

-- slot_numbered n: the slot of a number; none for the largest one
abbrev pub slot_numbered : ℕ → Option ℕ
slot_numbered n = cond (nat_eq n 4294967295) None (Some n)
