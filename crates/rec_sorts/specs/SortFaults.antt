-- The errors that a check of a specification reports.
use Rattle.std.specs.Prelude.{ℕ, ◌≡◌, List, [], ◌∷◌, Option, Some, None, suc}
use Rattle.rec_sorts.specs.SpecRules.{Fault}
use Rattle.rec_sorts.specs.declared.fault.SortFault.{SortFault}
use Rattle.rec_sorts.specs.declared.fault.SortFault.TheVariants.{Rule, Memory}

-- IsFault fault reported: the violated rule and its offset are reported, or out of memory
abbrev pub IsFault : Option Fault → SortFault → Type 0
IsFault fault (Rule number at) = fault ≡ Some (record { number = number; at = at })
IsFault fault Memory = Unit {0}

-- first_place number places: the first offset, with the number of its rule; the first one belongs
-- to rule `number`
abbrev pub first_place : ℕ → List (Option ℕ) → Option Fault
first_place number [] = None
first_place number (Some at ∷ places) = Some (record { number = number; at = at })
first_place number (None ∷ places) = first_place (suc number) places
