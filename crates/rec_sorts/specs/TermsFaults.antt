-- The errors that a check of input terms reports.
use Rattle.std.specs.Prelude.{ℕ, ◌≡◌, Option, Some}
use Rattle.rec_sorts.specs.declared.fault.TermsFault.{TermsFault}
use Rattle.rec_sorts.specs.declared.fault.TermsFault.TheVariants.{Rule, Memory}

-- IsTermsFault broken fault: the violated rule is reported, or out of memory
abbrev pub IsTermsFault : Option ℕ → TermsFault → Type 0
IsTermsFault broken (Rule number) = broken ≡ Some number
IsTermsFault broken Memory = Unit {0}
