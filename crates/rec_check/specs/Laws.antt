-- The law of the first error.
use Rattle.std.specs.Prelude.{◌≡◌, List, ◌∷◌, Some}
use Rattle.rec_syntax.specs.Syntax.{Spec}
use Rattle.rec_sorts.specs.SpecRules.{Fault, fault}
use Rattle.rec_check.specs.Errors.{AreErrors, rule_number}
use Rattle.rec_check.specs.Findings.{Found}

-- if a specification violates a rule, the first error is that of the verdict: its rule and offset
abbrev pub FirstPlace : Type 0
FirstPlace = (y : Spec) (f : Fault) (fs : List Found) → fault y ≡ Some f → AreErrors y f fs
    → (first : Found) × (rest : List Found) × (fs ≡ first ∷ rest)
    × (first.at ≡ f.at) × (rule_number first.kind ≡ f.number)
