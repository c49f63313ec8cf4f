-- From what was read of the text of a specification to which one it spells.
use Rattle.std.proofs.Common.{◌≡◌, ℕ, List, Some, subst}
use Rattle.rec_syntax.specs.Syntax.{Sourced, Spec}
use Rattle.rec_sorts.specs.SpecRules as verdict
use Rattle.rec_sorts.specs.SpecRules.{Good, SpecVerdict}
use Rattle.rx_run.specs.declared.refusal.Reading.TheVariants as reading
use Rattle.rx_run.specs.declared.refusal.Reading.TheVariants.{Refused}
use Rattle.rx_run.specs.declared.refusal.Refusal.{Refusal}
use Rattle.rec_run.specs.GivenTerms.{IsRefusal}
use Rattle.rec_run.specs.Reading.{IsSpecRead, refused_spec}
use Rattle.rec_run.proofs.OneDueLemmas.{one_verdict}

-- a text that is refused spells no good specification
pub never_good : (bytes : List ℕ) (r : Refusal) (y : Spec) → IsSpecRead bytes (Refused r) → SpecVerdict bytes (Good y) → ⊥
never_good bytes r y (v, h, is) k = refuses (one_verdict bytes v (Good y) h k) is
  where
    refuses : {v : verdict.Verdict} → v ≡ Good y → refused_spec v ≡ Some r → ⊥
    refuses e is = cc (e, is)

-- a text that was read as a good one is one
pub read_good : (bytes : List ℕ) (checked : Sourced) → IsSpecRead bytes (reading.Good checked) → SpecVerdict bytes (Good checked.spec)
read_good bytes checked (v, h, is) = subst (SpecVerdict bytes) is h

-- and a good one is not refused
pub never_refused : (bytes : List ℕ) (y : Spec) (v : verdict.Verdict) → SpecVerdict bytes (Good y) → SpecVerdict bytes v → IsRefusal v → ⊥
never_refused bytes y v h k refused = subst IsRefusal (one_verdict bytes v (Good y) k h) refused

-- a good text spells one specification
pub one_good : (bytes : List ℕ) (y z : Spec) → SpecVerdict bytes (Good y) → SpecVerdict bytes (Good z) → y ≡ z
one_good bytes y z h k = let e = one_verdict bytes (Good y) (Good z) h k in cc e
