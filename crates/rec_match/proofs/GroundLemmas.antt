-- What trees stand on holds of a specification that is kept.
use Rattle.std.specs.Prelude.{ℕ, ◌≡◌, List, None}
use Rattle.rec_syntax.specs.Syntax.{Spec}
use Rattle.rec_sorts.specs.SpecRules.{fault}
use Rattle.rec_match.specs.Inner.Tasks.{AreApart, IsGround}
use Rattle.rec_match.specs.Parts.{IsWhole}
use Rattle.rec_match.specs.declared.parts.Parts.{Parts}
use Rattle.rec_match.proofs.FactLemmas.{facts}

pub is_ground : (y : Spec) → fault y ≡ None → (ns : List ℕ) (ps : Parts) → AreApart y ns → IsWhole ps → IsGround y ns ps
is_ground y kept ns ps apart whole = record {
  symbols_differ = λ i j a b e. (facts y kept).symbols_differ i j a b e;
  variables_differ = λ i j a b e. (facts y kept).variables_differ i j a b e;
  numbers_differ = apart;
  whole = whole;
}
