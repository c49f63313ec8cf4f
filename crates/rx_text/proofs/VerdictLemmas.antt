-- Each text has one verdict.
use Rattle.std.proofs.Common.{◌≡◌, ℕ, ◌<◌, ◌≤◌, List, length, refl, ap, inl, inr, arith}
use Rattle.std.proofs.lemmas.Bool.{cases_lt}
use Rattle.rx_term.specs.Tree.{Tree}
use Rattle.rx_text.specs.Grammar.{Spells}
use Rattle.rx_text.specs.Place.{IsFaultPlace}
use Rattle.rx_text.specs.Verdict.{Verdict, TooLong, Outside, Spelt, longest, IsVerdict}
use Rattle.rx_text.specs.Law.{OneVerdict}
use Rattle.rx_text.proofs.UniqueLemmas.{one_tree}
use Rattle.rx_text.proofs.PlaceLemmas.{one_place}
use Rattle.rx_text.proofs.FaultLemmas.{tree_or_place, not_both}

too_long : (bytes : List ℕ) → longest < length bytes → (w : Verdict) → IsVerdict bytes w → w ≡ TooLong
too_long bytes h TooLong k = refl
too_long bytes h (Outside at) k = absurd (omega (arith, h, k.0))
too_long bytes h (Spelt t) k = absurd (omega (arith, h, k.0))

outside : (bytes : List ℕ) (at : ℕ) → length bytes ≤ longest → IsFaultPlace bytes at → (w : Verdict) → IsVerdict bytes w → w ≡ Outside at
outside bytes at h p TooLong k = absurd (omega (arith, h, k))
outside bytes at h p (Outside x) k = ap Outside (one_place bytes x at k.1 p)
outside bytes at h p (Spelt t) k = absurd (not_both bytes t at k.1 p)

spelt : (bytes : List ℕ) (t : Tree) → length bytes ≤ longest → Spells bytes t → (w : Verdict) → IsVerdict bytes w → w ≡ Spelt t
spelt bytes t h s TooLong k = absurd (omega (arith, h, k))
spelt bytes t h s (Outside x) k = absurd (not_both bytes t x s k.1)
spelt bytes t h s (Spelt u) k = ap Spelt (one_tree bytes u t k.1 s)

pub one_verdict : OneVerdict
one_verdict bytes =
    elim (cases_lt longest (length bytes)) [
      | inl h ↦ (TooLong, h, too_long bytes h)
      | inr h ↦ elim (tree_or_place bytes) [
        | inl s ↦ (Spelt s.0, (h, s.1), spelt bytes s.0 h s.1)
        | inr p ↦ (Outside p.0, (h, p.1), outside bytes p.0 h p.1)
      ]
    ]
