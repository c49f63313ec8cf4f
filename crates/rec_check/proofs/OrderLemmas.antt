-- Findings in the order of their places.
use Rattle.std.proofs.Common.{refl, ap, arith}
use Rattle.std.proofs.lemmas.List.{length-map}
use Rattle.std.specs.Prelude.{ℕ, suc, zero, ◌≡◌, ◌<◌, List, [], ◌∷◌, length, map, get_or, IsPermutation}
use Rattle.std.specs.List.Sorted.{IsNonDecreasingBy}
use Rattle.rec_sorts.specs.SpecRules.{Fault}
use Rattle.rec_check.specs.Errors.{rank}
use Rattle.rec_check.specs.Findings.{AreInOrder, HasSame, as_diagnostic, as_diagnostics}
use Rattle.rec_check.specs.declared.finding.Diagnostic.{Diagnostic}
use Rattle.rec_check.proofs.CountLemmas.{same-map, same-permutation}

get_or-map : {X Y : Type 0} (f : X → Y) (xs : List X) (i : ℕ) (d : Y) (e : X) → i < length xs → get_or (map f xs) i d ≡ f (get_or xs i e)
get_or-map f [] i d e h = absurd (omega (arith, h))
get_or-map f (x ∷ xs) zero d e h = refl
get_or-map f (x ∷ xs) (suc i) d e h = get_or-map f xs i d e (omega (arith, h))

-- an order by what is seen of the items
increasing_map : {X Y : Type 0} (n : Y → ℕ) (f : X → Y) (xs : List X) → IsNonDecreasingBy (λ x. n (f x)) xs → IsNonDecreasingBy n (map f xs)
increasing_map n f [] h i j d ij past = absurd (omega (arith, past))
increasing_map n f (x ∷ xs) h i j d ij past =
    let long : length (map f (x ∷ xs)) ≡ length (x ∷ xs) = length-map (x ∷ xs) f in
    let jn : j < length (x ∷ xs) = omega (arith, long, past) in
    let below : i < length (x ∷ xs) = omega (arith, ij, jn) in
    let first = ap n (get_or-map f (x ∷ xs) i d x below) in
    let second = ap n (get_or-map f (x ∷ xs) j d x jn) in
    omega (arith, first, second, h i j x ij jn)

pub sorted_findings : (old new : List Diagnostic) → IsPermutation old new → IsNonDecreasingBy (λ f. f.at) new → AreInOrder (as_diagnostics old) (as_diagnostics new)
sorted_findings old new moved ordered = record {
  same = same-map as_diagnostic old new (same-permutation old new moved);
  ordered = increasing_map (λ f. f.at) as_diagnostic new ordered;
}

pub same_findings : (old new : List Diagnostic) → IsPermutation old new → HasSame (as_diagnostics old) (as_diagnostics new)
same_findings old new moved = same-map as_diagnostic old new (same-permutation old new moved)

pub ranked_findings : (f : Fault) (fs : List Diagnostic) → IsNonDecreasingBy (λ e. rank f (as_diagnostic e)) fs → IsNonDecreasingBy (rank f) (as_diagnostics fs)
ranked_findings f fs ordered = increasing_map (rank f) as_diagnostic fs ordered
