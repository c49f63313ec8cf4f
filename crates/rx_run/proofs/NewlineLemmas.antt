-- How many line ends a text has, by its parts.
use Rattle.std.proofs.Common.{◌≡◌, ℕ, ◌+◌, cond, List, ◌++◌, arith, nat_eq}
use Rattle.std.proofs.lemmas.List.Sums.{sum_by-append}
use Rattle.rx_run.specs.Bytes.{newlines}

pub newlines-append : (xs ys : List ℕ) → newlines (xs ++ ys) ≡ newlines xs + newlines ys
newlines-append xs ys = sum_by-append (λ b. cond (nat_eq b 10) 1 0) xs ys

-- two texts without line ends
pub no_ends : (xs ys : List ℕ) → newlines xs ≡ 0 → newlines ys ≡ 0 → newlines (xs ++ ys) ≡ 0
no_ends xs ys h k = let e = newlines-append xs ys in omega (arith, e, h, k)
