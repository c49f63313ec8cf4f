-- The patterns of a handle, by their numbers.
use Rattle.std.proofs.Common.{◌≡◌, ◌≢◌, ℕ, zero, suc, ◌<◌, ◌≤◌, List, [], ◌∷◌, ◌++◌, length, set, get_or, Option, Some, None, refl, ap, arith}
use Rattle.rx_term.specs.Tree.{Tree}
use Rattle.psilt_core.specs.Patterns.{pattern_at}

-- where a place is written, and elsewhere
pub set_here : (ps : List (Option Tree)) (n : ℕ) (p : Option Tree) → n < length ps → pattern_at (set ps n p) n ≡ p
set_here [] n p lt = absurd (omega (arith, lt))
set_here (q ∷ ps) zero None lt = refl
set_here (q ∷ ps) zero (Some p) lt = refl
set_here (q ∷ ps) (suc n) p lt = set_here ps n p (omega (arith, lt))

pub set_others : (ps : List (Option Tree)) (n : ℕ) (p : Option Tree) (k : ℕ) → k ≢ n → pattern_at (set ps n p) k ≡ pattern_at ps k
set_others [] n p k ne = refl
set_others (q ∷ ps) zero p zero ne = absurd (ne refl)
set_others (q ∷ ps) zero p (suc k) ne = refl
set_others (q ∷ ps) (suc n) p zero ne = refl
set_others (q ∷ ps) (suc n) p (suc k) ne = set_others ps n p k (λ e. ne (ap suc e))

-- where one is added behind, and elsewhere
pub push_here : (ps : List (Option Tree)) (p : Option Tree) → pattern_at (ps ++ p ∷ []) (length ps) ≡ p
push_here [] None = refl
push_here [] (Some p) = refl
push_here (q ∷ ps) p = push_here ps p

pub push_others : (ps : List (Option Tree)) (p : Option Tree) (k : ℕ) → k ≢ length ps → pattern_at (ps ++ p ∷ []) k ≡ pattern_at ps k
push_others [] p zero ne = absurd (ne refl)
push_others [] p (suc k) ne = refl
push_others (q ∷ ps) p zero ne = refl
push_others (q ∷ ps) p (suc k) ne = push_others ps p k (λ e. ne (ap suc e))

-- what stands at a place, and behind all
pub none_behind : (ps : List (Option Tree)) (n : ℕ) → length ps ≤ n → pattern_at ps n ≡ None
none_behind [] n le = refl
none_behind (q ∷ ps) zero le = absurd (omega (arith, le))
none_behind (q ∷ ps) (suc n) le = none_behind ps n (omega (arith, le))

pub read_at : (ps : List (Option Tree)) (n : ℕ) (d : Option Tree) → n < length ps → pattern_at ps n ≡ get_or ps n d
read_at [] n d lt = absurd (omega (arith, lt))
read_at (None ∷ ps) zero d lt = refl
read_at (Some q ∷ ps) zero d lt = refl
read_at (q ∷ ps) (suc n) d lt = read_at ps n d (omega (arith, lt))
