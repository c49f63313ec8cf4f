-- The heads of chains are at different places.
use Rattle.std.proofs.Common.{◌≡◌, ℕ, set, ◌+◌, ◌-◌, ◌*◌, ◌%◌, ◌^◌, ◌<◌, ◌≤◌, Bool, true, false, List, Option, None, length}
use Rattle.std.proofs.Common.{inl, inr, refl, sym, ap, subst, ◌∙◌, arith, bit_and, w32}
use Rattle.std.specs.Prelude.{get_or, cond, replicate, take, zero, suc}
use Rattle.std.specs.Int.{trailing_zeros}
use Rattle.std.proofs.Math.Nat.{mod-eq_of_lt, mul_assoc}
use Rattle.std.proofs.Math.Pow.{mod-mod-pow}
use Rattle.std.proofs.lemmas.Nat.{and_mask, mul-mod_first, mul-mod_second, mod_below}
use Rattle.std.proofs.lemmas.Bool.{le-leb, lt-leb}
use Rattle.std.proofs.lemmas.Bool.Decides.{leb_tells, eqb_tells}
use Rattle.std.proofs.lemmas.List.{get_or-set_same, get_or-set_other, length-set, length-replicate, get_or-replicate}
use Rattle.std.proofs.lemmas.List.FromFn.{length-map-range_with_len, get_or-map-range_with_len, take-map-range_with_len, fill_by_all}
use Rattle.std.proofs.lemmas.Nat.Bits.{bit_at-trailing_zeros}
use Rattle.rx_arena.specs.Inner.Heads.{spread, IsMask, place, heads_in}

-- what undoes the multiplication modulo 2^32
abbrev back : Bool → ℕ
back false = 2744037565
back true = 174063717

undone_whole : (b : Bool) → spread b * back b % 2 ^ 32 ≡ 1
undone_whole false = refl
undone_whole true = refl

-- the product of both is 1, modulo a power up to there
undone : (b : Bool) (k : ℕ) → k ≤ 32 → spread b * back b % 2 ^ k ≡ 1 % 2 ^ k
undone b k le =
    let whole : (32 - k) + k ≡ 32 = omega (arith, le) in
    let at : spread b * back b % 2 ^ ((32 - k) + k) ≡ 1 = ap (λ n. spread b * back b % 2 ^ n) whole ∙ undone_whole b in
    sym (mod-mod-pow (spread b * back b) (32 - k) k) ∙ ap (λ n. n % 2 ^ k) at

-- a number below the power comes back
comes_back : (b : Bool) (k i : ℕ) → k ≤ 32 → i < 2 ^ k → i * spread b % 2 ^ k * back b % 2 ^ k ≡ i
comes_back b k i le lt =
    let grouped : i * spread b * back b ≡ i * (spread b * back b) = mul_assoc i (spread b) (back b) in
    mul-mod_first (i * spread b) (back b) (2 ^ k) ∙ ap (λ n. n % 2 ^ k) grouped ∙ sym (mul-mod_second i (spread b * back b) (2 ^ k))
    ∙ ap (λ n. i * n % 2 ^ k) (undone b k le) ∙ mul-mod_second i 1 (2 ^ k) ∙ ap (λ n. n % 2 ^ k) (omega arith) ∙ mod-eq_of_lt lt

-- so two numbers below the power have different products
pub one_product : (b : Bool) (k i j : ℕ) → k ≤ 32 → i < 2 ^ k → j < 2 ^ k → i * spread b % 2 ^ k ≡ j * spread b % 2 ^ k → i ≡ j
one_product b k i j le p q e = sym (comes_back b k i le p) ∙ ap (λ n. n * back b % 2 ^ k) e ∙ comes_back b k j le q

-- the product that is cut to 32 bits, and then by the mask
pub masked : (m f k c : ℕ) → m + 1 ≡ 2 ^ k → k ≤ 32 → bit_and (c * f % 4294967296) m ≡ c * f % (m + 1)
masked m f k c power le =
    let whole : (32 - k) + k ≡ 32 = omega (arith, le) in
    let below : m ≡ 2 ^ k - 1 = omega (arith, power) in
    ap (bit_and (c * f % 4294967296)) below ∙ and_mask (c * f % 4294967296) k
    ∙ ap (λ n. c * f % 2 ^ n % 2 ^ k) (sym whole) ∙ mod-mod-pow (c * f) (32 - k) k ∙ ap (λ n. c * f % n) (sym power)

-- the power is at most 2^32
pub few_bits : (m : ℕ) → IsMask m → trailing_zeros w32 (m + 1) ≤ 32
few_bits m (small, power) = let lt = (bit_at-trailing_zeros w32 (m + 1) (omega arith) (omega (arith, small))).0 in omega (arith, lt)

pub place_inside : (m f c : ℕ) → c ≤ m → place m f c ≡ c * f % (m + 1)
place_inside m f c le = ap (λ b. cond b (c * f % (m + 1)) c) (le-leb c m le)

pub place_behind : (m f c : ℕ) → m < c → place m f c ≡ c
place_behind m f c lt = ap (λ b. cond b (c * f % (m + 1)) c) (lt-leb c m lt)

-- a place is inside a table that is longer than the mask and has the chain's number
pub place_within : (m f c n : ℕ) → m < n → c < n → place m f c < n
place_within m f c n above lt = elim (leb_tells c m) [
  | inl q ↦ (let below = mod_below (c * f) (m + 1) (omega arith) in omega (arith, place_inside m f c q.1, below, above))
  | inr q ↦ omega (arith, place_behind m f c q.1, lt)
]

-- two places up to the mask that are one are of one chain
one_inside : (b : Bool) (m i j : ℕ) → IsMask m → i ≤ m → j ≤ m → place m (spread b) i ≡ place m (spread b) j → i ≡ j
one_inside b m i j mask p q e =
    let power = mask.1 in
    let f = spread b in
    let products : i * f % 2 ^ trailing_zeros w32 (m + 1) ≡ j * f % 2 ^ trailing_zeros w32 (m + 1) =
    ap (λ n. i * f % n) (sym power) ∙ sym (place_inside m f i p) ∙ e ∙ place_inside m f j q ∙ ap (λ n. j * f % n) power in
    one_product b (trailing_zeros w32 (m + 1)) i j (few_bits m mask) (omega (arith, power, p)) (omega (arith, power, q)) products

-- the places of two chains differ
pub one_place : (b : Bool) (m i j : ℕ) → IsMask m → place m (spread b) i ≡ place m (spread b) j → i ≡ j
one_place b m i j mask e =
    let f = spread b in
    elim (leb_tells i m) [
      | inl p ↦ elim (leb_tells j m) [
        | inl q ↦ one_inside b m i j mask p.1 q.1 e
        | inr q ↦ (let below = mod_below (i * f) (m + 1) (omega arith) in absurd (omega (arith, e, place_inside m f i p.1, place_behind m f j q.1, below, q.1)))
      ]
      | inr p ↦ elim (leb_tells j m) [
        | inl q ↦ (let below = mod_below (j * f) (m + 1) (omega arith) in absurd (omega (arith, e, place_inside m f j q.1, place_behind m f i p.1, below, p.1)))
        | inr q ↦ sym (place_behind m f i p.1) ∙ e ∙ place_behind m f j q.1
      ]
    ]

none_anywhere : (k i : ℕ) → get_or {A = Option ℕ} (replicate k None) i None ≡ None
none_anywhere zero i = refl
none_anywhere (suc k) zero = refl
none_anywhere (suc k) (suc i) = none_anywhere k i

module _ (m f n : ℕ) where
  pub heads_length : (xs : List (Option ℕ)) → length (heads_in m f n xs) ≡ n
  heads_length xs = length-map-range_with_len (λ c. get_or xs (place m f c) None) 0 n

  pub heads_get : (xs : List (Option ℕ)) (c : ℕ) → c < n → get_or (heads_in m f n xs) c None ≡ get_or xs (place m f c) None
  heads_get xs c lt = get_or-map-range_with_len (λ c. get_or xs (place m f c) None) 0 n c c None lt (omega arith)

  pub heads_empty : (k : ℕ) → heads_in m f n (replicate k None) ≡ replicate n None
  heads_empty k = sym (fill_by_all (λ c. get_or (replicate k None) (place m f c) None) (replicate n None) n None (length-replicate n None)
      (λ c lt. get_or-replicate n c None None lt ∙ sym (none_anywhere k (place m f c))))

  pub heads_take : (k : ℕ) (xs : List (Option ℕ)) → k ≤ n → take k (heads_in m f n xs) ≡ heads_in m f k xs
  heads_take k xs le = take-map-range_with_len (λ c. get_or xs (place m f c) None) 0 n k le

  pub heads_set : (b : Bool) → f ≡ spread b → (xs : List (Option ℕ)) (c : ℕ) (o : Option ℕ) → IsMask m → m < length xs → n ≤ length xs → c < n
      → heads_in m f n (set xs (place m f c) o) ≡ set (heads_in m f n xs) c o
  heads_set b same xs c o mask above le lt =
      let at = place_within m f c (length xs) above (omega (arith, lt, le)) in
      let ys = set xs (place m f c) o in
      sym (fill_by_all (λ k. get_or ys (place m f k) None) (set (heads_in m f n xs) c o) n None (length-set (heads_in m f n xs) c o ∙ heads_length xs)
      (λ k less. elim (eqb_tells k c) [
        | inl q ↦ ap (λ j. get_or (set (heads_in m f n xs) c o) j None) q.1
            ∙ get_or-set_same (heads_in m f n xs) c o None (omega (arith, lt, heads_length xs)) ∙ sym (get_or-set_same xs (place m f c) o None at)
            ∙ ap (λ j. get_or ys (place m f j) None) (sym q.1)
        | inr q ↦ get_or-set_other (heads_in m f n xs) c k o None q.1 ∙ heads_get xs k less
            ∙ sym (get_or-set_other xs (place m f c) (place m f k) o None (λ e. q.1 (one_place b m k c mask (subst (λ g. place m g k ≡ place m g c) same e))))
      ]))
