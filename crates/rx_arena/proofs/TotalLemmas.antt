-- How long all chains together are, and which slots they have to hold.
use Rattle.std.proofs.Common.{◌≡◌, ℕ, zero, suc, ◌+◌, ◌-◌, ◌<◌, ◌≤◌, ◌⊎◌, inl, inr, List, [], ◌∷◌, length, get_or, set, refl, sym, ap, subst, ◌∙◌, arith}
use Rattle.std.specs.Prelude.{None, ◌^◌, replicate, take}
use Rattle.std.proofs.lemmas.Bool.Decides.{eqb_tells}
use Rattle.std.proofs.lemmas.List.{length-replicate, get_or-replicate}
use Rattle.rx_arena.specs.Put.{one_if, times, times_in, total}
use Rattle.rx_arena.specs.Arena.{ArenaState, taken_at, IsArena}
use Rattle.rx_arena.proofs.PutLemmas.{one_or_two, one_if-same, one_if-other}

pub total-set : (css : List (List ℕ)) (i : ℕ) (d : List ℕ) → i < length css → total (set css i d) + length (get_or css i []) ≡ total css + length d
total-set [] i d lt = absurd (omega arith)
total-set (c ∷ cs) zero d lt = omega arith
total-set (c ∷ cs) (suc i) d lt = omega (arith, total-set cs i d (omega arith))

pub total-replicate : (n : ℕ) → total (replicate n []) ≡ 0
total-replicate zero = refl
total-replicate (suc n) = omega (arith, total-replicate n)

total_nil : (css : List (List ℕ)) → ((c : ℕ) → get_or css c [] ≡ []) → total css ≡ 0
total_nil [] none = refl
total_nil (c ∷ cs) none = let here : length c ≡ 0 = ap length (none 0) in let rest = total_nil cs (λ k. none (suc k)) in omega (arith, here, rest)

-- the chains from the n-th on are empty
pub total-take : (n : ℕ) (css : List (List ℕ)) → ((c : ℕ) → n ≤ c → get_or css c [] ≡ []) → total (take n css) ≡ total css
total-take zero css none = sym (total_nil css (λ c. none c (omega arith)))
total-take (suc n) [] none = refl
total-take (suc n) (c ∷ cs) none = let rest = total-take n cs (λ k le. none (suc k) (omega (arith, le))) in omega (arith, rest)

-- the one chain goes after n empty ones
pub total-behind : (m n : ℕ) (css : List (List ℕ)) → length css ≡ 1 → m ≡ total css → m ≡ total (set (replicate (n + 1) []) n (get_or css 0 []))
total-behind m n [] one e = absurd (omega (arith, one))
total-behind m n (c ∷ []) one e =
    let none : List ℕ = [] in
    let more = total-set (replicate (n + 1) []) n c (omega (arith, length-replicate (n + 1) none)) in
    let empty : length (get_or (replicate (n + 1) none) n none) ≡ 0 = ap length (get_or-replicate (n + 1) n none none (omega arith)) in
    omega (arith, more, empty, total-replicate (n + 1), e)
total-behind m n (c ∷ d ∷ css) one e = absurd (omega (arith, one))

pub total-pushed : (m : ℕ) (css : List (List ℕ)) (i s : ℕ) → i < length css → m ≡ total css → m + 1 ≡ total (set css i (s ∷ get_or css i []))
total-pushed m css i s lt e = let more = total-set css i (s ∷ get_or css i []) lt in omega (arith, more, e)

pub total-popped : (m : ℕ) (css : List (List ℕ)) (i s : ℕ) (rest : List ℕ) → i < length css → get_or css i [] ≡ s ∷ rest → m ≡ total css
    → (0 < m) × (m - 1 ≡ total (set css i rest))
total-popped m css i s rest lt split e =
    let more = total-set css i rest lt in
    let long : length (get_or css i []) ≡ 1 + length rest = ap length split ∙ (omega arith) in
    (omega (arith, more, e, long), omega (arith, more, e, long))

-- the sum of f below n
abbrev sum_to : (ℕ → ℕ) → ℕ → ℕ
sum_to f zero = 0
sum_to f (suc n) = sum_to f n + f n

sum_plus : (f g : ℕ → ℕ) (n : ℕ) → sum_to (λ s. f s + g s) n ≡ sum_to f n + sum_to g n
sum_plus f g zero = refl
sum_plus f g (suc n) = omega (arith, sum_plus f g n)

sum_zero : (n : ℕ) → sum_to (λ s. 0) n ≡ 0
sum_zero zero = refl
sum_zero (suc n) = omega (arith, sum_zero n)

sum_past : (t n : ℕ) → n ≤ t → sum_to (λ s. one_if t s) n ≡ 0
sum_past t zero le = refl
sum_past t (suc n) le = let here = one_if-other t n (λ e. absurd (omega (arith, e, le))) in let rest = sum_past t n (omega (arith, le)) in
    omega (arith, here, rest)

sum_one : (t n : ℕ) → t < n → sum_to (λ s. one_if t s) n ≡ 1
sum_one t zero lt = absurd (omega arith)
sum_one t (suc n) lt = elim (one_or_two t n) [
  | inl h ↦ (let rest = sum_past t n (omega (arith, h.1)) in omega (arith, h.0, rest))
  | inr h ↦ (let ne = h.1 in let rest = sum_one t n (omega (arith, lt, ne)) in omega (arith, h.0, rest))
]

length_sum : (c : List ℕ) (n : ℕ) → ((s : ℕ) → 0 < times s c → s < n) → length c ≡ sum_to (λ s. times s c) n
length_sum [] n below = sym (sum_zero n)
length_sum (t ∷ ts) n below =
    let here = sum_one t n (below t (omega (arith, one_if-same t))) in
    let rest = length_sum ts n (λ s lt. below s (omega (arith, lt))) in
    let both = sum_plus (λ s. one_if t s) (λ s. times s ts) n in
    omega (arith, here, rest, both)

total_sum : (css : List (List ℕ)) (n : ℕ) → ((s : ℕ) → 0 < times_in s css → s < n) → total css ≡ sum_to (λ s. times_in s css) n
total_sum [] n below = sym (sum_zero n)
total_sum (c ∷ cs) n below =
    let here = length_sum c n (λ s lt. below s (omega (arith, lt))) in
    let rest = total_sum cs n (λ s lt. below s (omega (arith, lt))) in
    let both = sum_plus (λ s. times s c) (λ s. times_in s cs) n in
    omega (arith, here, rest, both)

sum_few : (f : ℕ → ℕ) (n : ℕ) → ((s : ℕ) → f s ≤ 1) → sum_to f n ≤ n
sum_few f zero one = omega arith
sum_few f (suc n) one = omega (arith, sum_few f n one, one n)

sum_full : (f : ℕ → ℕ) (n : ℕ) → ((s : ℕ) → f s ≤ 1) → sum_to f n ≡ n → (s : ℕ) → s < n → f s ≡ 1
sum_full f zero one full s lt = absurd (omega arith)
sum_full f (suc n) one full s lt =
    let few = sum_few f n one in let last = one n in
    elim (eqb_tells s n) [
      | inl h ↦ subst (λ z. f z ≡ 1) (sym h.1) (omega (arith, few, last, full))
      | inr h ↦ (let ne = h.1 in sum_full f n one (omega (arith, few, last, full)) s (omega (arith, lt, ne)))
    ]

module _ (css : List (List ℕ)) (n : ℕ) (alone : (s : ℕ) → times_in s css ≤ 1) (below : (s : ℕ) → 0 < times_in s css → s < n) where
  -- slots that are in one place each are no more than the numbers below n
  pub total_few : total css ≤ n
  total_few = omega (arith, total_sum css n below, sum_few (λ s. times_in s css) n alone)

  -- and if they are as many, each is in a chain
  pub total_full : total css ≡ n → (s : ℕ) → s < n → times_in s css ≡ 1
  total_full e = sum_full (λ s. times_in s css) n alone (sym (total_sum css n below) ∙ e)

pub less_or_not : (t n : ℕ) → (t < n) ⊎ (n ≤ t)
less_or_not t zero = inr (omega arith)
less_or_not zero (suc n) = inl (omega arith)
less_or_not (suc t) (suc n) = elim (less_or_not t n) [ inl l ↦ inl (omega (arith, l)) | inr le ↦ inr (omega (arith, le)) ]

-- an arena's chains hold no more slots than may be taken
pub total_small : (a : ArenaState) → IsArena a → total a.chains ≤ 2 ^ 30
total_small a law = let few = total_few a.chains a.cap law.alone (λ s lt. law.below s (law.chained_taken s lt)) in omega (arith, few, law.small_cap)

-- where the chains hold as many slots as there are below n, each of these is in one
pub all_inside : (a : ArenaState) → IsArena a → (n : ℕ) → ((s : ℕ) → n ≤ s → taken_at a s ≡ None) → total a.chains ≡ n → (s : ℕ) → s < n
    → times_in s a.chains ≡ 1
all_inside a law n past e s lt = total_full a.chains n law.alone (λ t here. below t here) e s lt where
  below : (t : ℕ) → 0 < times_in t a.chains → t < n
  below t here = elim (less_or_not t n) [
    | inl l ↦ l
    | inr le ↦ absurd (let some = (law.chained_taken t here).1 in let none = past t le in cc)
  ]
