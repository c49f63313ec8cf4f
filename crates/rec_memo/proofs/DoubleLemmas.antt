-- Twice as many sets that answer the same.
use Rattle.std.proofs.Common.{List, [], ◌∷◌, ◌++◌, length, get_or, replicate, ℕ, suc, zero, ◌≡◌, ◌≢◌, ◌<◌, ◌+◌, ◌*◌, ◌/◌}
use Rattle.std.proofs.Common.{Bool, true, false, Option, Some, None, refl, sym, ap, ◌∙◌, arith, eqb, inl, inr, eq-eqb}
use Rattle.std.specs.Prelude.{◌&&◌, not, slice_get, if◌then◌else◌}
use Rattle.std.proofs.lemmas.Bool.Decides.{eqb_tells, leb_tells}
use Rattle.std.proofs.lemmas.List.{length-append}
use Rattle.rec_memo.specs.Pairs.{Pair}
use Rattle.rec_memo.specs.Sets.{answer_of, answer_in, look_up, place_of, spread_of, pair_of, blank_entry, kept_by, belongs, turned, share_of}
use Rattle.rec_memo.specs.declared.sets.Entry.{Entry}
use Rattle.rec_memo.specs.declared.sets.Set.{Set}
use Rattle.rec_memo.proofs.SetsLemmas.{entry-answers, always, hidden, push-old, push-new, look_up-beyond, look_up-within}

-- the set of a key among twice as many is one of two
pub place-halves : (count k : ℕ) → place_of (2 * count) k / 2 ≡ place_of count k
unfolding place_of
place-halves count k =
    let twice : spread_of k * (2 * count) ≡ 2 * (spread_of k * count) = grind (arith) in
    omega (arith, twice)

-- if each entry of a key passes, the key is answered as before
kept-all : (keep : Entry → Bool) (s : Set) (blank : Entry) (k : ℕ) → eqb k blank.key.0 ≡ false → ((e : Entry) → k ≡ e.key.0 → keep e ≡ true)
    → answer_of (kept_by keep blank s) k ≡ answer_of s k
kept-all keep s blank k h all =
    entry-answers (keep s.first) s.first blank k _ h
    ∙ ap (λ x. if keep s.first then (if eqb k s.first.key.0 then Some (pair_of s.first) else x) else x)
    (entry-answers (not (eqb s.second.key.0 s.first.key.0) && keep s.second) s.second blank k None h)
    ∙ elim (eqb_tells k s.first.key.0) [
      | inl p ↦ at_first p.1 p.0
      | inr p ↦ past_first p.1 p.0
    ] where
      behind : Bool → Bool → Option Pair
      behind hides here = if not hides && keep s.second then (if here then Some (pair_of s.second) else None) else None

      second : Option Pair
      second = behind (eqb s.second.key.0 s.first.key.0) (eqb k s.second.key.0)

      kept : Bool → Option Pair → Option Pair
      kept here x = if keep s.first then (if here then Some (pair_of s.first) else x) else x

      answer : Bool → Option Pair
      answer here = if here then Some (pair_of s.first) else if eqb k s.second.key.0 then Some (pair_of s.second) else None

      seen_second : k ≢ s.first.key.0 → second ≡ answer false
      seen_second n = elim (eqb_tells k s.second.key.0) [
        | inl q ↦ elim (eqb_tells s.second.key.0 s.first.key.0) [
          | inl r ↦ absurd (n (q.1 ∙ r.1))
          | inr r ↦ ap (λ b. behind b (eqb k s.second.key.0)) r.0
              ∙ ap (λ b. if b then (if eqb k s.second.key.0 then Some (pair_of s.second) else None) else None) (all s.second q.1)
        ]
        | inr q ↦ ap (behind (eqb s.second.key.0 s.first.key.0)) q.0 ∙ always _ None ∙ sym (ap (λ b. if b then Some (pair_of s.second) else None) q.0)
      ]

      at_first : k ≡ s.first.key.0 → eqb k s.first.key.0 ≡ true → kept (eqb k s.first.key.0) second ≡ answer (eqb k s.first.key.0)
      at_first e t = ap (λ b. kept b second) t ∙ ap (λ b. if b then Some (pair_of s.first) else second) (all s.first e) ∙ sym (ap answer t)

      past_first : k ≢ s.first.key.0 → eqb k s.first.key.0 ≡ false → kept (eqb k s.first.key.0) second ≡ answer (eqb k s.first.key.0)
      past_first n f = ap (λ b. kept b second) f ∙ always _ second ∙ seen_second n ∙ sym (ap answer f)

-- so it is where the other entry is first
turned-answers : (keep : Entry → Bool) (s : Set) (k : ℕ) → ((e : Entry) → k ≡ e.key.0 → keep e ≡ true) → answer_of (turned keep s) k ≡ answer_of s k
turned-answers keep s k all = by (keep s.first) refl where
  other : Set
  other = record { first = s.second; second = s.first }

  apart : keep s.first ≡ false → eqb k s.first.key.0 ≡ false
  apart f = elim (eqb_tells k s.first.key.0) [
    | inl p ↦ (let e : true ≡ false = sym (all s.first p.1) ∙ f in cc)
    | inr p ↦ p.0
  ]

  by : (b : Bool) → keep s.first ≡ b → answer_of (turned keep s) k ≡ answer_of s k
  by true e = ap (λ b. answer_of (if b then s else other) k) e
  by false e = ap (λ b. answer_of (if b then s else other) k) e
      ∙ ap (λ b. if eqb k s.second.key.0 then Some (pair_of s.second) else if b then Some (pair_of s.first) else None) (apart e)
      ∙ sym (ap (λ b. if b then Some (pair_of s.first) else if eqb k s.second.key.0 then Some (pair_of s.second) else None) (apart e))

-- the share of a set answers the keys that belong there as the set
share-answers : (count place k : ℕ) (s : Set) → 1 < count → place_of count k ≡ place → answer_of (share_of count place s) k ≡ answer_of s k
share-answers count place k s many e =
    kept-all (belongs count place) (turned (belongs count place) s) (blank_entry place) k (hidden count place k many e) all
    ∙ turned-answers (belongs count place) s k all
  where
    all : (x : Entry) → k ≡ x.key.0 → belongs count place x ≡ true
    all x q = eq-eqb (place_of count x.key.0) place (ap (place_of count) (sym q) ∙ e)

at-push : (xs : List Set) (s : Set) (count k : ℕ) → place_of count k ≡ length xs → look_up (xs ++ s ∷ []) count k ≡ answer_of s k
at-push xs s count k e = ap (λ j. answer_in (slice_get (xs ++ s ∷ []) j) k) e ∙ ap (λ o. answer_in o k) (push-new xs s)

before-push : (xs : List Set) (s : Set) (count k : ℕ) → place_of count k < length xs → look_up (xs ++ s ∷ []) count k ≡ look_up xs count k
before-push xs s count k lt = ap (λ o. answer_in o k) (push-old xs (place_of count k) s lt)

-- one turn: the two shares of the set of a number come after those of the sets before it
pub double-turn : (old sets : List Set) (was p k : ℕ) (d : Set) → 1 < 2 * was → p < length old → length sets ≡ 2 * p
    → (place_of (2 * was) k < 2 * p → look_up sets (2 * was) k ≡ look_up old was k) → place_of (2 * was) k < 2 * (p + 1)
    → look_up ((sets ++ share_of (2 * was) (2 * p) (get_or old p d) ∷ []) ++ share_of (2 * was) (2 * p + 1) (get_or old p d) ∷ []) (2 * was) k
    ≡ look_up old was k
double-turn old sets was p k d many lt len before within =
    elim (eqb_tells (place_of (2 * was) k) (2 * p)) [
      | inl e ↦ before-push (sets ++ one ∷ []) other (2 * was) k (omega (arith, longer, e.1, len))
          ∙ at-push sets one (2 * was) k (e.1 ∙ sym len) ∙ share-answers (2 * was) (2 * p) k set many e.1
          ∙ here (omega (arith, halves, e.1))
      | inr n ↦ elim (eqb_tells (place_of (2 * was) k) (2 * p + 1)) [
        | inl e ↦ at-push (sets ++ one ∷ []) other (2 * was) k (omega (arith, longer, e.1, len)) ∙ share-answers (2 * was) (2 * p + 1) k set many e.1
            ∙ here (omega (arith, halves, e.1))
        | inr m ↦ before-push (sets ++ one ∷ []) other (2 * was) k (omega (arith, longer, n.1, m.1, len, within))
            ∙ before-push sets one (2 * was) k (omega (arith, n.1, m.1, len, within)) ∙ before (omega (arith, n.1, m.1, within))
      ]
    ] where
      set : Set
      set = get_or old p d

      one : Set
      one = share_of (2 * was) (2 * p) set

      other : Set
      other = share_of (2 * was) (2 * p + 1) set

      longer : length (sets ++ one ∷ []) ≡ length sets + 1
      longer = length-append sets (one ∷ [])

      halves : place_of (2 * was) k / 2 ≡ place_of was k
      halves = place-halves was k

      here : place_of was k ≡ p → answer_of set k ≡ look_up old was k
      here e = sym (look_up-within old was k p d e lt)

-- past the last turn
pub all-doubled : (old sets : List Set) (was k : ℕ) → length sets ≡ 2 * length old
    → (place_of (2 * was) k < 2 * length old → look_up sets (2 * was) k ≡ look_up old was k) → look_up sets (2 * was) k ≡ look_up old was k
all-doubled old sets was k len same = elim (leb_tells (2 * length old) (place_of (2 * was) k)) [
  | inr lt ↦ same lt.1
  | inl le ↦ look_up-beyond sets (2 * was) k (omega (arith, le.1, len))
      ∙ sym (look_up-beyond old was k (let halves = place-halves was k in omega (arith, halves, le.1)))
]

-- no flag of flags that are all up is down
pub none-down : (n i : ℕ) → slice_get (replicate n true) i ≡ Some false → ⊥
none-down zero i e = cc
none-down (suc n) zero e = cc
none-down (suc n) (suc i) e = none-down n i e
