-- A list that a bank holds has fewer items than the bank has cells, since each of its tails has a cell.
use Rattle.std.proofs.Common.{ℕ, zero, suc, ◌+◌, ◌-◌, ◌≡◌, ◌≢◌, ◌<◌, Some, None, refl, sym, ap, ◌∙◌, subst, arith}
use Rattle.std.proofs.lemmas.Bool.Decides.{nat_tests}
use Rattle.std.specs.Ordering.{nat_cmp}
use Rattle.std.specs.Cmp.{nat_cmp_total}
use Rattle.std.specs.FinMap as map
use Rattle.std.specs.FinMap.{gets}
use Rattle.rx_term.specs.Tree.{Tree, Trees, none, more, count_of, list_of}
use Rattle.rx_term.specs.Store.{Store, tree_at, cells}
use Rattle.rx_term.specs.Steps.{IsSound}
use Rattle.rx_term.specs.declared.Term.{Term}
use Rattle.rx_term.proofs.PartsLemmas.{rest-part}

-- the list is there
abbrev Has : map.FinMap nat_cmp Tree → Trees → Type 0
Has m ts = (k : ℕ) × (map.get m k ≡ Some (list_of ts))

-- so is each of its tails
abbrev HasTails : map.FinMap nat_cmp Tree → Trees → Type 0
HasTails m none = Has m none
HasTails m (more t ts) = Has m (more t ts) × HasTails m ts

not_removed : (m : map.FinMap nat_cmp Tree) (k q : ℕ) → q ≢ k → map.get (map.remove m k) q ≡ map.get m q
not_removed m k q n = grind (arith, gets, nat_tests)

some_len : (m : map.FinMap nat_cmp Tree) (k : ℕ) (u : Tree) → map.get m k ≡ Some u → 0 < map.len m
some_len m k u e = by_len (map.len m) refl where
  by_len : (n : ℕ) → map.len m ≡ n → 0 < map.len m
  by_len zero z =
      let empty : m ≡ map.empty = map.empty_of_len m z in
      let gone : map.get m k ≡ None = ap (λ (x : map.FinMap nat_cmp Tree). map.get x k) empty ∙ map.get-empty nat_cmp k in
      absurd (let y : ⊥ = cc in y)
  by_len (suc n) z = omega arith

removed-len : (m : map.FinMap nat_cmp Tree) (k : ℕ) (u : Tree) → map.get m k ≡ Some u → map.len m ≡ map.len (map.remove m k) + 1
removed-len m k u e =
    let le = some_len m k u e in
    let less : map.len (map.remove m k) ≡ map.len m - 1 = map.len-remove nat_cmp_total m k ∙ rw e refl in
    omega arith

other_place : (m : map.FinMap nat_cmp Tree) (k q : ℕ) (ts us : Trees) → map.get m k ≡ Some (list_of us) → map.get m q ≡ Some (list_of ts)
    → count_of ts < count_of us → q ≢ k
other_place m k q ts us e f lt same =
    let g : map.get m q ≡ Some (list_of us) = subst (λ (j : ℕ). map.get m j ≡ Some (list_of us)) (sym same) e in
    let h : ts ≡ us = cc in
    let n = ap count_of h in
    omega arith

still_has : (m : map.FinMap nat_cmp Tree) (k : ℕ) (ts us : Trees) → map.get m k ≡ Some (list_of us) → count_of ts < count_of us → Has m ts
    → Has (map.remove m k) ts
still_has m k ts us e lt h = (h.0, not_removed m k h.0 (other_place m k h.0 ts us e h.1 lt) ∙ h.1)

still_has_tails : (m : map.FinMap nat_cmp Tree) (k : ℕ) (ts us : Trees) → map.get m k ≡ Some (list_of us) → count_of ts < count_of us → HasTails m ts
    → HasTails (map.remove m k) ts
still_has_tails m k none us e lt h = still_has m k none us e lt h
still_has_tails m k (more t ts) us e lt h = (still_has m k (more t ts) us e lt h.0, still_has_tails m k ts us e (omega arith) h.1)

tails_fit : (m : map.FinMap nat_cmp Tree) (ts : Trees) → HasTails m ts → count_of ts < map.len m
tails_fit m none h = some_len m h.0 (list_of none) h.1
tails_fit m (more t ts) h =
    let k = h.0.0 in
    let e = removed-len m k (list_of (more t ts)) h.0.1 in
    let le = tails_fit (map.remove m k) ts (still_has_tails m k ts (more t ts) h.0.1 (omega arith) h.1) in
    omega arith

tails_held : (w : Store) → IsSound w → (ts : Trees) (r : Term) → tree_at w r ≡ Some (list_of ts) → HasTails w.content ts
tails_held w s none r e = (r.0, e)
tails_held w s (more t ts) r e =
    let q = s.closed r (list_of (more t ts)) (list_of ts) e (rest-part t ts none) in
    ((r.0, e), tails_held w s ts q.0 q.1)

-- fewer items than cells
pub count-cells : (w : Store) → IsSound w → (ts : Trees) (r : Term) → tree_at w r ≡ Some (list_of ts) → count_of ts < cells w
count-cells w s ts r e = tails_fit w.content ts (tails_held w s ts r e)
