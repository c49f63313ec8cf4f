-- Reading a quoted name item by item.
use Rattle.std.proofs.Common.{◌≡◌, ℕ, ◌+◌, ◌-◌, ◌≤◌, suc, List, [], ◌∷◌, ◌++◌, refl, sym, ap, ◌∙◌}
use Rattle.std.proofs.Common.{append_assoc, length, take, drop, arith, length-drop, length-take}
use Rattle.std.specs.Prelude.{Option, Some, None, option_map}
use Rattle.std.proofs.lemmas.List.{take-append-drop, take_all}
use Rattle.rx_text.specs.Token.{quoted, item}
use Rattle.rx_text.proofs.CuttingLemmas.{quoted_pass, eqb_no}

-- the name so far, and what is read of the rest, give what is read of all
pub record IsReading (bytes rest name : List ℕ) : Type 0 where
  pub within : length rest ≤ length bytes
  pub so_far : quoted 0 bytes ≡ option_map (λ q. (name ++ q.0, (length bytes - length rest) + q.1)) (quoted 0 rest)

-- by what is left of an item
quoted_drop : (n : ℕ) (bs : List ℕ) → n ≤ length bs → quoted n bs ≡ option_map (λ q. (q.0, n + q.1)) (quoted 0 (drop n bs))
quoted_drop n bs h =
    let e : length (take n bs) ≡ n = length-take n bs ∙ omega arith in
    let k : quoted (length (take n bs)) (take n bs ++ drop n bs) ≡ option_map (λ q. (q.0, length (take n bs) + q.1)) (quoted 0 (drop n bs)) =
    quoted_pass (take n bs) (drop n bs) in
    rw (e, take-append-drop) at k

-- one more item, and what is read after it
one_item : (name : List ℕ) (byte used more total : ℕ) → used + (1 + more) ≡ total → (o : Option (List ℕ × ℕ))
    → option_map {T = List ℕ × ℕ} {U = List ℕ × ℕ} (λ q. (name ++ q.0, used + q.1))
    (option_map {T = List ℕ × ℕ} {U = List ℕ × ℕ} (λ q. (byte ∷ q.0, 1 + q.1)) (option_map {T = List ℕ × ℕ} {U = List ℕ × ℕ} (λ q. (q.0, more + q.1)) o))
    ≡ option_map (λ q. ((name ++ byte ∷ []) ++ q.0, total + q.1)) o
one_item name byte used more total e None = refl
one_item name byte used more total e (Some q) =
    let n : used + (1 + (more + q.1)) ≡ total + q.1 = omega (arith, e) in
    λ i. Some (sym (append_assoc name (byte ∷ []) q.0) i, n i)

-- what the item at the front gives
front_item : (first byte more : ℕ) (after : List ℕ) → (first ≡ 34 → ⊥) → Some (byte, more) ≡ item first after → more ≤ length after
    → quoted 0 (first ∷ after) ≡ option_map {T = List ℕ × ℕ} {U = List ℕ × ℕ} (λ q. (byte ∷ q.0, 1 + q.1))
    (option_map {T = List ℕ × ℕ} {U = List ℕ × ℕ} (λ q. (q.0, more + q.1)) (quoted 0 (drop more after)))
front_item first byte more after n i m = rw (eqb_no first 34 n, ← i, quoted_drop more after m) refl

pub reading_on : (bytes rest name after : List ℕ) (first byte more : ℕ) → IsReading bytes rest name → rest ≡ first ∷ after → (first ≡ 34 → ⊥)
    → Some (byte, more) ≡ item first after → more ≤ length after
    → IsReading bytes (take (length after - more) (drop more after)) (name ++ byte ∷ [])
reading_on bytes rest name after first byte more r e n i m =
    let left : length (drop more after) ≡ length after - more = length-drop more after in
    let long : length rest ≡ suc (length after) = ap length e in
    let all : take (length after - more) (drop more after) ≡ drop more after = take_all (length after - more) (drop more after) (omega (arith, left)) in
    let size : (length bytes - length rest) + (1 + more) ≡ length bytes - length (drop more after) = omega (arith, left, long, r.within) in
    rw all (record {
      within = omega (arith, left, long, r.within);
      so_far = r.so_far ∙ ap (λ x. option_map (λ q. (name ++ q.0, (length bytes - length rest) + q.1)) x)
          (ap (λ xs. quoted 0 xs) e ∙ front_item first byte more after n i m)
          ∙ one_item name byte (length bytes - length rest) more (length bytes - length (drop more after)) size (quoted 0 (drop more after));
    })
