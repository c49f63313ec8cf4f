-- How often parts are used.
use Rattle.std.proofs.Common.{◌≡◌, ◌≢◌, ℕ, zero, suc, ◌+◌, ◌<◌, ◌≤◌, Bool, true, false, ◌&&◌, cond, List, [], ◌∷◌, ◌++◌}
use Rattle.std.proofs.Common.{refl, sym, ap, subst, ◌∙◌, length, count_by, map, set, take, get_or, arith}
use Rattle.std.specs.Prelude.{nat_eq, nat_le, nat_lt}
use Rattle.std.proofs.lemmas.Bool.Decides.{Decides-eqb}
use Rattle.std.proofs.lemmas.List.{get_or-set_other, get_or-set_same, length-set, length-take-le, take_more}
use Rattle.std.proofs.lemmas.List.Sums.{sum_by-cons}
use Rattle.rx_term.specs.Tree.{Tree, tree_eq}
use Rattle.rx_term.specs.Store.{Store}
use Rattle.rx_text.specs.Canon.{canon}
use Rattle.rx_table.specs.Table.{is_shared, uses}
use Rattle.rx_table.specs.Inner.Walk.{AreBelow, HasParts, part_tree, trees_at, trees_of}
use Rattle.rx_table.specs.Inner.Shared.{AreCounts}
use Rattle.rx_table.specs.declared.walk.Parts.{Parts}
use Rattle.rx_table.proofs.WalkLemmas.{map-both}
use Rattle.rx_table.proofs.PartLemmas.{same-index, taken-more}

-- ---- how often an index is among others

count-next : {X : Type 0} (p : X → Bool) (x : X) (xs : List X) → count_by p (x ∷ xs) ≡ cond (p x) 1 0 + count_by p xs
count-next p x xs = sum_by-cons (λ y. cond (p y) 1 0) x xs

count-both : (p : ℕ → Bool) (xs ys : List ℕ) → count_by p (xs ++ ys) ≡ count_by p xs + count_by p ys
count-both p [] ys = omega arith
count-both p (x ∷ xs) ys =
    let a = count-next p x (xs ++ ys) in
    let b = count-next p x xs in
    let k = count-both p xs ys in
    omega (arith, a, b, k)

count-last : (m n : ℕ) (seen : List ℕ) (b : Bool) → nat_eq m n ≡ b → count_by (nat_eq m) (seen ++ n ∷ []) ≡ count_by (nat_eq m) seen + cond b 1 0
count-last m n seen b e =
    let a = count-both (nat_eq m) seen (n ∷ []) in
    let c : count_by (nat_eq m) (n ∷ []) ≡ cond (nat_eq m n) 1 0 + 0 = count-next (nat_eq m) n [] in
    let f : Bool → ℕ = λ v. cond v 1 0 in
    let d = ap f e in
    omega (arith, a, c, d)

count-most : (p : ℕ → Bool) (xs : List ℕ) → count_by p xs ≤ length xs
count-most p [] = omega arith
count-most p (x ∷ xs) = let a = count-next p x xs in let k = count-most p xs in by (p x) a k
  where
    by : (b : Bool) → count_by p (x ∷ xs) ≡ cond b 1 0 + count_by p xs → count_by p xs ≤ length xs → count_by p (x ∷ xs) ≤ length (x ∷ xs)
    by true a k = omega (arith, a, k)
    by false a k = omega (arith, a, k)

module _ (n : ℕ) (is old : List ℕ) (k : ℕ) (lt : k < length is) (below : AreBelow n is) (h : AreCounts n (take k is) old) where
  index-below : (js : List ℕ) (i : ℕ) → AreBelow n js → i < length js → get_or js i 0 < n
  index-below [] i b l = absurd (omega (arith, l))
  index-below (j ∷ js) zero b l = b.0
  index-below (j ∷ js) (suc i) b l = index-below js i b.1 (omega (arith, l))

  pub count-within : get_or is k 0 < length old
  count-within = let a = index-below is k below lt in let b = h.0 in omega (arith, a, b)

  -- a count is no more than the length
  pub count-room : get_or old (get_or is k 0) 0 ≤ k
  count-room =
      let a = h.1 (get_or is k 0) (index-below is k below lt) in
      let b = count-most (nat_eq (get_or is k 0)) (take k is) in
      let c = length-take-le k is (omega (arith, lt)) in
      omega (arith, a, b, c)

  pub counts-next : (new : List ℕ) → new ≡ set old (get_or is k 0) (get_or old (get_or is k 0) 0 + 1) → AreCounts n (take (k + 1) is) new
  counts-next new e = (ap length e ∙ length-set old j (get_or old j 0 + 1) ∙ h.0, λ i l. by i l (nat_eq i j) refl)
    where
      j : ℕ
      j = get_or is k 0

      more : (i : ℕ) (b : Bool) → nat_eq i j ≡ b → count_by (nat_eq i) (take (k + 1) is) ≡ count_by (nat_eq i) (take k is) + cond b 1 0
      more i b q = ap (count_by (nat_eq i)) (take_more is k 0 lt) ∙ count-last i j (take k is) b q

      by : (i : ℕ) → i < n → (b : Bool) → nat_eq i j ≡ b → get_or new i 0 ≡ count_by (nat_eq i) (take (k + 1) is)
      by i l true q =
          let same : i ≡ j = (Decides-eqb i j).0 q in
          let a : get_or new j 0 ≡ get_or old j 0 + 1 = ap (λ z. get_or z j 0) e ∙ get_or-set_same old j (get_or old j 0 + 1) 0 count-within in
          let b : get_or new i 0 ≡ get_or old i 0 + 1 = subst (λ z. get_or new z 0 ≡ get_or old z 0 + 1) (sym same) a in
          let c : count_by (nat_eq i) (take (k + 1) is) ≡ count_by (nat_eq i) (take k is) + 1 = more i true q in
          let d = h.1 i l in
          omega (arith, b, c, d)
      by i l false q =
          let apart : i ≢ j = λ s. let t : false ≡ true = sym q ∙ (Decides-eqb i j).1 s in cc t in
          let a : get_or new i 0 ≡ get_or old i 0 = ap (λ z. get_or z i 0) e ∙ get_or-set_other old j i (get_or old j 0 + 1) 0 apart in
          let c : count_by (nat_eq i) (take (k + 1) is) ≡ count_by (nat_eq i) (take k is) + 0 = more i false q in
          let d = h.1 i l in
          omega (arith, a, c, d)

-- ---- how often a part is used

module _ (w : Store) (t : Tree) (parts : Parts) (h : HasParts w t parts) (counts : List ℕ)
    (c : AreCounts (length parts.terms.keys) parts.inside.items counts) (i : ℕ) (lt : i < length parts.terms.keys) where
  abbrev keys : List ℕ
  keys = parts.terms.keys

  count-trees : (js : List ℕ) → AreBelow (length keys) js → count_by (nat_eq i) js ≡ count_by (tree_eq (part_tree w keys i)) (trees_at w keys js)
  count-trees [] b = refl
  count-trees (j ∷ js) b =
      let f : Bool → ℕ = λ v. cond v 1 0 in
      let e = ap f (same-index w t parts h i j lt b.0) in
      let k = count-trees js b.1 in
      let x = count-next (nat_eq i) j js in
      let y = count-next (tree_eq (part_tree w keys i)) (part_tree w keys j) (trees_at w keys js) in
      omega (arith, e, k, x, y)

  pub uses-is : get_or counts i 0 ≡ uses (trees_of w parts.terms.keys) (part_tree w parts.terms.keys i)
  uses-is = c.1 i lt ∙ count-trees parts.inside.items h.indexed.below ∙ ap (count_by (tree_eq (part_tree w keys i))) h.indexed.trees

  pub shared-next : (old new : List Bool) (b : Bool) → old ≡ map (is_shared (trees_of w parts.terms.keys)) (trees_of w (take i parts.terms.keys))
      → b ≡ (nat_le 2 (get_or counts i 0) && nat_lt 8 (length (canon (part_tree w parts.terms.keys i)))) → new ≡ old ++ b ∷ []
      → new ≡ map (is_shared (trees_of w parts.terms.keys)) (trees_of w (take (i + 1) parts.terms.keys))
  shared-next old new b e f g =
      let qs = trees_of w keys in
      let u = part_tree w keys i in
      let is : b ≡ is_shared qs u = f ∙ ap (λ z. nat_le 2 z && nat_lt 8 (length (canon u))) uses-is in
      g ∙ ap (λ z. z ++ b ∷ []) e ∙ ap (λ z. map (is_shared qs) (trees_of w (take i keys)) ++ z ∷ []) is
      ∙ sym (ap (map (is_shared qs)) (taken-more w keys i lt) ∙ map-both (is_shared qs) (trees_of w (take i keys)) (u ∷ []))
