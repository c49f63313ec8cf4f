-- The parts of a tree, by their indices.
use Rattle.std.proofs.Common.{◌≡◌, ℕ, zero, suc, ◌+◌, ◌-◌, ◌<◌, ◌≤◌, Bool, true, false, List, [], ◌∷◌, ◌++◌}
use Rattle.std.proofs.Common.{refl, sym, ap, subst, ◌∙◌, append-nil, length, length-append, flat_map, take, drop, get_or, take-append-drop, arith}
use Rattle.std.proofs.lemmas.List.{drop-map, drop_at, get_or-map, get_or_read, length-map, take-map, take_at, take_more}
use Rattle.std.proofs.lemmas.Grind.{flat_map-append}
use Rattle.std.proofs.Math.Seq.{drop-cons}
use Rattle.std.proofs.lemmas.Bool.Decides.{Decides-eqb, same_from_decides}
use Rattle.std.specs.Prelude.{nat_eq}
use Rattle.std.specs.List.{AllByRecursion, IsDistinct, list_any}
use Rattle.indexmap.specs.IndexSet.{insert_key}
use Rattle.rx_term.specs.Tree.{Tree, list_of, none, tree_eq}
use Rattle.rx_term.specs.Store.{Store}
use Rattle.rx_term.specs.Walks.{held_tree}
use Rattle.rx_term.proofs.TreeLemmas.{tree_eq-Decides}
use Rattle.rx_table.specs.Table.{different, direct, subterms}
use Rattle.rx_table.specs.Inner.Walk.{AreAmong, AreBelow, Begun, HasParts, IsAmong, part_tree, term_of, trees_at, trees_of}
use Rattle.rx_table.specs.declared.walk.Parts.{Parts}
use Rattle.rx_table.proofs.SubtermLemmas.{all-at, among-different, begun-different, begun-subterms, direct-inside, inside, inside-before, not-inside, subterms-inside}
use Rattle.rx_table.proofs.ShortLemmas.{distinct-different}
use Rattle.rx_table.proofs.WalkLemmas.{below-dropped, below-taken, bound-at, bounds-count, inserted-both, map-both}

-- ---- references of parts

module _ (w : Store) (ns : List ℕ) (i : ℕ) (lt : i < length ns) where
  pub taken-more : trees_of w (take (i + 1) ns) ≡ trees_of w (take i ns) ++ part_tree w ns i ∷ []
  taken-more = ap (trees_of w) (take_more ns i 0 lt) ∙ map-both (λ n. held_tree w (term_of n)) (take i ns) (get_or ns i 0 ∷ [])

  pub split : trees_of w ns ≡ trees_of w (take i ns) ++ part_tree w ns i ∷ trees_of w (drop (suc i) ns)
  split =
      let cut : ns ≡ take i ns ++ get_or ns i 0 ∷ drop (suc i) ns = sym (take-append-drop i ns) ∙ ap (λ z. take i ns ++ z) (drop-cons ns i 0 lt) in
      ap (trees_of w) cut ∙ map-both (λ n. held_tree w (term_of n)) (take i ns) (get_or ns i 0 ∷ drop (suc i) ns)

  pub part-is : (d : Tree) → get_or (trees_of w ns) i d ≡ part_tree w ns i
  part-is d = get_or-map (λ n. held_tree w (term_of n)) ns i 0 d lt

pub trees-count : (w : Store) (ns : List ℕ) → length (trees_of w ns) ≡ length ns
trees-count w ns = length-map ns (λ n. held_tree w (term_of n))

-- ---- distinct trees

pub tree-symm : (x y : Tree) → tree_eq x y ≡ tree_eq y x
tree-symm x y = same_from_decides (tree_eq x y) (tree_eq y x) (tree_eq-Decides x y)
    ((λ e. sym ((tree_eq-Decides y x).0 e)), (λ e. (tree_eq-Decides y x).1 (sym e)))

place-all : (P : Tree → Type 0) (ts : List Tree) (i : ℕ) (d : Tree) → AllByRecursion P ts → i < length ts → P (get_or ts i d)
place-all P [] i d h lt = absurd (omega (arith, lt))
place-all P (t ∷ ts) zero d h lt = h.0
place-all P (t ∷ ts) (suc i) d h lt = place-all P ts i d h.1 (omega (arith, lt))

pub places-same : (ts : List Tree) (i j : ℕ) (d : Tree) → IsDistinct tree_eq ts → i < length ts → j < length ts
    → tree_eq (get_or ts i d) (get_or ts j d) ≡ true → i ≡ j
unfolding IsDistinct
places-same [] i j d h a b e = absurd (omega (arith, a))
places-same (x ∷ xs) zero zero d h a b e = refl
places-same (x ∷ xs) zero (suc j) d h a b e =
    absurd (let k : false ≡ true = sym (place-all (λ y. tree_eq x y ≡ false) xs j d h.0 (omega (arith, b))) ∙ e in cc k)
places-same (x ∷ xs) (suc i) zero d h a b e =
    absurd (let k : false ≡ true = sym (place-all (λ y. tree_eq x y ≡ false) xs i d h.0 (omega (arith, a))) ∙ tree-symm x (get_or xs i d) ∙ e in cc k)
places-same (x ∷ xs) (suc i) (suc j) d h a b e = ap suc (places-same xs i j d h.1 (omega (arith, a)) (omega (arith, b)) e)

-- one that is among the first trees has an index there
place-before : (ts : List Tree) (i j : ℕ) (d : Tree) → IsDistinct tree_eq ts → j < length ts → IsAmong (get_or ts j d) (take i ts) → j < i
unfolding IsDistinct
place-before [] i j d h lt k = absurd (omega (arith, lt))
place-before (x ∷ xs) zero j d h lt k = absurd (cc k)
place-before (x ∷ xs) (suc i) zero d h lt k = omega arith
place-before (x ∷ xs) (suc i) (suc j) d h lt k =
    let y = get_or xs j d in
    let apart : tree_eq y x ≡ false = tree-symm y x ∙ place-all (λ z. tree_eq x z ≡ false) xs j d h.0 (omega (arith, lt)) in
    let later : IsAmong y (take i xs) = (rw apart at k) in
    let n = place-before xs i j d h.1 (omega (arith, lt)) later in
    omega (arith, n)

-- ---- the parts of a tree

-- the last of the different subterms is the tree
pub different-last : (t : Tree) → (front : List Tree) × (different (subterms t) ≡ front ++ t ∷ [])
different-last t = (different (inside t), ap different (subterms-inside t) ∙ inserted-both [] (inside t) (t ∷ []) ∙ by (list_any (tree_eq t) (different (inside t))) refl)
  where
    by : (b : Bool) → list_any (tree_eq t) (different (inside t)) ≡ b → insert_key tree_eq (different (inside t)) t ≡ different (inside t) ++ t ∷ []
    by true e = absurd (not-inside t t (among-different t (inside t) e) refl)
    by false e = rw e refl

module _ (w : Store) (t : Tree) (parts : Parts) (h : HasParts w t parts) where
  abbrev keys : List ℕ
  keys = parts.terms.keys

  abbrev qs : List Tree
  qs = trees_of w parts.terms.keys

  pub distinct : IsDistinct tree_eq (trees_of w parts.terms.keys)
  distinct = subst (IsDistinct tree_eq) (sym h.trees) (distinct-different (subterms t))

  pub parts-some : 0 < length parts.terms.keys
  parts-some =
      let (front, e) = different-last t in
      let a = ap length (h.trees ∙ e) ∙ length-append front (t ∷ []) in
      let b = trees-count w keys in
      omega (arith, a, b)

  -- equal trees have equal indices
  pub same-index : (i j : ℕ) → i < length parts.terms.keys → j < length parts.terms.keys
      → nat_eq i j ≡ tree_eq (part_tree w parts.terms.keys i) (part_tree w parts.terms.keys j)
  same-index i j a b =
      let n = trees-count w keys in
      let d : Tree = list_of none in
      let one = part-is w keys i a d in
      let two = part-is w keys j b d in
      same_from_decides (nat_eq i j) (tree_eq (part_tree w keys i) (part_tree w keys j)) (Decides-eqb i j) (
        (λ e. places-same qs i j d distinct (omega (arith, a, n)) (omega (arith, b, n)) (rw (one, two) e)),
        (λ e. (tree_eq-Decides (part_tree w keys i) (part_tree w keys j)).1 (ap (part_tree w keys) e)),
      )

  module _ (i : ℕ) (lt : i < length parts.terms.keys) where
    abbrev start : ℕ
    start = length (flat_map direct (trees_of w (take i keys)))

    taken-trees : (k : ℕ) → take k qs ≡ trees_of w (take k keys)
    taken-trees k = take-map (λ n. held_tree w (term_of n)) k keys

    pub start-is : get_or parts.bounds.items i 0 ≡ length (flat_map direct (trees_of w (take i parts.terms.keys)))
    start-is =
        let n = trees-count w keys in
        let a = bound-at 0 qs i (omega (arith, lt, n)) in
        let b = ap (λ z. get_or z i 0) h.indexed.bounds in
        let c = ap (λ z. length (flat_map direct z)) (taken-trees i) in
        omega (arith, a, b, c)

    pub end-is : get_or parts.bounds.items (i + 1) 0
        ≡ length (flat_map direct (trees_of w (take i parts.terms.keys))) + length (direct (part_tree w parts.terms.keys i))
    end-is =
        let n = trees-count w keys in
        let a = bound-at 0 qs (i + 1) (omega (arith, lt, n)) in
        let b = ap (λ z. get_or z (i + 1) 0) h.indexed.bounds in
        let c = ap (λ z. length (flat_map direct z)) (taken-trees (i + 1) ∙ taken-more w keys i lt)
        ∙ ap length (flat_map-append direct (trees_of w (take i keys)) (part_tree w keys i ∷ []))
        ∙ length-append (flat_map direct (trees_of w (take i keys))) (direct (part_tree w keys i) ++ [])
        in
        let e = ap length (append-nil (direct (part_tree w keys i))) in
        omega (arith, a, b, c, e)

    pub bounds-more-than : i + 1 < length parts.bounds.items
    bounds-more-than =
        let n = trees-count w keys in
        let a = bounds-count 0 qs in
        let b = ap length h.indexed.bounds in
        omega (arith, lt, n, a, b)

    abbrev behind : List Tree
    behind = flat_map direct (trees_of w (drop (suc i) keys))

    whole : trees_at w keys parts.inside.items
        ≡ flat_map direct (trees_of w (take i keys)) ++ (direct (part_tree w keys i) ++ behind)
    whole = h.indexed.trees ∙ ap (flat_map direct) (split w keys i lt)
        ∙ flat_map-append direct (trees_of w (take i keys)) (part_tree w keys i ∷ trees_of w (drop (suc i) keys))

    pub end-within : length (flat_map direct (trees_of w (take i parts.terms.keys))) + length (direct (part_tree w parts.terms.keys i))
        ≤ length parts.inside.items
    end-within =
        let a = length-map parts.inside.items (part_tree w keys) in
        let b = ap length whole ∙ length-append (flat_map direct (trees_of w (take i keys))) (direct (part_tree w keys i) ++ behind) in
        let c = length-append (direct (part_tree w keys i)) behind in
        omega (arith, a, b, c)

    -- what is read of the bounds
    pub record BoundsRead (low high : ℕ) : Type 0 where
      pub first : low ≡ length (flat_map direct (trees_of w (take i parts.terms.keys)))
      pub count : high - low ≡ length (direct (part_tree w parts.terms.keys i))
      pub order : low ≤ high
      pub within : high ≤ length parts.inside.items

    pub bounds-read : (first last : ℕ) → first ≡ get_or parts.bounds.items i first → last ≡ get_or parts.bounds.items (i + 1) last → BoundsRead first last
    bounds-read first last e f =
        let more = bounds-more-than in
        let a : first ≡ get_or parts.bounds.items i 0 = get_or_read parts.bounds.items i first (omega (arith, more)) e 0 in
        let b : last ≡ get_or parts.bounds.items (i + 1) 0 = get_or_read parts.bounds.items (i + 1) last more f 0 in
        let c = start-is in
        let d = end-is in
        let n = end-within in
        record {
          first = a ∙ c;
          count = omega (arith, a, b, c, d);
          order = omega (arith, a, b, c, d);
          within = omega (arith, b, d, n);
        }

    module _ (from count : ℕ) (a : from ≡ length (flat_map direct (trees_of w (take i parts.terms.keys))))
        (b : count ≡ length (direct (part_tree w parts.terms.keys i))) where
      abbrev slice : List ℕ
      slice = take count (drop from parts.inside.items)

      pub slice-trees : trees_at w parts.terms.keys (take count (drop from parts.inside.items)) ≡ direct (part_tree w parts.terms.keys i)
      slice-trees = sym (take-map (part_tree w keys) count (drop from parts.inside.items))
          ∙ ap (take count) (sym (drop-map (part_tree w keys) from parts.inside.items) ∙ ap (drop from) whole
          ∙ drop_at (flat_map direct (trees_of w (take i keys))) (direct (part_tree w keys i) ++ behind) from (sym a))
          ∙ take_at (direct (part_tree w keys i)) behind count (sym b)

      -- those inside of a part come before it
      pub slice-below : AreBelow i (take count (drop from parts.inside.items))
      slice-below = by slice (below-taken (length keys) count (drop from parts.inside.items) (below-dropped (length keys) from parts.inside.items h.indexed.below))
          (subst (λ z. AreAmong z (inside (part_tree w keys i))) (sym slice-trees) (direct-inside (part_tree w keys i)))
        where
          before : AreAmong (inside (part_tree w keys i)) (trees_of w (take i keys))
          before = inside-before (part_tree w keys i) (trees_of w (take i keys)) (trees_of w (drop (suc i) keys))
              (subst Begun (sym h.trees ∙ split w keys i lt) (begun-different (subterms t) (begun-subterms t)))

          by : (js : List ℕ) → AreBelow (length keys) js → AreAmong (trees_at w keys js) (inside (part_tree w keys i)) → AreBelow i js
          by [] k l = tt
          by (j ∷ js) k l =
              let n = trees-count w keys in
              let lj : j < length keys = k.0 in
              let d : Tree = list_of none in
              let among : IsAmong (part_tree w keys j) (trees_of w (take i keys)) =
              all-at (λ x. IsAmong x (trees_of w (take i keys))) (inside (part_tree w keys i)) (part_tree w keys j) before l.0 in
              let there : IsAmong (get_or qs j d) (take i qs) =
              subst (λ z. IsAmong z (take i qs)) (sym (part-is w keys j lj d)) (subst (IsAmong (part_tree w keys j)) (sym (taken-trees i)) among) in
              (place-before qs i j d distinct (omega (arith, lj, n)) there, by js k.1 l.1)
