-- The table of a tree is a valid term, and no longer than the tree has parts.
use Rattle.std.proofs.Common.{◌≡◌, ◌^◌, ◌<◌, ◌≤◌, Bool, true, false, List, [], ◌∷◌, ◌++◌}
use Rattle.std.proofs.Common.{Contains, refl, sym, ◌∙◌, length, filter, map, nat_lt, arith}
use borrow.Author.Tests.{leb-true, lt-ltb}
use Rattle.std.specs.Cmp.{IsEquivalence, decided}
use Rattle.std.specs.Cmp.Derive.{both_true}
use Rattle.std.specs.List.{AllByRecursion, IsDistinct, list_any, position_or_len}
use Rattle.std.proofs.lemmas.Map.Keys.{IsDistinct-push}
use Rattle.std.proofs.lemmas.Map.Made.{is_member-Decides, length-from_keys, length-le_from_is_member}
use Rattle.indexmap.specs.IndexSet.{insert_key, insert_all}
use Rattle.rx_term.specs.Tree.{Tree, Trees, Int, Appl, Items, Hole, none, more, tree_eq, from_list, list_of, is_i32, is_tree, are_trees}
use Rattle.rx_term.specs.Parts.{parts, list_parts, item_parts, annotation_parts, part_count}
use Rattle.rx_term.proofs.TreeLemmas.{both_parts, tree_eq-Decides}
use Rattle.rx_table.specs.Table.{different, subterms, subterms_all, is_shared, shared, uses, numbered, entry, written, written_all, table}
use Rattle.rx_table.specs.Inner.Walk.{IsAmong, AreAmong}
use Rattle.rx_table.proofs.SubtermLemmas.{all-at, all-both, among-different, among-first, among-right, among-still, are-left, are-right}
use Rattle.rx_table.proofs.TableLemmas.{among-filter}

-- ---- valid terms

position-below : (t : Tree) (ps : List Tree) → IsAmong t ps → position_or_len (tree_eq t) ps < length ps
position-below t [] h = absurd (cc h)
position-below t (p ∷ ps) h = by (tree_eq t p) refl (position-below t ps)
  where
    by : (b : Bool) → tree_eq t p ≡ b → (IsAmong t ps → position_or_len (tree_eq t) ps < length ps) → position_or_len (tree_eq t) (p ∷ ps) < length (p ∷ ps)
    by true e later = rw e (omega arith)
    by false e later = let k = later (rw e at h) in rw e (omega (arith, k))

abbrev IsValid : Tree → Type 0
IsValid t = is_tree t ≡ true

module _ (ps : List Tree) (few : length ps ≤ 2 ^ 31) where
  valid-numbered : (t : Tree) → IsValid (entry ps t) → IsValid (numbered ps t (entry ps t))
  valid-numbered t h = by (list_any (tree_eq t) ps) refl
    where
      by : (b : Bool) → list_any (tree_eq t) ps ≡ b → IsValid (numbered ps t (entry ps t))
      by true e =
          let below = position-below t ps e in
          let fits : nat_lt (position_or_len (tree_eq t) ps) (2 ^ 31) ≡ true = lt-ltb _ _ (omega (arith, below, few)) in
          rw (e, fits) refl
      by false e = rw e h

  mutual
    pub valid-entry : (t : Tree) → IsValid t → IsValid (entry ps t)
    valid-entry (Int z anns) h =
        let k = both_parts (is_i32 z) (are_trees anns) h in
        both_true k.0 (valid-all anns k.1)
    valid-entry (Appl name quoted args anns) h =
        let k = both_parts _ (are_trees anns) h in
        let l = both_parts _ (are_trees args) k.0 in
        both_true (both_true l.0 (valid-all args l.1)) (valid-all anns k.1)
    valid-entry (Items items anns) h =
        let k = both_parts (are_trees items) (are_trees anns) h in
        both_true (valid-all items k.0) (valid-all anns k.1)
    valid-entry (Hole inner anns) h =
        let k = both_parts (is_tree inner) (are_trees anns) h in
        both_true (both_true (both_true (valid-numbered inner (valid-entry inner k.0)) refl) refl) (valid-all anns k.1)

    valid-all : (ts : Trees) → are_trees ts ≡ true → are_trees (written_all ps ts) ≡ true
    valid-all none h = refl
    valid-all (more t ts) h =
        let k = both_parts (is_tree t) (are_trees ts) h in
        both_true (valid-numbered t (valid-entry t k.0)) (valid-all ts k.1)

  valid-elements : (us : List Tree) (t : Tree) → AllByRecursion IsValid us → IsValid t → are_trees (from_list (map (entry ps) us ++ written ps t ∷ [])) ≡ true
  valid-elements [] t h k = both_true (valid-numbered t (valid-entry t k)) refl
  valid-elements (u ∷ us) t h k = both_true (valid-entry u h.0) (valid-elements us t h.1 k)

mutual
  valid-subterms : (t : Tree) → IsValid t → AllByRecursion IsValid (subterms t)
  valid-subterms (Int z anns) h =
      let k = both_parts (is_i32 z) (are_trees anns) h in
      all-both IsValid (subterms_all anns) (Int z anns ∷ []) (valid-inside anns k.1) (h, tt)
  valid-subterms (Appl name quoted args anns) h =
      let k = both_parts _ (are_trees anns) h in
      let l = both_parts _ (are_trees args) k.0 in
      all-both IsValid (subterms_all args ++ subterms_all anns) (Appl name quoted args anns ∷ [])
      (all-both IsValid (subterms_all args) (subterms_all anns) (valid-inside args l.1) (valid-inside anns k.1)) (h, tt)
  valid-subterms (Items items anns) h =
      let k = both_parts (are_trees items) (are_trees anns) h in
      all-both IsValid (subterms_all items ++ subterms_all anns) (Items items anns ∷ [])
      (all-both IsValid (subterms_all items) (subterms_all anns) (valid-inside items k.0) (valid-inside anns k.1)) (h, tt)
  valid-subterms (Hole inner anns) h =
      let k = both_parts (is_tree inner) (are_trees anns) h in
      all-both IsValid (subterms inner ++ subterms_all anns) (Hole inner anns ∷ [])
      (all-both IsValid (subterms inner) (subterms_all anns) (valid-subterms inner k.0) (valid-inside anns k.1)) (h, tt)

  valid-inside : (ts : Trees) → are_trees ts ≡ true → AllByRecursion IsValid (subterms_all ts)
  valid-inside none h = tt
  valid-inside (more t ts) h =
      let k = both_parts (is_tree t) (are_trees ts) h in
      all-both IsValid (subterms t) (subterms_all ts) (valid-subterms t k.0) (valid-inside ts k.1)

among-shared : (t p : Tree) → IsAmong p (shared t) → IsAmong p (subterms t)
among-shared t p h = among-different p (subterms t) (among-filter (is_shared (different (subterms t))) p (different (subterms t)) h).1

each-among : (P : Tree → Type 0) (us : List Tree) → ((u : Tree) → IsAmong u us → P u) → AllByRecursion P us
each-among P [] h = tt
each-among P (u ∷ us) h = (h u (among-first u us), each-among P us (λ v there. h v (among-right v (u ∷ []) us there)))

-- ---- no more than the parts

mutual
  among-parts : (t : Tree) → AreAmong (subterms t) (parts t)
  among-parts (Int z anns) =
      let t = Int z anns in
      all-both (λ x. IsAmong x (parts t)) (subterms_all anns) (t ∷ []) (are-right (subterms_all anns) (t ∷ []) (annotation_parts anns) (among-notes anns))
      (among-first t (annotation_parts anns), tt)
  among-parts (Appl name quoted args anns) =
      let t = Appl name quoted args anns in
      let below = list_parts args ++ annotation_parts anns in
      let P : Tree → Type 0 = λ x. IsAmong x below in
      all-both (λ x. IsAmong x (parts t)) (subterms_all args ++ subterms_all anns) (t ∷ [])
      (are-right (subterms_all args ++ subterms_all anns) (t ∷ []) below (all-both P (subterms_all args) (subterms_all anns)
      (are-left (subterms_all args) (list_parts args) (annotation_parts anns) (among-list args))
      (are-right (subterms_all anns) (list_parts args) (annotation_parts anns) (among-notes anns))))
      (among-first t below, tt)
  among-parts (Items items anns) =
      let t = Items items anns in
      let below = item_parts items ++ annotation_parts anns in
      let P : Tree → Type 0 = λ x. IsAmong x below in
      all-both (λ x. IsAmong x (parts t)) (subterms_all items ++ subterms_all anns) (t ∷ [])
      (are-right (subterms_all items ++ subterms_all anns) (t ∷ []) below (all-both P (subterms_all items) (subterms_all anns)
      (are-left (subterms_all items) (item_parts items) (annotation_parts anns) (among-items items))
      (are-right (subterms_all anns) (item_parts items) (annotation_parts anns) (among-notes anns))))
      (among-first t below, tt)
  among-parts (Hole inner anns) =
      let t = Hole inner anns in
      let below = parts inner ++ annotation_parts anns in
      let P : Tree → Type 0 = λ x. IsAmong x below in
      all-both (λ x. IsAmong x (parts t)) (subterms inner ++ subterms_all anns) (t ∷ [])
      (are-right (subterms inner ++ subterms_all anns) (t ∷ []) below (all-both P (subterms inner) (subterms_all anns)
      (are-left (subterms inner) (parts inner) (annotation_parts anns) (among-parts inner))
      (are-right (subterms_all anns) (parts inner) (annotation_parts anns) (among-notes anns))))
      (among-first t below, tt)

  among-list : (ts : Trees) → AreAmong (subterms_all ts) (list_parts ts)
  among-list none = tt
  among-list (more t ts) =
      let below = parts t ++ list_parts ts in
      let P : Tree → Type 0 = λ x. IsAmong x below in
      are-right (subterms t ++ subterms_all ts) (list_of (more t ts) ∷ []) below (all-both P (subterms t) (subterms_all ts)
      (are-left (subterms t) (parts t) (list_parts ts) (among-parts t)) (are-right (subterms_all ts) (parts t) (list_parts ts) (among-list ts)))

  among-items : (ts : Trees) → AreAmong (subterms_all ts) (item_parts ts)
  among-items none = tt
  among-items (more t ts) =
      let P : Tree → Type 0 = λ x. IsAmong x (parts t ++ list_parts ts) in
      all-both P (subterms t) (subterms_all ts)
      (are-left (subterms t) (parts t) (list_parts ts) (among-parts t)) (are-right (subterms_all ts) (parts t) (list_parts ts) (among-list ts))

  among-notes : (ts : Trees) → AreAmong (subterms_all ts) (annotation_parts ts)
  among-notes none = tt
  among-notes (more t ts) =
      let below = parts t ++ list_parts ts in
      let P : Tree → Type 0 = λ x. IsAmong x below in
      are-right (subterms t ++ subterms_all ts) (list_of (more t ts) ∷ []) below (all-both P (subterms t) (subterms_all ts)
      (are-left (subterms t) (parts t) (list_parts ts) (among-parts t)) (are-right (subterms_all ts) (parts t) (list_parts ts) (among-list ts)))

pub tree_laws : IsEquivalence tree_eq
tree_laws = decided tree_eq tree_eq-Decides

distinct-insert : (xs : List Tree) (y : Tree) → IsDistinct tree_eq xs → IsDistinct tree_eq (insert_key tree_eq xs y)
distinct-insert xs y h = by (list_any (tree_eq y) xs) refl
  where
    by : (b : Bool) → list_any (tree_eq y) xs ≡ b → IsDistinct tree_eq (insert_key tree_eq xs y)
    by true e = rw e h
    by false e = rw e (IsDistinct-push tree_laws xs y h e)

distinct-inserted : (xs ys : List Tree) → IsDistinct tree_eq xs → IsDistinct tree_eq (insert_all tree_eq xs ys)
distinct-inserted xs [] h = h
distinct-inserted xs (y ∷ ys) h = distinct-inserted (insert_key tree_eq xs y) ys (distinct-insert xs y h)

no-trees : IsDistinct tree_eq []
unfolding IsDistinct
no-trees = tt

pub distinct-different : (xs : List Tree) → IsDistinct tree_eq (different xs)
distinct-different xs = distinct-inserted [] xs no-trees

all-filter : (P : Tree → Type 0) (p : Tree → Bool) (xs : List Tree) → AllByRecursion P xs → AllByRecursion P (filter p xs)
all-filter P p [] h = tt
all-filter P p (x ∷ xs) h = by (p x) refl (all-filter P p xs h.1)
  where
    by : (b : Bool) → p x ≡ b → AllByRecursion P (filter p xs) → AllByRecursion P (filter p (x ∷ xs))
    by true e k = rw e (h.0, k)
    by false e k = rw e k

distinct-filter : (p : Tree → Bool) (xs : List Tree) → IsDistinct tree_eq xs → IsDistinct tree_eq (filter p xs)
unfolding IsDistinct
distinct-filter p [] h = tt
distinct-filter p (x ∷ xs) h = by (p x) refl (distinct-filter p xs h.1)
  where
    by : (b : Bool) → p x ≡ b → IsDistinct tree_eq (filter p xs) → IsDistinct tree_eq (filter p (x ∷ xs))
    by true e k = rw e (all-filter (λ y. tree_eq x y ≡ false) p xs h.0, k)
    by false e k = rw e k

pub shared-distinct : (t : Tree) → IsDistinct tree_eq (shared t)
shared-distinct t = distinct-filter (is_shared (different (subterms t))) (different (subterms t)) (distinct-different (subterms t))

pub shared-few : (t : Tree) → length (shared t) ≤ part_count t
shared-few t =
    let all = length-from_keys tree_laws (different (parts t)) (parts t) (distinct-different (parts t)) (λ q. same q) in
    let some = length-le_from_is_member tree_laws (shared t) (different (parts t)) (shared-distinct t)
    (λ q m. among-still q (parts t) (all-at (λ x. IsAmong x (parts t)) (subterms t) q (among-parts t) (among-shared t q m))) in
    omega (arith, all, some)
  where
    same : (q : Tree) → list_any (tree_eq q) (different (parts t)) ≡ list_any (tree_eq q) (parts t)
    same q = by (list_any (tree_eq q) (different (parts t))) (list_any (tree_eq q) (parts t)) refl refl
      where
        by : (a b : Bool) → list_any (tree_eq q) (different (parts t)) ≡ a → list_any (tree_eq q) (parts t) ≡ b → a ≡ b
        by true true p r = refl
        by false false p r = refl
        by true false p r = sym (among-different q (parts t) p) ∙ r
        by false true p r = sym p ∙ among-still q (parts t) r

pub shared-used : (t p : Tree) → Contains (shared t) p → 2 ≤ uses (different (subterms t)) p
shared-used t p c =
    let qs = different (subterms t) in
    let there = (is_member-Decides tree_eq-Decides (shared t) p).1 c in
    let k = both_parts _ _ (among-filter (is_shared qs) p qs there).0 in
    leb-true 2 (uses qs p) k.0

pub table-valid : (t : Tree) → IsValid t → part_count t ≤ 2 ^ 31 → IsValid (table t)
table-valid t h le =
    let few : length (shared t) ≤ 2 ^ 31 = let k = shared-few t in omega (arith, k, le) in
    let all = each-among IsValid (shared t) (λ u there. all-at IsValid (subterms t) u (valid-subterms t h) (among-shared t u there)) in
    both_true (valid-elements (shared t) few (shared t) t all h) refl
