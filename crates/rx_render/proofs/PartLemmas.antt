-- The parts in order are the different parts, each once.
use Rattle.std.proofs.Common.{◌≡◌, ℕ, ◌<◌, ◌≤◌, ◌⊎◌, zero, suc, inl, inr, Bool, true, false, ◌||◌, List, [], ◌∷◌}
use Rattle.std.proofs.Common.{Option, Some, None, Contains, refl, sym, ap, subst, ◌∙◌, arith, length, slice_get}
use Rattle.std.specs.List.{IsDistinct, list_any}
use Rattle.std.specs.Cmp.{IsEquivalence}
use Rattle.std.proofs.lemmas.Bool.Decides.{same_from_decides}
use Rattle.std.proofs.lemmas.List.Folds.{list_any-append}
use Rattle.std.proofs.lemmas.Map.Keys.{IsDistinct-cons, IsDistinct-push, any_passes_from_place}
use Rattle.std.proofs.lemmas.Map.Made.{is_member-Decides, length-from_keys, length-le_from_is_member}
use Rattle.std.proofs.lemmas.Map.Steps.{list_any_congr}
use Rattle.indexmap.specs.IndexSet.{insert_key, insert_all}
use Rattle.rx_term.specs.Tree.{Tree, tree_eq}
use Rattle.rx_term.specs.Parts.{IsPart, below, itself, own_parts, part_count, parts}
use Rattle.rx_term.proofs.TreeLemmas.{tree_eq-Decides, tree_eq_same}
use Rattle.rx_term.proofs.PartsLemmas.{IsPart-parts, cons_cases, no_element, parts-named, parts-self, parts-trans}
use Rattle.rx_run.proofs.CountedPartLemmas.{tree_equivalence}
use Rattle.rx_render.specs.Graph.{found, order, with_own}
use Rattle.rx_render.specs.Law.{ListsParts}
use Rattle.rx_render.proofs.GraphLemmas.{order_at, order_begins}
use Rattle.rx_render.proofs.OrderLemmas.{any_more}

-- ---- what is inserted

either : (a b : Bool) → (a || b) ≡ true → (a ≡ true) ⊎ (b ≡ true)
either true b e = inl refl
either false b e = inr e

or_false : (b : Bool) → (b || false) ≡ b
or_false true = refl
or_false false = refl

or_true : (a b : Bool) → (b ≡ true → a ≡ true) → a ≡ (a || b)
or_true true b h = refl
or_true false true h = h refl
or_true false false h = refl

module _ {X : Type 0} {eq : X → X → Bool} (laws : IsEquivalence eq) where
  -- one more is there
  member_insert : (xs : List X) (y q : X) → list_any (eq q) (insert_key eq xs y) ≡ (list_any (eq q) xs || eq q y)
  member_insert xs y q = by (list_any (eq y) xs) refl
    where
      by : (b : Bool) → list_any (eq y) xs ≡ b → list_any (eq q) (insert_key eq xs y) ≡ (list_any (eq q) xs || eq q y)
      by true e = rw e (or_true (list_any (eq q) xs) (eq q y) (λ k. list_any_congr laws q y xs k ∙ e))
      by false e = rw e (list_any-append (eq q) xs (y ∷ []) ∙ ap (λ b. list_any (eq q) xs || b) (or_false (eq q y)))

  -- several more are there, and no others
  member_insert_all : (xs ys : List X) (q : X) → list_any (eq q) (insert_all eq xs ys) ≡ (list_any (eq q) xs || list_any (eq q) ys)
  member_insert_all xs [] q = sym (or_false (list_any (eq q) xs))
  member_insert_all xs (y ∷ ys) q = member_insert_all (insert_key eq xs y) ys q ∙ ap (λ b. b || list_any (eq q) ys) (member_insert xs y q)
      ∙ or_assoc (list_any (eq q) xs) (eq q y) (list_any (eq q) ys)
    where
      or_assoc : (a b c : Bool) → ((a || b) || c) ≡ (a || (b || c))
      or_assoc true b c = refl
      or_assoc false b c = refl

  distinct_insert : (xs : List X) (y : X) → IsDistinct eq xs → IsDistinct eq (insert_key eq xs y)
  distinct_insert xs y h = by (list_any (eq y) xs) refl
    where
      by : (b : Bool) → list_any (eq y) xs ≡ b → IsDistinct eq (insert_key eq xs y)
      by true e = rw e h
      by false e = rw e (IsDistinct-push laws xs y h e)

  distinct_insert_all : (xs ys : List X) → IsDistinct eq xs → IsDistinct eq (insert_all eq xs ys)
  distinct_insert_all xs [] h = h
  distinct_insert_all xs (y ∷ ys) h = distinct_insert_all (insert_key eq xs y) ys (distinct_insert xs y h)

-- ---- what is found

-- the tree is one of these
abbrev Has : List Tree → Tree → Type 0
Has ts p = list_any (tree_eq p) ts ≡ true

has_in : (ts : List Tree) (p : Tree) → Contains ts p → Has ts p
has_in ts p c = (is_member-Decides tree_eq-Decides ts p).1 c

in_has : (ts : List Tree) (p : Tree) → Has ts p → Contains ts p
in_has ts p h = (is_member-Decides tree_eq-Decides ts p).0 h

at_has : (ts : List Tree) (n : ℕ) (p : Tree) → slice_get ts n ≡ Some p → Has ts p
at_has ts n p e = any_passes_from_place (tree_eq p) ts n p e (tree_eq_same p)

none_distinct : IsDistinct tree_eq []
unfolding IsDistinct
none_distinct = tt

found_distinct : (t : Tree) (n : ℕ) → IsDistinct tree_eq (found t n)
found_distinct t zero = IsDistinct-cons tree_eq t [] tt none_distinct
found_distinct t (suc n) = by (slice_get (found t n) n) (found_distinct t n)
  where
    by : (o : Option Tree) → IsDistinct tree_eq (found t n) → IsDistinct tree_eq (with_own (found t n) o)
    by None h = h
    by (Some u) h = distinct_insert_all tree_equivalence (found t n) (own_parts u) h

-- only parts are
found_parts : (t : Tree) (n : ℕ) (p : Tree) → Has (found t n) p → Contains (parts t) p
found_parts t zero p h = elim (either (tree_eq p t) false h) [
  | inl e ↦ subst (λ u. Contains (parts t) u) (sym ((tree_eq-Decides p t).0 e)) (parts-self t)
  | inr e ↦ absurd (cc e)
]
found_parts t (suc n) p h = by (slice_get (found t n) n) refl h (found_parts t n)
  where
    by : (o : Option Tree) → slice_get (found t n) n ≡ o → Has (with_own (found t n) o) p → ((q : Tree) → Has (found t n) q → Contains (parts t) q)
        → Contains (parts t) p
    by None e k before = before p k
    by (Some u) e k before =
        elim (either (list_any (tree_eq p) (found t n)) (list_any (tree_eq p) (own_parts u))
        (sym (member_insert_all tree_equivalence (found t n) (own_parts u) p) ∙ k)) [
          | inl a ↦ before p a
          | inr a ↦ parts-trans t u p (before u (at_has (found t n) n u e)) (parts-named u p (in_has (own_parts u) p a))
        ]

-- so there are no more than there are parts
found_few : (t : Tree) (n : ℕ) → length (found t n) ≤ part_count t
found_few t n =
    let all = insert_all tree_eq [] (parts t) in
    let once : IsDistinct tree_eq all = distinct_insert_all tree_equivalence [] (parts t) none_distinct in
    let same : length all ≡ part_count t = length-from_keys tree_equivalence all (parts t) once (λ q. member_insert_all tree_equivalence [] (parts t) q) in
    let le = length-le_from_is_member tree_equivalence (found t n) all (found_distinct t n) (λ q h.
    member_insert_all tree_equivalence [] (parts t) q ∙ has_in (parts t) q (found_parts t n q h)) in
    omega (arith, same, le)

-- ---- all are found

place_short : {X : Type 0} (xs : List X) (n : ℕ) (x : X) → slice_get xs n ≡ Some x → n < length xs
place_short [] n x e = absurd (cc e)
place_short (y ∷ xs) zero x e = omega arith
place_short (y ∷ xs) (suc n) x e = omega (arith, place_short xs n x e)

element_place : {X : Type 0} (xs : List X) (x : X) → Contains xs x → (n : ℕ) × (slice_get xs n ≡ Some x)
element_place [] x c = absurd (no_element x c)
element_place (y ∷ xs) x c = elim (cons_cases y xs x c) [
  | inl e ↦ (0, ap (λ z. let o : Option _ = Some z in o) e)
  | inr k ↦ (let r = element_place xs x k in (suc r.0, r.1))
]

-- the own parts of what is found are found
order_closed : (t u q : Tree) → Contains (order t) u → Contains (own_parts u) q → Contains (order t) q
order_closed t u q c d =
    let (n, at) = element_place (order t) u c in
    let few = found_few t (part_count t) in
    let short = place_short (order t) n u at in
    let lt : n < part_count t = omega (arith, few, short) in
    let before : slice_get (found t n) n ≡ Some u = sym (order_at t n lt) ∙ at in
    let next : found t (suc n) ≡ insert_all tree_eq (found t n) (own_parts u) = ap (with_own (found t n)) before in
    let has : Has (found t (suc n)) q = ap (list_any (tree_eq q)) next ∙ member_insert_all tree_equivalence (found t n) (own_parts u) q
    ∙ ap (λ b. list_any (tree_eq q) (found t n) || b) (has_in (own_parts u) q d) ∙ or_one (list_any (tree_eq q) (found t n)) in
    let b = order_begins t (suc n) lt in
    in_has (order t) q (ap (list_any (tree_eq q)) b.1 ∙ any_more (tree_eq q) (found t (suc n)) b.0 has)
  where
    or_one : (b : Bool) → (b || true) ≡ true
    or_one true = refl
    or_one false = refl

reached : (t p u : Tree) → Contains (order t) u → IsPart p u → Contains (order t) p
reached t p u c itself = c
reached t p u c (below {q = q} d h) = reached t p q (order_closed t u q c d) h

first_found : (t : Tree) → Contains (order t) t
first_found t =
    let b = order_begins t 0 (omega arith) in
    let first : Has (t ∷ []) t = rw (tree_eq_same t) refl in
    in_has (order t) t (ap (list_any (tree_eq t)) b.1 ∙ any_more (tree_eq t) (t ∷ []) b.0 first)

pub lists_parts : (t : Tree) → ListsParts t
lists_parts t =
    let all : (p : Tree) → Contains (parts t) p → Contains (order t) p = λ p c. reached t p t (first_found t) (IsPart-parts t p c) in
    let only : (p : Tree) → Contains (order t) p → Contains (parts t) p = λ p c. found_parts t (part_count t) p (has_in (order t) p c) in
    record {
      once = found_distinct t (part_count t);
      all = all;
      only = only;
      count = length-from_keys tree_equivalence (order t) (parts t) (found_distinct t (part_count t)) (λ q.
          same_from_decides _ _ (is_member-Decides tree_eq-Decides (order t) q) (
            (λ e. all q ((is_member-Decides tree_eq-Decides (parts t) q).0 e)),
            (λ c. (is_member-Decides tree_eq-Decides (parts t) q).1 (only q c)),
          ));
    }
