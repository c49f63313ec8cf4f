-- After all but one term was reclaimed, there are as many cells as the term has different parts.
use Rattle.std.proofs.Common.{ℕ, ◌≡◌, ◌<◌, ◌⊎◌, Bool, true, false, ◌&&◌, cond, T, List, [], ◌∷◌, Option, Some}
use Rattle.std.proofs.Common.{IsSome, IfSome, inl, inr, map, Contains, refl, sym, ap, subst, ◌∙◌, arith}
use Rattle.std.proofs.Common.{Ordering, Less, Equal, Greater}
use Rattle.std.specs.Ordering.{is_lt, is_eq, nat_cmp, eq_by_cmp}
use Rattle.std.specs.List.{AllByRecursion, IsDistinct}
use Rattle.std.specs.Set.{distinct_count}
use Rattle.std.specs.Cmp.{IsEquivalence, decided, ranked, nat_cmp_is}
use Rattle.std.specs.FinMap as map
use Rattle.std.specs.FinMap.Entries.{find, is_sorted, below_all}
use Rattle.std.proofs.lemmas.Bool.Decides.{same_from_decides}
use Rattle.std.proofs.lemmas.List.{length-map}
use Rattle.std.proofs.lemmas.Map.Made.{length-from_keys, is_member-Decides}
use Rattle.rx_term.specs.Tree.{Tree, tree_eq}
use Rattle.rx_term.specs.Parts.{parts, part_count}
use Rattle.rx_term.specs.Store.{Store, tree_at, cells}
use Rattle.rx_term.specs.Steps.{Reclaims, IsSound}
use Rattle.rx_term.specs.declared.Term.{Term}
use Rattle.rx_term.proofs.TreeLemmas.{tree_eq-Decides}
use Rattle.rx_term.proofs.StoreLemmas.{some-value}
use Rattle.rx_term.proofs.KeepLemmas.{kept-work, Keeps-Reclaims}
use Rattle.rx_term.proofs.PartsLemmas.{cons_cases, cons_head, cons_tail, no_element}

both : (a b : Bool) → T (a && b) → T a × T b
both true b h = (tt, h)
both false b h = absurd h

lower : (x y : ℕ) (r : Ordering) → r ≡ nat_cmp x y → T (is_lt r) → x < y
lower x y Less e h = ranked x y Less e
lower x y Equal e h = absurd h
lower x y Greater e h = absurd h

tied : (x y : ℕ) (r : Ordering) → r ≡ nat_cmp x y → is_eq r ≡ true → x ≡ y
tied x y Less e h = absurd (cc h)
tied x y Equal e h = ranked x y Equal e
tied x y Greater e h = absurd (cc h)

itself : (x : ℕ) → eq_by_cmp nat_cmp x x ≡ true
itself x = ap is_eq (sym (nat_cmp_is x x Equal refl))

apart : (k x : ℕ) → x < k → eq_by_cmp nat_cmp k x ≡ false
apart k x h = ap is_eq (sym (nat_cmp_is k x Greater h))

-- the trees of entries
abbrev pub trees : List (ℕ × Tree) → List Tree
trees es = map (λ e. e.1) es

-- a key that is found lies above each key below all
above : (x : ℕ) (es : List (ℕ × Tree)) → T (below_all nat_cmp x es) → (k : ℕ) (u : Tree) → find nat_cmp k es ≡ Some u → x < k
above x [] h k u q = absurd (cc q)
above x (e ∷ es) h k u q = by (eq_by_cmp nat_cmp k e.0) refl (above x es (both _ _ h).1 k u)
  where
    by : (b : Bool) → eq_by_cmp nat_cmp k e.0 ≡ b → (find nat_cmp k es ≡ Some u → x < k) → x < k
    by true t others = subst (λ z. x < z) (sym (tied k e.0 (nat_cmp k e.0) refl t)) (lower x e.0 (nat_cmp x e.0) refl (both _ _ h).0)
    by false t others = others (ap (λ b. cond b (Some e.1) (find nat_cmp k es)) (sym t) ∙ q)

-- what the later entries have is found among all
later : (e : ℕ × Tree) (es : List (ℕ × Tree)) → T (below_all nat_cmp e.0 es) → (k : ℕ) (u : Tree) → find nat_cmp k es ≡ Some u
    → find nat_cmp k (e ∷ es) ≡ Some u
later e es h k u q = ap (λ b. cond b (Some e.1) (find nat_cmp k es)) (apart k e.0 (above e.0 es h k u q)) ∙ q

first_found : (e : ℕ × Tree) (es : List (ℕ × Tree)) → find nat_cmp e.0 (e ∷ es) ≡ Some e.1
first_found e es = ap (λ b. cond b (Some e.1) (find nat_cmp e.0 es)) (itself e.0)

-- the first key is below the others, and these rise
rising : (e : ℕ × Tree) (es : List (ℕ × Tree)) → T (is_sorted nat_cmp (e ∷ es)) → T (below_all nat_cmp e.0 es) × T (is_sorted nat_cmp es)
rising e es s = both (below_all nat_cmp e.0 es) (is_sorted nat_cmp es) s

-- each tree is found at some key
found : (es : List (ℕ × Tree)) → T (is_sorted nat_cmp es) → (u : Tree) → Contains (trees es) u → (k : ℕ) × (find nat_cmp k es ≡ Some u)
found [] s u c = absurd (no_element u c)
found (e ∷ es) s u c = elim (cons_cases e.1 (trees es) u c) [
  | inl q ↦ (e.0, first_found e es ∙ ap (λ v. let y : Option Tree = Some v in y) q)
  | inr m ↦ (let r = found es (rising e es s).1 u m in (r.0, later e es (rising e es s).0 r.0 u r.1))
]

some_same : (v u : Tree) → Some v ≡ Some u → v ≡ u
some_same v u q = cc q

-- and what is found is one of them
pub listed : (es : List (ℕ × Tree)) (k : ℕ) (u : Tree) → find nat_cmp k es ≡ Some u → Contains (trees es) u
listed [] k u q = absurd (cc q)
listed (e ∷ es) k u q = by (eq_by_cmp nat_cmp k e.0) refl (listed es k u)
  where
    by : (b : Bool) → eq_by_cmp nat_cmp k e.0 ≡ b → (find nat_cmp k es ≡ Some u → Contains (trees es) u) → Contains (trees (e ∷ es)) u
    by true t others = subst (λ z. Contains (trees (e ∷ es)) z) (some_same e.1 u (ap (λ b. cond b (Some e.1) (find nat_cmp k es)) (sym t) ∙ q))
        (cons_head e.1 (trees es))
    by false t others = cons_tail e.1 (trees es) u (others (ap (λ b. cond b (Some e.1) (find nat_cmp k es)) (sym t) ∙ q))

-- what holds of each element holds of all
each : (P : Tree → Type 0) (ts : List Tree) → ((u : Tree) → Contains ts u → P u) → AllByRecursion P ts
each P [] h = tt
each P (t ∷ ts) h = (h t (cons_head t ts), each P ts (λ u c. h u (cons_tail t ts u c)))

pub different : (t u : Tree) → (t ≡ u → ⊥) → tree_eq t u ≡ false
different t u n = by (tree_eq t u) refl
  where
    by : (b : Bool) → tree_eq t u ≡ b → tree_eq t u ≡ false
    by true e = absurd (n ((tree_eq-Decides t u).0 e))
    by false e = e

-- each key has a tree of its own
abbrev OneKey : List (ℕ × Tree) → Type 0
OneKey es = (i j : ℕ) (u : Tree) → find nat_cmp i es ≡ Some u → find nat_cmp j es ≡ Some u → i ≡ j

distinct : (es : List (ℕ × Tree)) → T (is_sorted nat_cmp es) → OneKey es → IsDistinct tree_eq (trees es)
unfolding IsDistinct
distinct [] s one = tt
distinct (e ∷ es) s one =
    let below = (rising e es s).0 in
    let differs : (u : Tree) → Contains (trees es) u → tree_eq e.1 u ≡ false = λ u c. (
    let r = found es (rising e es s).1 u c in
    different e.1 u (λ q.
    let same : e.0 ≡ r.0 = one e.0 r.0 u (first_found e es ∙ ap (λ v. let y : Option Tree = Some v in y) q) (later e es below r.0 u r.1) in
    let less = above e.0 es below r.0 u r.1 in
    omega (arith, same, less))) in (
      each (λ u. tree_eq e.1 u ≡ false) (trees es) differs,
      distinct es (rising e es s).1 (λ i j u p q.
          one i j u (later e es below i u p) (later e es below j u q)),
    )

pub tree_equivalence : IsEquivalence tree_eq
tree_equivalence = decided tree_eq tree_eq-Decides

-- a one-to-one map whose values are the elements of a list has as many keys as the list has different elements
len-distinct : (m : map.FinMap nat_cmp Tree) (ts : List Tree) → ((i j : ℕ) (u : Tree) → map.get m i ≡ Some u → map.get m j ≡ Some u → i ≡ j)
    → ((i : ℕ) (u : Tree) → map.get m i ≡ Some u → Contains ts u) → ((u : Tree) → Contains ts u → (i : ℕ) × (map.get m i ≡ Some u))
    → map.len m ≡ distinct_count tree_eq ts
len-distinct m ts one within has =
    let es = map.entries m in
    let s = map.entries_sorted m in
    let at : (i : ℕ) (u : Tree) → find nat_cmp i es ≡ Some u → map.get m i ≡ Some u = λ i u q. map.get-entries m i ∙ q in
    map.len-entries m ∙ sym (length-map es (λ e. e.1)) ∙ length-from_keys tree_equivalence (trees es) ts
    (distinct es s (λ i j u p q. one i j u (at i u p) (at j u q)))
    (λ u. same_from_decides _ _ (is_member-Decides tree_eq-Decides (trees es) u) (
      (λ e. let r = has u ((is_member-Decides tree_eq-Decides ts u).0 e) in listed es r.0 u (sym (map.get-entries m r.0) ∙ r.1)),
      (λ c. let r = found es s u c in (is_member-Decides tree_eq-Decides ts u).1 (within r.0 u (at r.0 u r.1))),
    ))

-- the parts of the one term that is kept
module _ (old new : Store) (t : Term) (u : Tree) (here : tree_at old t ≡ Some u) (unrooted : (r : ℕ) → old.roots r ≡ 0) (sound : IsSound old)
    (sound_after : IsSound new) (reclaimed : Reclaims old new (t ∷ [])) where
  kept_root : Contains (t ∷ []) t
  kept_root = cons_head t []

  inside : (i : ℕ) (v : Tree) → map.get new.content i ≡ Some v → Contains (parts u) v
  inside i v e =
      let o = (reclaimed.only (record { 0 = i }) v e).1 in
      by o.0 o.1.0 o.1.2 o.1.3 o.1.1
    where
      by : (r : Term) (w : Tree) → tree_at old r ≡ Some w → Contains (parts w) v → ((0 < old.roots r.0) ⊎ Contains (t ∷ []) r) → Contains (parts u) v
      by r w at c k = elim k [
        | inl p ↦ (let z = unrooted r.0 in absurd (omega (arith, z, p)))
        | inr p ↦ elim (cons_cases t [] r p) [
          | inl q ↦ subst (λ x. Contains (parts x) v) (some_same w u (sym at ∙ ap (tree_at old) (sym q) ∙ here)) c
          | inr n ↦ absurd (no_element r n)
        ]
      ]

  held : (v : Tree) → Contains (parts u) v → (i : ℕ) × (map.get new.content i ≡ Some v)
  held v c =
      let s = sound.closed t u v here c in
      (s.0.0, reclaimed.kept s.0 v s.1 (t, (u, inr kept_root, here, c)))

  pub counted_parts : cells new ≡ part_count u
  counted_parts = len-distinct new.content (parts u) (λ i j v p q.
      ap (λ (x : Term). x.0) (sound_after.one_to_one (record { 0 = i }) (record { 0 = j }) v p q)) inside held

-- the same of a count that is that of the cells
pub counted_held : (old new : Store) (t : Term) (n : ℕ) → IsSome (tree_at old t) → ((r : ℕ) → old.roots r ≡ 0) → IsSound old → IsSound new
    → Reclaims old new (t ∷ []) → n ≡ cells new → IfSome (tree_at old t) (λ u. n ≡ part_count u)
counted_held old new t n held unrooted sound sound_after reclaimed e =
    let x = some-value (tree_at old t) held in
    subst (λ o. IfSome o (λ u. n ≡ part_count u)) (sym x.1) (e ∙ counted_parts old new t x.0 x.1 unrooted sound sound_after reclaimed)

-- the term itself stays
pub kept_alone : (old new : Store) (t : Term) → IsSome (tree_at old t) → Reclaims old new (t ∷ []) → tree_at new t ≡ tree_at old t
kept_alone old new t held reclaimed = kept-work (Keeps-Reclaims reclaimed) t (cons_head t []) held
