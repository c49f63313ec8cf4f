-- A walk over the applications in a value, one visit after the other.
use Rattle.std.proofs.Common.{◌≡◌, ◌+◌, ◌<◌, inl, inr, ℕ, Bool, true, false, List, [], ◌∷◌, ◌++◌, Option, Some}
use Rattle.std.proofs.Common.{None, IsSome, refl, sym, ap, subst, ◌∙◌, append_assoc, append-nil, arith}
use Rattle.std.specs.Prelude.{nat_eq, unwrap_or}
use Rattle.std.specs.List.{AllByRecursion, list_any}
use Rattle.std.proofs.lemmas.Bool.Decides.{Decides-eqb, same_from_decides}
use Rattle.indexmap.specs.IndexSet.{insert_key}
use Rattle.rx_term.specs.Tree.{Tree, list_of, none, tree_eq}
use Rattle.rx_term.specs.Steps.{IsSound}
use Rattle.rx_term.specs.Store.{Store, tree_at}
use Rattle.rx_term.specs.Walks.{held_tree}
use Rattle.rx_term.specs.declared.Term.{Term}
use Rattle.rx_term.proofs.TreeLemmas.{same_tree, tree_eq_same}
use Rattle.rx_render.proofs.OrderLemmas.{any_map, map_insert}
use Rattle.rec_stuck.specs.Stuck.{applications, different}
use Rattle.rec_stuck.specs.Inner.Visits.{AreThere, CanVisit, Enters, Walked, left_by, left_by_all, place_of}
use Rattle.rec_stuck.specs.Inner.Visits.{reference, trees_of, visits_by, visits_by_all}
use Rattle.rec_stuck.specs.declared.applications.Visit.{Visit}
use Rattle.rec_stuck.specs.declared.applications.Visit.TheVariants.{Enter, Leave}
use Rattle.rec_stuck.proofs.ApplicationLemmas.{IsAmong, different-append, left-before}

-- ---- visits behind others

left-both : (w : Store) (us vs : List Visit) → left_by_all w (us ++ vs) ≡ left_by_all w vs ++ left_by_all w us
left-both w [] vs = sym (append-nil (left_by_all w vs))
left-both w (u ∷ us) vs = ap (λ ts. ts ++ left_by w u) (left-both w us vs) ∙ append_assoc (left_by_all w vs) (left_by_all w us) (left_by w u)

visits-both : (w : Store) (us vs : List Visit) → visits_by_all w (us ++ vs) ≡ visits_by_all w us + visits_by_all w vs
visits-both w [] vs = omega arith
visits-both w (u ∷ us) vs = let k = visits-both w us vs in omega (arith, k)

can-both : (w : Store) (us vs : List Visit) → CanVisit w us → CanVisit w vs → CanVisit w (us ++ vs)
can-both w [] vs h k = k
can-both w (u ∷ us) vs h k = (h.0, can-both w us vs h.1 k)

can-front : (w : Store) (us vs : List Visit) → CanVisit w (us ++ vs) → CanVisit w us
can-front w [] vs h = tt
can-front w (u ∷ us) vs h = (h.0, can-front w us vs h.1)

can-back : (w : Store) (us vs : List Visit) → CanVisit w (us ++ vs) → CanVisit w vs
can-back w [] vs h = h
can-back w (u ∷ us) vs h = can-back w us vs h.1

-- the last of them goes to a place that is there
module _ (w : Store) (all vs : List Visit) (v : Visit) (is : all ≡ vs ++ v ∷ []) where
  pub last-can : CanVisit w all → IsSome (tree_at w (place_of v))
  last-can h = (can-back w vs (v ∷ []) (subst (CanVisit w) is h)).0

  pub others-can : CanVisit w all → CanVisit w vs
  others-can h = can-front w vs (v ∷ []) (subst (CanVisit w) is h)

  pub others-fewer : visits_by_all w vs + visits_by w v ≡ visits_by_all w all
  others-fewer = let k = ap (visits_by_all w) is ∙ visits-both w vs (v ∷ []) in omega (arith, k)

  left-last : left_by_all w all ≡ left_by w v ++ left_by_all w vs
  left-last = ap (left_by_all w) is ∙ left-both w vs (v ∷ [])

-- ---- references

held-at : (w : Store) (r : Term) → IsSome (tree_at w r) → tree_at w r ≡ Some (held_tree w r)
held-at w r h = by (tree_at w r) h
  where
    by : (o : Option Tree) → IsSome o → o ≡ Some (unwrap_or o (list_of none))
    by None e = absurd (cc e)
    by (Some u) e = refl

module _ (w : Store) (sound : IsSound w) where
  same-reference : (i j : ℕ) → IsSome (tree_at w (reference i)) → IsSome (tree_at w (reference j))
      → nat_eq i j ≡ tree_eq (held_tree w (reference i)) (held_tree w (reference j))
  same-reference i j h k =
      same_from_decides (nat_eq i j) (tree_eq (held_tree w (reference i)) (held_tree w (reference j))) (Decides-eqb i j) (
        (λ e. let same : held_tree w (reference j) ≡ held_tree w (reference i) =
            sym (same_tree (held_tree w (reference i)) (held_tree w (reference j)) e) in
            ap (λ (t : Term). t.0) (sound.one_to_one (reference i) (reference j) (held_tree w (reference i)) (held-at w (reference i) h)
            (held-at w (reference j) k ∙ ap (λ u. let o : Option Tree = Some u in o) same))),
        (λ e. subst (λ n. tree_eq (held_tree w (reference i)) (held_tree w (reference n)) ≡ true) e (tree_eq_same (held_tree w (reference i)))),
      )

  same-references : (i : ℕ) (ns : List ℕ) → IsSome (tree_at w (reference i)) → AreThere w ns
      → AllByRecursion (λ n. nat_eq i n ≡ tree_eq (held_tree w (reference i)) (held_tree w (reference n))) ns
  same-references i [] h hs = tt
  same-references i (n ∷ ns) h hs = (same-reference i n h hs.0, same-references i ns h hs.1)

there-last : (w : Store) (ns : List ℕ) (n : ℕ) → AreThere w ns → IsSome (tree_at w (reference n)) → AreThere w (ns ++ n ∷ [])
there-last w [] n hs h = (h, tt)
there-last w (m ∷ ns) n hs h = (hs.0, there-last w ns n hs.1 h)

pub there-inserted : (w : Store) (ns ms : List ℕ) (n : ℕ) → ms ≡ insert_key nat_eq ns n → AreThere w ns → IsSome (tree_at w (reference n)) → AreThere w ms
there-inserted w ns ms n is hs h = subst (AreThere w) (sym is) (by (list_any (nat_eq n) ns) refl)
  where
    by : (b : Bool) → list_any (nat_eq n) ns ≡ b → AreThere w (insert_key nat_eq ns n)
    by true e = rw e hs
    by false e = rw e (there-last w ns n hs h)

-- ---- from a visit to the next one

module _ (w : Store) (sound : IsSound w) (v : Tree) (left : List ℕ) (all vs : List Visit) (t : Term) (there : AreThere w left)
    (here : IsSome (tree_at w t)) where
  tests : AllByRecursion (λ n. nat_eq t.0 n ≡ tree_eq (held_tree w t) (held_tree w (reference n))) left
  tests = same-references w sound t.0 left here there

  -- an application is left
  pub walked-left : all ≡ vs ++ Leave t ∷ [] → (more : List ℕ) → more ≡ insert_key nat_eq left t.0 → Walked w v left all → Walked w v more vs
  walked-left is more keys k =
      let u = held_tree w t in
      record {
        before = k.before ++ u ∷ [];
        all = k.all ∙ ap (λ ts. k.before ++ ts) (left-last w all vs (Leave t) is) ∙ sym (append_assoc k.before (u ∷ []) (left_by_all w vs));
        trees = ap (trees_of w) keys ∙ map_insert (λ n. held_tree w (reference n)) nat_eq tree_eq left t.0 tests
            ∙ ap (λ ts. insert_key tree_eq ts u) k.trees ∙ sym (different-append k.before (u ∷ []));
      }

  -- a tree is gone into
  pub walked-in : all ≡ vs ++ Enter t ∷ [] → (new : List Visit) → Enters w t left vs new → Walked w v left all → Walked w v left new
  walked-in is new e k = elim e.leaves [
    | inl q ↦ record {
      before = k.before;
      all = k.all ∙ ap (λ ts. k.before ++ ts) (left-last w all vs (Enter t) is ∙ ap (λ ts. ts ++ left_by_all w vs) (sym q)
          ∙ sym (left-both w vs e.visits) ∙ ap (left_by_all w) (sym e.pushed));
      trees = k.trees;
    }
    | inr q ↦
        let u = held_tree w t in
        let last = left-last w all vs (Enter t) is in
        let among : IsAmong u (different k.before) = ap (list_any (tree_eq u)) (sym k.trees)
        ∙ sym (any_map (λ n. held_tree w (reference n)) (nat_eq t.0) (tree_eq u) left tests) ∙ q.0 in
        let same : new ≡ vs = e.pushed ∙ ap (λ us. vs ++ us) q.1 ∙ append-nil vs in
        let whole : applications v ≡ k.before ++ (applications u ++ left_by_all w vs) = k.all ∙ ap (λ ts. k.before ++ ts) last in
        record {
          before = k.before ++ applications u;
          all = whole ∙ sym (append_assoc k.before (applications u) (left_by_all w vs))
              ∙ ap (λ us. (k.before ++ applications u) ++ left_by_all w us) (sym same);
          trees = k.trees ∙ sym (different-append k.before (applications u) ∙ left-before v u k.before (applications u ++ left_by_all w vs) whole among);
        }
  ]

-- the places that follow are there, and the visits are fewer
pub entered-can : (w : Store) (t : Term) (left : List ℕ) (old new : List Visit) → Enters w t left old new → CanVisit w old → CanVisit w new
entered-can w t left old new e h = subst (CanVisit w) (sym e.pushed) (can-both w old e.visits h e.can)

pub entered-fewer : (w : Store) (t : Term) (left : List ℕ) (all old new : List Visit) → all ≡ old ++ Enter t ∷ [] → Enters w t left old new
    → visits_by_all w new < visits_by_all w all
entered-fewer w t left all old new is e =
    let a = ap (visits_by_all w) e.pushed ∙ visits-both w old e.visits in
    let b = others-fewer w all old (Enter t) is in
    let c = e.fewer in
    omega (arith, a, b, c)

-- at the beginning, and at the end
pub walk-begins : (w : Store) (value : Term) (visits : List Visit) (left : List ℕ) → visits ≡ [] ++ Enter value ∷ [] → left ≡ []
    → Walked w (held_tree w value) left visits
walk-begins w value visits left is none-left = rw (is, none-left) (record { before = []; all = refl; trees = refl })

pub walk-ends : (w : Store) (v : Tree) (left : List ℕ) (visits : List Visit) → visits ≡ [] → Walked w v left visits
    → trees_of w left ≡ different (applications v)
walk-ends w v left visits is k =
    let whole : applications v ≡ k.before = k.all ∙ ap (λ us. k.before ++ left_by_all w us) is ∙ append-nil k.before in
    k.trees ∙ ap different (sym whole)
