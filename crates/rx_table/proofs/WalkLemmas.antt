-- A walk over the subterms of a tree, one visit after the other.
use Rattle.std.proofs.Common.{◌≡◌, ℕ, zero, suc, ◌+◌, ◌*◌, ◌<◌, ◌≤◌, Bool, true, false, cond, List, [], ◌∷◌, ◌++◌}
use Rattle.std.proofs.Common.{Option, Some, None, IsSome, refl, sym, ap, subst, ◌∙◌, append_assoc, append-nil, length, length-append, flat_map, map, arith}
use Rattle.std.proofs.Common.{drop, get_or, take, take-append-drop}
use Rattle.std.proofs.lemmas.List.{drop-map, drop_at, get_or_append_left, length-map, take-map, take_at}
use Rattle.std.proofs.lemmas.Grind.{flat_map-append}
use borrow.Author.Tests.{ltb-true}
use Rattle.std.specs.Prelude.{nat_eq, nat_lt, position, unwrap_or}
use Rattle.std.specs.List.{AllByRecursion, list_any, position_or_len}
use Rattle.std.proofs.lemmas.Bool.Decides.{Decides-eqb, same_from_decides}
use Rattle.indexmap.specs.IndexSet.{insert_key, insert_all}
use Rattle.rx_term.specs.Tree.{Tree, Trees, Int, Appl, Items, Hole, none, more, annotations, items_of, list_of, to_list, tree_eq}
use Rattle.rx_term.specs.Store.{Store, tree_at, part_at, head_of, tail_of}
use Rattle.rx_term.specs.Steps.{IsSound, Grows}
use Rattle.rx_term.specs.Kinds.{HasCons}
use Rattle.rx_term.specs.Walks.{HaveTrees, held_tree}
use Rattle.rx_term.specs.declared.Term.{Term}
use Rattle.rx_term.proofs.TreeLemmas.{same_tree, tree_eq_same}
use Rattle.rx_table.specs.Table.{different, direct, subterms, subterms_all}
use Rattle.rx_table.specs.Inner.Walk.{AreBelow, AreThere, AreAmong, CanVisit, EndsIn, Enters, Fits, FitsOne, HasParts, Indexed, IsAmong, IsList, Leaves, Pushes}
use Rattle.rx_table.specs.Inner.Walk.{Walked, after, after_all, body_items, bounds_of, left_by, left_by_all, part_tree, place_of, term_of, trees_at, trees_of}
use Rattle.rx_table.specs.Inner.Walk.{visits_by, visits_by_all}
use Rattle.rx_table.specs.declared.walk.Parts.{Parts}
use Rattle.rx_table.specs.declared.walk.Visit.{Visit}
use Rattle.rx_table.specs.declared.walk.Visit.TheVariants.{Enter, Leave}
use Rattle.rx_table.proofs.SubtermLemmas.{all-both, all-left, all-right, among-different, are-different, begun-subterms, inside, subterms-inside}

-- ---- references

pub held-at : (w : Store) (r : Term) → IsSome (tree_at w r) → tree_at w r ≡ Some (held_tree w r)
held-at w r h = by (tree_at w r) h
  where
    by : (o : Option Tree) → IsSome o → o ≡ Some (unwrap_or o (list_of none))
    by None e = absurd (cc e)
    by (Some u) e = refl

pub held-is : (w : Store) (r : Term) (u : Tree) → tree_at w r ≡ Some u → held_tree w r ≡ u
held-is w r u e = ap (λ o. unwrap_or o (list_of none)) e

pub some-tree : (w : Store) (r : Term) (u : Tree) → tree_at w r ≡ Some u → IsSome (tree_at w r)
some-tree w r u e = rw e refl

pub have-both : (w : Store) (rs bs : List Term) (ts us : List Tree) → HaveTrees w rs ts → HaveTrees w bs us → HaveTrees w (rs ++ bs) (ts ++ us)
have-both w [] bs [] us h k = k
have-both w (a ∷ rs) bs (t ∷ ts) us h k = (h.0, have-both w rs bs ts us h.1 k)
have-both w [] bs (t ∷ ts) us h k = absurd h
have-both w (a ∷ rs) bs [] us h k = absurd h

pub record HaveLast (w : Store) (rs : List Term) (r : Term) (ts : List Tree) : Type 0 where
  pub front : List Tree
  pub last : Tree
  pub is : ts ≡ front ++ last ∷ []
  pub have : HaveTrees w rs front
  pub here : tree_at w r ≡ Some last

pub have-last : (w : Store) (rs : List Term) (r : Term) (ts : List Tree) → HaveTrees w (rs ++ r ∷ []) ts → HaveLast w rs r ts
have-last w [] r [] h = absurd h
have-last w [] r (t ∷ []) h = record { front = []; last = t; is = refl; have = tt; here = h.0 }
have-last w [] r (t ∷ u ∷ ts) h = absurd h.1
have-last w (a ∷ rs) r [] h = absurd h
have-last w (a ∷ rs) r (t ∷ ts) h =
    let k = have-last w rs r ts h.1 in
    record { front = t ∷ k.front; last = k.last; is = ap (λ z. t ∷ z) k.is; have = (h.0, k.have); here = k.here }

pub have-none : (w : Store) (ts : List Tree) → HaveTrees w [] ts → ts ≡ []
have-none w [] h = refl
have-none w (t ∷ ts) h = absurd h

pub have-grown : (w v : Store) → Grows w v → (rs : List Term) (ts : List Tree) → HaveTrees w rs ts → HaveTrees v rs ts
have-grown w v g [] [] h = tt
have-grown w v g (r ∷ rs) (t ∷ ts) h = (g.trees r t h.0, have-grown w v g rs ts h.1)
have-grown w v g [] (t ∷ ts) h = absurd h
have-grown w v g (r ∷ rs) [] h = absurd h

-- ---- the items of a list

abbrev pub items_at : Store → Term → List Tree
items_at w r = to_list (items_of (held_tree w r))

pub record Taken (w : Store) (list rest : Term) (old new : List Term) : Type 0 where
  pub added : List Term
  pub front : List Tree
  pub is : new ≡ old ++ added
  pub have : HaveTrees w added front
  pub whole : items_at w list ≡ front ++ items_at w rest
  pub here : IsList w rest

pub taken-begins : (w : Store) (list : Term) (old : List Term) → IsList w list → Taken w list list old old
taken-begins w list old h = record { added = []; front = []; is = sym (append-nil old); have = tt; whole = refl; here = h }

module _ (w : Store) (rest head tail : Term) (c : HasCons w rest) (at_head : tree_at w head ≡ part_at head_of w rest)
    (at_tail : tree_at w tail ≡ part_at tail_of w rest) where
  first-is : tree_at w head ≡ Some c.first
  first-is = let here = c.here in rw here at at_head

  rest-is : tree_at w tail ≡ Some (list_of c.rest)
  rest-is = let here = c.here in rw here at at_tail

  items-next : items_at w rest ≡ c.first ∷ items_at w tail
  items-next =
      let a = held-is w rest (Items (more c.first c.rest) c.anns) c.here in
      let b = held-is w tail (list_of c.rest) rest-is in
      rw (a, b) refl

  pub taken-next : (list : Term) (old now new : List Term) → Taken w list rest old now → new ≡ now ++ head ∷ [] → Taken w list tail old new
  taken-next list old now new k e = record {
    added = k.added ++ head ∷ [];
    front = k.front ++ c.first ∷ [];
    is = e ∙ ap (λ z. z ++ head ∷ []) k.is ∙ append_assoc old k.added (head ∷ []);
    have = have-both w k.added (head ∷ []) k.front (c.first ∷ []) k.have (first-is, tt);
    whole = k.whole ∙ ap (λ z. k.front ++ z) items-next ∙ sym (append_assoc k.front (c.first ∷ []) (items_at w tail));
    here = (c.rest, (none, rest-is));
  }

-- ---- one step inside

pub direct-both : (t : Tree) → direct t ≡ body_items t ++ to_list (annotations t)
direct-both (Int z anns) = refl
direct-both (Appl name quoted args anns) = refl
direct-both (Items items anns) = refl
direct-both (Hole inner anns) = refl

pub pushes-both : (w : Store) (old mid new : List Term) (xs ys : List Tree) → Pushes w old mid xs → Pushes w mid new ys → Pushes w old new (xs ++ ys)
pushes-both w old mid new xs ys (rs, e, h) (bs, f, k) = (rs ++ bs, f ∙ ap (λ z. z ++ bs) e ∙ append_assoc old rs bs, have-both w rs bs xs ys h k)

-- what was pushed when there was nothing
pub pushes-all : (w : Store) (old new : List Term) (ts : List Tree) → old ≡ [] → Pushes w old new ts → HaveTrees w new ts
pushes-all w old new ts q (added, e, h) = subst (λ z. HaveTrees w z ts) (sym (e ∙ ap (λ z. z ++ added) q)) h

-- ---- visits after others

left-both : (w : Store) (us vs : List Visit) → left_by_all w (us ++ vs) ≡ left_by_all w vs ++ left_by_all w us
left-both w [] vs = sym (append-nil (left_by_all w vs))
left-both w (u ∷ us) vs = ap (λ ts. ts ++ left_by w u) (left-both w us vs) ∙ append_assoc (left_by_all w vs) (left_by_all w us) (left_by w u)

visits-both : (w : Store) (us vs : List Visit) → visits_by_all w (us ++ vs) ≡ visits_by_all w us + visits_by_all w vs
visits-both w [] vs = omega arith
visits-both w (u ∷ us) vs = let k = visits-both w us vs in omega (arith, k)

can-both : (w : Store) (us vs : List Visit) → CanVisit w us → CanVisit w vs → CanVisit w (us ++ vs)
can-both w us vs h k = all-both (λ v. IsSome (tree_at w (place_of v))) us vs h k

module _ (w : Store) (all vs : List Visit) (v : Visit) (is : all ≡ vs ++ v ∷ []) where
  pub last-can : CanVisit w all → IsSome (tree_at w (place_of v))
  last-can h = (all-right (λ v. IsSome (tree_at w (place_of v))) vs (v ∷ []) (subst (CanVisit w) is h)).0

  pub others-can : CanVisit w all → CanVisit w vs
  others-can h = all-left (λ v. IsSome (tree_at w (place_of v))) vs (v ∷ []) (subst (CanVisit w) is h)

  pub others-fewer : visits_by_all w vs + visits_by w v ≡ visits_by_all w all
  others-fewer = let k = ap (visits_by_all w) is ∙ visits-both w vs (v ∷ []) in omega (arith, k)

  left-last : left_by_all w all ≡ left_by w v ++ left_by_all w vs
  left-last = ap (left_by_all w) is ∙ left-both w vs (v ∷ [])

-- ---- finished trees

after-both : (w : Store) (us vs : List Visit) (ts : List Tree) → after_all w (us ++ vs) ts ≡ after_all w us (after_all w vs ts)
after-both w [] vs ts = refl
after-both w (u ∷ us) vs ts = ap (after w u) (after-both w us vs ts)

fits-joined : (w : Store) (us vs : List Visit) (ts : List Tree) → Fits w vs ts → Fits w us (after_all w vs ts) → Fits w (us ++ vs) ts
fits-joined w [] vs ts h k = h
fits-joined w (u ∷ us) vs ts h k = (fits-joined w us vs ts h k.0, subst (FitsOne w u) (sym (after-both w us vs ts)) k.1)

fits-others : (w : Store) (us vs : List Visit) (ts : List Tree) → Fits w (us ++ vs) ts → Fits w us (after_all w vs ts)
fits-others w [] vs ts h = tt
fits-others w (u ∷ us) vs ts h = (fits-others w us vs ts h.0, subst (FitsOne w u) (after-both w us vs ts) h.1)

fits-last : (w : Store) (us : List Visit) (v : Visit) (ts : List Tree) → Fits w (us ++ v ∷ []) ts → FitsOne w v ts
fits-last w [] v ts h = h.1
fits-last w (u ∷ us) v ts h = fits-last w us v ts h.0

-- ---- a tree is entered

flat-all : (ts : Trees) → subterms_all ts ≡ flat_map subterms (to_list ts)
flat-all none = refl
flat-all (more t ts) = ap (λ z. subterms t ++ z) (flat-all ts)

pub flat-inside : (t : Tree) → inside t ≡ flat_map subterms (direct t)
flat-inside (Int z anns) = flat-all anns
flat-inside (Appl name quoted args anns) = let a = flat-all args in let b = flat-all anns in rw (a, b) (sym (flat_map-append subterms (to_list args) (to_list anns)))
flat-inside (Items items anns) = let a = flat-all items in let b = flat-all anns in rw (a, b) (sym (flat_map-append subterms (to_list items) (to_list anns)))
flat-inside (Hole inner anns) = ap (λ z. subterms inner ++ z) (flat-all anns)

pub record Entering (w : Store) (t : Term) (start : ℕ) (left : List Term) (old new : List Visit) : Type 0 where
  pub front : List Tree
  pub back : List Tree
  pub whole : direct (held_tree w t) ≡ front ++ back
  pub have : HaveTrees w left front
  pub entered : List Visit
  pub is : new ≡ old ++ Leave t start ∷ entered
  pub can : CanVisit w entered
  pub leaves : left_by_all w entered ≡ flat_map subterms back
  pub count : visits_by_all w entered ≡ 2 * length (flat_map subterms back)
  pub adds : (ts : List Tree) → Fits w entered ts × (after_all w entered ts ≡ ts ++ back)

pub entering-begins : (w : Store) (t : Term) (start : ℕ) (left : List Term) (old new : List Visit) → HaveTrees w left (direct (held_tree w t))
    → new ≡ old ++ Leave t start ∷ [] → Entering w t start left old new
entering-begins w t start left old new h e = record {
  front = direct (held_tree w t);
  back = [];
  whole = sym (append-nil (direct (held_tree w t)));
  have = h;
  entered = [];
  is = e;
  can = tt;
  leaves = refl;
  count = refl;
  adds = λ ts. (tt, sym (append-nil ts));
}

pub entering-next : (w : Store) (t k : Term) (start : ℕ) (left less : List Term) (old now new : List Visit) → Entering w t start left old now
    → left ≡ less ++ k ∷ [] → new ≡ now ++ Enter k ∷ [] → Entering w t start less old new
entering-next w t k start left less old now new h e f =
    let l = have-last w less k h.front (subst (λ z. HaveTrees w z h.front) e h.have) in
    let same : held_tree w k ≡ l.last = held-is w k l.last l.here in
    let one = Enter k ∷ [] in
    record {
      front = l.front;
      back = l.last ∷ h.back;
      whole = h.whole ∙ ap (λ z. z ++ h.back) l.is ∙ append_assoc l.front (l.last ∷ []) h.back;
      have = l.have;
      entered = h.entered ++ one;
      is = f ∙ ap (λ z. z ++ one) h.is ∙ append_assoc old (Leave t start ∷ h.entered) one;
      can = can-both w h.entered one h.can (some-tree w k l.last l.here, tt);
      leaves = left-both w h.entered one ∙ ap (λ z. subterms z ++ left_by_all w h.entered) same ∙ ap (λ z. subterms l.last ++ z) h.leaves;
      count =
          let a = visits-both w h.entered one in
          let b = ap (λ z. length (subterms z)) same in
          let c = length-append (subterms l.last) (flat_map subterms h.back) in
          let d = h.count in
          omega (arith, a, b, c, d);
      adds = λ ts.
          let a = h.adds (ts ++ held_tree w k ∷ []) in (
            fits-joined w h.entered one ts (tt, tt) a.0,
            after-both w h.entered one ts ∙ a.1 ∙ append_assoc ts (held_tree w k ∷ []) h.back ∙ ap (λ z. ts ++ z ∷ h.back) same,
          );
    }

pub entering-ends : (w : Store) (t : Term) (start : ℕ) (left : List Term) (old new : List Visit) → IsSome (tree_at w t) → Entering w t start left old new
    → left ≡ [] → Enters w t start old new
entering-ends w t start left old new held h e =
    let none-left : h.front ≡ [] = have-none w h.front (subst (λ z. HaveTrees w z h.front) e h.have) in
    let all : direct (held_tree w t) ≡ h.back = h.whole ∙ ap (λ z. z ++ h.back) none-left in
    let inner : inside (held_tree w t) ≡ flat_map subterms h.back = flat-inside (held_tree w t) ∙ ap (flat_map subterms) all in
    let tree : subterms (held_tree w t) ≡ flat_map subterms h.back ++ held_tree w t ∷ [] = subterms-inside (held_tree w t)
    ∙ ap (λ z. z ++ held_tree w t ∷ []) inner in
    record {
      visits = Leave t start ∷ h.entered;
      pushed = h.is;
      can = (held, h.can);
      leaves = ap (λ z. z ++ held_tree w t ∷ []) h.leaves ∙ sym tree;
      fewer =
          let a = h.count in
          let b = ap length tree ∙ length-append (flat_map subterms h.back) (held_tree w t ∷ []) in
          omega (arith, a, b);
      fits = λ ts is.
          let a = h.adds ts in (
            (a.0, (ts, a.1 ∙ ap (λ z. ts ++ z) (sym all), is)),
            ap (λ z. take start z ++ held_tree w t ∷ []) a.1 ∙ ap (λ z. z ++ held_tree w t ∷ []) (take_at ts h.back start is),
          );
    }

-- ---- references and trees

module _ (w : Store) (sound : IsSound w) where
  pub same-reference : (i j : ℕ) → IsSome (tree_at w (term_of i)) → IsSome (tree_at w (term_of j))
      → nat_eq i j ≡ tree_eq (held_tree w (term_of i)) (held_tree w (term_of j))
  same-reference i j h k =
      same_from_decides (nat_eq i j) (tree_eq (held_tree w (term_of i)) (held_tree w (term_of j))) (Decides-eqb i j) (
        (λ e. let same : held_tree w (term_of j) ≡ held_tree w (term_of i) =
            sym (same_tree (held_tree w (term_of i)) (held_tree w (term_of j)) e) in
            ap (λ (t : Term). t.0) (sound.one_to_one (term_of i) (term_of j) (held_tree w (term_of i)) (held-at w (term_of i) h)
            (held-at w (term_of j) k ∙ ap (λ u. let o : Option Tree = Some u in o) same))),
        (λ e. subst (λ n. tree_eq (held_tree w (term_of i)) (held_tree w (term_of n)) ≡ true) e (tree_eq_same (held_tree w (term_of i)))),
      )

  pub same-references : (i : ℕ) (ns : List ℕ) → IsSome (tree_at w (term_of i)) → AreThere w ns
      → AllByRecursion (λ n. nat_eq i n ≡ tree_eq (held_tree w (term_of i)) (held_tree w (term_of n))) ns
  same-references i [] h hs = tt
  same-references i (n ∷ ns) h hs = (same-reference i n h hs.0, same-references i ns h hs.1)

pub there-inserted : (w : Store) (ns ms : List ℕ) (n : ℕ) → ms ≡ insert_key nat_eq ns n → AreThere w ns → IsSome (tree_at w (term_of n)) → AreThere w ms
there-inserted w ns ms n is hs h = subst (AreThere w) (sym is) (by (list_any (nat_eq n) ns) refl)
  where
    by : (b : Bool) → list_any (nat_eq n) ns ≡ b → AreThere w (insert_key nat_eq ns n)
    by true e = rw e hs
    by false e = rw e (all-both (λ n. IsSome (tree_at w (term_of n))) ns (n ∷ []) hs (h, tt))

-- ---- under a map

pub any-map : {X Y : Type 0} (f : X → Y) (p : X → Bool) (q : Y → Bool) (xs : List X) → AllByRecursion (λ x. p x ≡ q (f x)) xs
    → list_any p xs ≡ list_any q (map f xs)
any-map f p q [] h = refl
any-map f p q (x ∷ xs) h = let a = h.0 in let b = any-map f p q xs h.1 in rw (a, b) refl

pub map-both : {X Y : Type 0} (f : X → Y) (xs ys : List X) → map f (xs ++ ys) ≡ map f xs ++ map f ys
map-both f [] ys = refl
map-both f (x ∷ xs) ys = ap (λ zs. f x ∷ zs) (map-both f xs ys)

pub map-insert : {X Y : Type 0} (f : X → Y) (eq : X → X → Bool) (other : Y → Y → Bool) (xs : List X) (x : X)
    → AllByRecursion (λ y. eq x y ≡ other (f x) (f y)) xs → map f (insert_key eq xs x) ≡ insert_key other (map f xs) (f x)
map-insert f eq other xs x h = by (list_any (eq x) xs) refl
  where
    same : list_any (eq x) xs ≡ list_any (other (f x)) (map f xs)
    same = any-map f (eq x) (other (f x)) xs h

    by : (b : Bool) → list_any (eq x) xs ≡ b → map f (insert_key eq xs x) ≡ insert_key other (map f xs) (f x)
    by true e = let k = sym same ∙ e in rw (e, k) refl
    by false e = let k = sym same ∙ e in rw (e, k) (map-both f xs (x ∷ []))

pub inserted-both : (xs ys zs : List Tree) → insert_all tree_eq xs (ys ++ zs) ≡ insert_all tree_eq (insert_all tree_eq xs ys) zs
inserted-both xs [] zs = refl
inserted-both xs (y ∷ ys) zs = inserted-both (insert_key tree_eq xs y) ys zs

all-there : (ks xs : List Tree) → AreAmong xs ks → insert_all tree_eq ks xs ≡ ks
all-there ks [] h = refl
all-there ks (x ∷ xs) h = let first = h.0 in let same : insert_key tree_eq ks x ≡ ks = (rw first refl) in
    ap (λ ts. insert_all tree_eq ts xs) same ∙ all-there ks xs h.1

-- ---- references at indices

below-more : (n m : ℕ) (is : List ℕ) → n ≤ m → AreBelow n is → AreBelow m is
below-more n m [] le h = tt
below-more n m (i ∷ is) le h = (let a = h.0 in omega (arith, a, le), below-more n m is le h.1)

pub below-taken : (n k : ℕ) (is : List ℕ) → AreBelow n is → AreBelow n (take k is)
below-taken n k is h = all-left (λ i. i < n) (take k is) (drop k is) (subst (AreBelow n) (sym (take-append-drop k is)) h)

pub below-dropped : (n k : ℕ) (is : List ℕ) → AreBelow n is → AreBelow n (drop k is)
below-dropped n k is h = all-right (λ i. i < n) (take k is) (drop k is) (subst (AreBelow n) (sym (take-append-drop k is)) h)

-- the references at indices, when others follow
at-longer : (w : Store) (ns rest is : List ℕ) → AreBelow (length ns) is → trees_at w (ns ++ rest) is ≡ trees_at w ns is
at-longer w ns rest [] h = refl
at-longer w ns rest (i ∷ is) h =
    let a = get_or_append_left ns rest 0 i h.0 in
    ap (λ n. held_tree w (term_of n) ∷ trees_at w (ns ++ rest) is) a ∙ ap (λ z. part_tree w ns i ∷ z) (at-longer w ns rest is h.1)

inserted-more : (ns : List ℕ) (n : ℕ) → (rest : List ℕ) × (insert_key nat_eq ns n ≡ ns ++ rest)
inserted-more ns n = by (list_any (nat_eq n) ns) refl
  where
    by : (b : Bool) → list_any (nat_eq n) ns ≡ b → (rest : List ℕ) × (insert_key nat_eq ns n ≡ ns ++ rest)
    by true e = ([], rw e (sym (append-nil ns)))
    by false e = (n ∷ [], rw e refl)

-- ---- references that are inserted or found

place-holds : (n : ℕ) (ns : List ℕ) → position_or_len (nat_eq n) ns < length ns
    → (get_or ns (position_or_len (nat_eq n) ns) 0 ≡ n) × (list_any (nat_eq n) ns ≡ true)
place-holds n [] lt = absurd (omega (arith, lt))
place-holds n (m ∷ ms) lt = by (nat_eq n m) refl (place-holds n ms)
  where
    next-get : (k : ℕ) → get_or (m ∷ ms) (1 + k) 0 ≡ get_or ms k 0
    next-get k = let s : 1 + k ≡ suc k = omega arith in rw s refl

    fewer : nat_eq n m ≡ false → position_or_len (nat_eq n) ms < length ms
    fewer q = let k : 1 + position_or_len (nat_eq n) ms < suc (length ms) = rw q at lt in omega (arith, k)

    by : (b : Bool) → nat_eq n m ≡ b
        → (position_or_len (nat_eq n) ms < length ms → (get_or ms (position_or_len (nat_eq n) ms) 0 ≡ n) × (list_any (nat_eq n) ms ≡ true))
        → (get_or (m ∷ ms) (position_or_len (nat_eq n) (m ∷ ms)) 0 ≡ n) × (list_any (nat_eq n) (m ∷ ms) ≡ true)
    by true q later = rw q (sym ((Decides-eqb n m).0 q), refl)
    by false q later = let k = later (fewer q) in rw q (next-get (position_or_len (nat_eq n) ms) ∙ k.0, k.1)

pub record IsFound (ns : List ℕ) (n i : ℕ) : Type 0 where
  pub within : i < length ns
  pub at : get_or ns i 0 ≡ n
  pub had : list_any (nat_eq n) ns ≡ true

-- a reference that was found
pub position-found : (ns : List ℕ) (n i : ℕ) → position (nat_eq n) ns ≡ Some i → IsFound ns n i
position-found ns n i e = by (nat_lt (position_or_len (nat_eq n) ns) (length ns)) refl
  where
    place : ℕ
    place = position_or_len (nat_eq n) ns

    by : (b : Bool) → nat_lt (position_or_len (nat_eq n) ns) (length ns) ≡ b → IsFound ns n i
    by true k =
        let q : Some place ≡ Some i = sym (ap (λ b. cond b (Some place) None) k) ∙ e in
        let same : place ≡ i = cc q in
        let lt = ltb-true place (length ns) k in
        let h = place-holds n ns lt in
        record { within = subst (λ j. j < length ns) same lt; at = subst (λ j. get_or ns j 0 ≡ n) same h.0; had = h.1 }
    by false k = absurd (let q : None ≡ Some i = sym (ap (λ b. cond b (Some place) None) k) ∙ e in cc q)

-- where the trees inside of each tree begin
bounds-more : (n : ℕ) (ts : List Tree) (t : Tree) → bounds_of n (ts ++ t ∷ []) ≡ bounds_of n ts ++ (n + length (flat_map direct (ts ++ t ∷ []))) ∷ []
bounds-more n [] t =
    let a = ap length (append-nil (direct t)) in
    ap (λ z. n ∷ (n + z) ∷ []) (sym a)
bounds-more n (u ∷ us) t =
    let k = bounds-more (n + length (direct u)) us t in
    let a = length-append (direct u) (flat_map direct (us ++ t ∷ [])) in
    let same : (n + length (direct u)) + length (flat_map direct (us ++ t ∷ [])) ≡ n + length (direct u ++ flat_map direct (us ++ t ∷ [])) = omega (arith, a) in
    ap (λ z. n ∷ z) k ∙ ap (λ z. n ∷ (bounds_of (n + length (direct u)) us ++ z ∷ [])) same

pub bound-at : (n : ℕ) (ts : List Tree) (i : ℕ) → i ≤ length ts → get_or (bounds_of n ts) i 0 ≡ n + length (flat_map direct (take i ts))
bound-at n [] zero le = omega arith
bound-at n [] (suc i) le = absurd (omega (arith, le))
bound-at n (t ∷ ts) zero le = omega arith
bound-at n (t ∷ ts) (suc i) le =
    let k = bound-at (n + length (direct t)) ts i (omega (arith, le)) in
    let a = length-append (direct t) (flat_map direct (take i ts)) in
    omega (arith, k, a)

pub bounds-count : (n : ℕ) (ts : List Tree) → length (bounds_of n ts) ≡ length ts + 1
bounds-count n [] = refl
bounds-count n (t ∷ ts) = let k = bounds-count (n + length (direct t)) ts in omega (arith, k)

-- ---- from a visit to the next one

-- the visits follow, and the parts so far are found by their indices
pub record Walking (w : Store) (root : Tree) (parts : Parts) (finished : List ℕ) (visits : List Visit) : Type 0 where
  pub can : CanVisit w visits
  pub indexed : Indexed w parts
  pub below : AreBelow (length parts.terms.keys) finished
  pub fits : Fits w visits (trees_at w parts.terms.keys finished)
  pub walked : Walked w (subterms root) parts.terms.keys visits

pub walking-begins : (w : Store) (t : Term) (parts : Parts) (finished : List ℕ) (visits : List Visit) → IsSome (tree_at w t) → parts.terms.keys ≡ []
    → parts.inside.items ≡ [] → parts.bounds.items ≡ 0 ∷ [] → finished ≡ [] → visits ≡ Enter t ∷ [] → Walking w (held_tree w t) parts finished visits
walking-begins w t parts finished visits held keys inside bounds done is = record {
  can = rw is (held, tt);
  indexed = record {
    there = rw keys tt;
    few = rw keys (omega arith);
    below = rw inside tt;
    trees = rw (keys, inside) refl;
    bounds = rw keys bounds;
  };
  below = rw done tt;
  fits = rw is (tt, tt);
  walked = record { before = []; whole = rw is refl; trees = rw keys refl };
}

module _ (w : Store) (sound : IsSound w) (root : Tree) (parts : Parts) (finished : List ℕ) (all vs : List Visit) (t : Term) where
  abbrev ds : List Tree
  ds = trees_at w parts.terms.keys finished

  last-here : (v : Visit) → all ≡ vs ++ v ∷ [] → Walking w root parts finished all → IsSome (tree_at w (place_of v))
  last-here v is k = last-can w all vs v is k.can

  tests : IsSome (tree_at w t) → Walking w root parts finished all
      → AllByRecursion (λ n. nat_eq t.0 n ≡ tree_eq (held_tree w t) (held_tree w (term_of n))) parts.terms.keys
  tests here k = same-references w sound t.0 parts.terms.keys here k.indexed.there

  -- a tree that was left before
  pub walking-known : all ≡ vs ++ Enter t ∷ [] → (i : ℕ) (now : List ℕ) → i < length parts.terms.keys → get_or parts.terms.keys i 0 ≡ t.0
      → list_any (nat_eq t.0) parts.terms.keys ≡ true → now ≡ finished ++ i ∷ [] → Walking w root parts finished all → Walking w root parts now vs
  walking-known is i now lt found had e k =
      let u = held_tree w t in
      let here = last-here (Enter t) is k in
      let last = left-last w all vs (Enter t) is in
      let before = k.walked.before in
      let among : IsAmong u (different before) = ap (list_any (tree_eq u)) (sym k.walked.trees)
      ∙ sym (any-map (λ n. held_tree w (term_of n)) (nat_eq t.0) (tree_eq u) parts.terms.keys (tests here k)) ∙ had in
      let split : subterms root ≡ before ++ (subterms u ++ left_by_all w vs) = k.walked.whole ∙ ap (λ ts. before ++ ts) last in
      let closed = begun-subterms root before (subterms u ++ left_by_all w vs) split u (among-different u before among) in
      let trees : trees_at w parts.terms.keys now ≡ ds ++ u ∷ [] = ap (trees_at w parts.terms.keys) e
      ∙ map-both (part_tree w parts.terms.keys) finished (i ∷ []) ∙ ap (λ n. ds ++ held_tree w (term_of n) ∷ []) found in
      record {
        can = others-can w all vs (Enter t) is k.can;
        indexed = k.indexed;
        below = subst (AreBelow (length parts.terms.keys)) (sym e) (all-both (λ j. j < length parts.terms.keys) finished (i ∷ []) k.below (lt, tt));
        fits = subst (Fits w vs) (sym trees) (fits-others w vs (Enter t ∷ []) ds (subst (λ z. Fits w z ds) is k.fits));
        walked = record {
          before = before ++ subterms u;
          whole = split ∙ sym (append_assoc before (subterms u) (left_by_all w vs));
          trees = k.walked.trees ∙ sym (inserted-both [] before (subterms u) ∙ all-there (different before) (subterms u)
              (are-different before (subterms u) closed));
        };
      }

  -- a tree is entered
  pub walking-in : all ≡ vs ++ Enter t ∷ [] → (start : ℕ) (new : List Visit) → start ≡ length finished → Enters w t start vs new
      → Walking w root parts finished all → Walking w root parts finished new
  walking-in is start new s e k =
      let u = held_tree w t in
      let f = e.fits ds (length-map finished (part_tree w parts.terms.keys) ∙ sym s) in
      let others : Fits w vs (ds ++ u ∷ []) = fits-others w vs (Enter t ∷ []) ds (subst (λ z. Fits w z ds) is k.fits) in
      record {
        can = subst (CanVisit w) (sym e.pushed) (can-both w vs e.visits (others-can w all vs (Enter t) is k.can) e.can);
        indexed = k.indexed;
        below = k.below;
        fits = subst (λ z. Fits w z ds) (sym e.pushed) (fits-joined w vs e.visits ds f.0 (subst (Fits w vs) (sym f.1) others));
        walked = record {
          before = k.walked.before;
          whole = k.walked.whole ∙ ap (λ ts. k.walked.before ++ ts) (left-last w all vs (Enter t) is ∙ ap (λ ts. ts ++ left_by_all w vs) (sym e.leaves)
              ∙ sym (left-both w vs e.visits) ∙ ap (left_by_all w) (sym e.pushed));
          trees = k.walked.trees;
        };
      }

  -- the trees inside of a tree that is left are finished
  leaving : (start : ℕ) → all ≡ vs ++ Leave t start ∷ [] → Walking w root parts finished all → EndsIn ds start (direct (held_tree w t))
  leaving start is k = fits-last w vs (Leave t start) ds (subst (λ z. Fits w z ds) is k.fits)

  pub leaving-start : (start : ℕ) → all ≡ vs ++ Leave t start ∷ [] → Walking w root parts finished all → start ≤ length finished
  leaving-start start is k =
      let (front, e, f) = leaving start is k in
      let a = ap length e ∙ length-append front (direct (held_tree w t)) in
      let b = length-map finished (part_tree w parts.terms.keys) in
      omega (arith, a, b, f)

  module _ (start : ℕ) (is : all ≡ vs ++ Leave t start ∷ []) (k : Walking w root parts finished all) (new : Parts) (now : List ℕ)
      (l : Leaves t start parts finished new now) where
    abbrev keys : List ℕ
    keys = parts.terms.keys

    here : IsSome (tree_at w t)
    here = last-here (Leave t start) is k

    -- the trees that were finished before
    still : (js : List ℕ) → AreBelow (length keys) js → trees_at w new.terms.keys js ≡ trees_at w keys js
    still js h = let m = inserted-more keys t.0 in ap (λ z. trees_at w z js) (l.keys ∙ m.1) ∙ at-longer w keys m.0 js h

    longer : length keys ≤ length new.terms.keys
    longer = let m = inserted-more keys t.0 in let a = ap length (l.keys ∙ m.1) ∙ length-append keys m.0 in omega (arith, a)

    indexed-new : Indexed w new
    indexed-new = by (list_any (nat_eq t.0) keys) refl
      where
        there-new : AreThere w new.terms.keys
        there-new = there-inserted w keys new.terms.keys t.0 l.keys k.indexed.there here

        by : (b : Bool) → list_any (nat_eq t.0) keys ≡ b → Indexed w new
        by true e =
            let q = l.kept e in
            let same : new.terms.keys ≡ keys = l.keys ∙ rw e refl in
            record {
              there = there-new;
              few = l.few;
              below = subst (λ z. AreBelow (length z) new.inside.items) (sym same) (subst (AreBelow (length keys)) (sym q.0) k.indexed.below);
              trees = ap (λ z. trees_at w z new.inside.items) same ∙ ap (trees_at w keys) q.0 ∙ k.indexed.trees
                  ∙ ap (λ z. flat_map direct (trees_of w z)) (sym same);
              bounds = q.1 ∙ k.indexed.bounds ∙ ap (λ z. bounds_of 0 (trees_of w z)) (sym same);
            }
        by false e =
            let a = l.added e in
            let u = held_tree w t in
            let (front, ends, size) = leaving start is k in
            let added : new.terms.keys ≡ keys ++ t.0 ∷ [] = l.keys ∙ rw e refl in
            let listed : trees_of w new.terms.keys ≡ trees_of w keys ++ u ∷ [] = ap (trees_of w) added
            ∙ map-both (λ n. held_tree w (term_of n)) keys (t.0 ∷ []) in
            let dropped = drop start finished in
            let last : trees_at w new.terms.keys dropped ≡ direct u = still dropped (below-dropped (length keys) start finished k.below)
            ∙ sym (drop-map (part_tree w keys) start finished) ∙ ap (drop start) ends ∙ drop_at front (direct u) start size in
            let inner : trees_at w new.terms.keys new.inside.items ≡ flat_map direct (trees_of w new.terms.keys) =
            ap (trees_at w new.terms.keys) a.inside ∙ map-both (part_tree w new.terms.keys) parts.inside.items dropped
            ∙ ap (λ z. z ++ trees_at w new.terms.keys dropped) (still parts.inside.items k.indexed.below ∙ k.indexed.trees)
            ∙ ap (λ z. flat_map direct (trees_of w keys) ++ z) (last ∙ sym (append-nil (direct u)))
            ∙ sym (ap (flat_map direct) listed ∙ flat_map-append direct (trees_of w keys) (u ∷ [])) in
            let sizes : length new.inside.items ≡ length (flat_map direct (trees_of w keys ++ u ∷ [])) =
            sym (length-map new.inside.items (part_tree w new.terms.keys)) ∙ ap length inner ∙ ap (λ z. length (flat_map direct z)) listed in
            let size-of : length new.inside.items ≡ 0 + length (flat_map direct (trees_of w keys ++ u ∷ [])) = omega (arith, sizes) in
            record {
              there = there-new;
              few = l.few;
              below = subst (AreBelow (length new.terms.keys)) (sym a.inside) (all-both (λ j. j < length new.terms.keys) parts.inside.items dropped
                  (below-more (length keys) (length new.terms.keys) parts.inside.items longer k.indexed.below)
                  (below-more (length keys) (length new.terms.keys) dropped longer (below-dropped (length keys) start finished k.below)));
              trees = inner;
              bounds = a.bounds ∙ ap (λ z. z ++ length new.inside.items ∷ []) k.indexed.bounds
                  ∙ ap (λ z. bounds_of 0 (trees_of w keys) ++ z ∷ []) size-of
                  ∙ sym (ap (bounds_of 0) listed ∙ bounds-more 0 (trees_of w keys) u);
            }

    -- a tree is left
    pub walking-left : Walking w root new now vs
    walking-left =
        let u = held_tree w t in
        let front = take start finished in
        let first = below-taken (length keys) start finished k.below in
        let trees : trees_at w new.terms.keys now ≡ take start ds ++ u ∷ [] = ap (trees_at w new.terms.keys) l.finished
        ∙ map-both (part_tree w new.terms.keys) front (l.index ∷ [])
        ∙ ap (λ z. z ++ part_tree w new.terms.keys l.index ∷ []) (still front first ∙ sym (take-map (part_tree w keys) start finished))
        ∙ ap (λ n. take start ds ++ held_tree w (term_of n) ∷ []) l.found in
        let before = k.walked.before in
        record {
          can = others-can w all vs (Leave t start) is k.can;
          indexed = indexed-new;
          below = subst (AreBelow (length new.terms.keys)) (sym l.finished) (all-both (λ j. j < length new.terms.keys) front (l.index ∷ [])
              (below-more (length keys) (length new.terms.keys) front longer first) (l.within, tt));
          fits = subst (Fits w vs) (sym trees) (fits-others w vs (Leave t start ∷ []) ds (subst (λ z. Fits w z ds) is k.fits));
          walked = record {
            before = before ++ u ∷ [];
            whole = k.walked.whole ∙ ap (λ ts. before ++ ts) (left-last w all vs (Leave t start) is)
                ∙ sym (append_assoc before (u ∷ []) (left_by_all w vs));
            trees = ap (trees_of w) l.keys ∙ map-insert (λ n. held_tree w (term_of n)) nat_eq tree_eq keys t.0 (tests here k)
                ∙ ap (λ ts. insert_key tree_eq ts u) k.walked.trees ∙ sym (inserted-both [] before (u ∷ []));
          };
        }

pub entered-fewer : (w : Store) (t : Term) (start : ℕ) (all old new : List Visit) → all ≡ old ++ Enter t ∷ [] → Enters w t start old new
    → visits_by_all w new < visits_by_all w all
entered-fewer w t start all old new is e =
    let a = ap (visits_by_all w) e.pushed ∙ visits-both w old e.visits in
    let b = others-fewer w all old (Enter t) is in
    let c = e.fewer in
    omega (arith, a, b, c)

-- a tree that was left before adds no visits
pub known-fewer : (w : Store) (t : Term) (all vs : List Visit) → all ≡ vs ++ Enter t ∷ [] → visits_by_all w vs < visits_by_all w all
known-fewer w t all vs is =
    let a = others-fewer w all vs (Enter t) is in
    let b = ap length (subterms-inside (held_tree w t)) ∙ length-append (inside (held_tree w t)) (held_tree w t ∷ []) in
    omega (arith, a, b)

pub walking-ends : (w : Store) (root : Tree) (parts : Parts) (finished : List ℕ) (visits : List Visit) → visits ≡ [] → Walking w root parts finished visits
    → HasParts w root parts
walking-ends w root parts finished visits is k = record {
  indexed = k.indexed;
  trees =
      let all : subterms root ≡ k.walked.before = k.walked.whole ∙ ap (λ us. k.walked.before ++ left_by_all w us) is ∙ append-nil k.walked.before in
      k.walked.trees ∙ ap different (sym all);
}
