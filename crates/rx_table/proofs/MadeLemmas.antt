-- Terms of one store that were made of the parts of a tree of another.
use Rattle.std.proofs.Common.{◌≡◌, ℕ, zero, suc, ◌+◌, ◌<◌, ◌≤◌, ◌==◌, Bool, true, false, List, [], ◌∷◌, ◌++◌}
use Rattle.std.proofs.Common.{Option, Some, IsSome, Result, Ok, Err, IfOk, refl, sym, ap, subst, ◌∙◌, append_assoc, append-nil, length, length-append, map, take, drop, get_or, arith, eq-eqb}
use Rattle.std.specs.Prelude.{nat_lt, ◌&&◌}
use Rattle.std.specs.List.{list_all}
use Rattle.std.specs.Option.{option_and_then}
use Rattle.std.proofs.lemmas.List.{get_or-map, get_or-take, length-map, length-take-le, same_from_push, take_all, take_more}
use Rattle.rx_term.specs.Name.{IsAllowed, is_allowed}
use Rattle.rx_term.specs.Tree.{Tree, Trees, Int, Appl, Items, Hole, none, more, annotated, annotations, count_of, list_of, to_list}
use Rattle.rx_term.specs.Store.{Store, tree_at, signature_of, name_at, quoted_at, longer, applied}
use Rattle.rx_term.specs.Steps.{Grows, IsSound, Makes, MakesOrRefuses}
use Rattle.rx_term.specs.declared.faults.BankFault.{BankFault}
use Rattle.rx_term.specs.Kinds.{HasCons, HasAppl}
use Rattle.rx_term.specs.Walks.{HaveTrees, held_tree}
use Rattle.rx_term.specs.declared.Term.{Term}
use Rattle.rx_term.specs.declared.Symbol.{Symbol}
use Rattle.rx_term.proofs.StoreLemmas.{Grows-Makes, Grows-trans, some-value}
use Rattle.rx_table.specs.Table.{direct}
use Rattle.rx_table.specs.Inner.Walk.{AreBelow, HasParts, IsList, body_items, part_tree, term_of, trees_at, trees_of}
use Rattle.rx_table.specs.Inner.Made.{AreMade, IsBare, each, picked, remade}
use Rattle.rx_table.proofs.WalkLemmas.{direct-both, have-both, have-grown, have-last, have-none, held-is, items_at, map-both, some-tree}
use Rattle.rx_table.specs.declared.walk.Parts.{Parts}
use Rattle.rx_table.proofs.PartLemmas.{different-last, taken-more}

-- ---- lists of references

pub have-same : (w : Store) (rs : List Term) (ts us : List Tree) → HaveTrees w rs ts → HaveTrees w rs us → ts ≡ us
have-same w [] [] [] h k = refl
have-same w (r ∷ rs) (t ∷ ts) (u ∷ us) h k =
    let first : t ≡ u = (let e : Some t ≡ Some u = sym h.0 ∙ k.0 in cc e) in
    ap (λ z. z ∷ ts) first ∙ ap (λ z. u ∷ z) (have-same w rs ts us h.1 k.1)
have-same w [] [] (u ∷ us) h k = absurd k
have-same w [] (t ∷ ts) us h k = absurd h
have-same w (r ∷ rs) [] us h k = absurd h
have-same w (r ∷ rs) (t ∷ ts) [] h k = absurd k

pub longer-is : (w : Store) (r list : Term) (u : Tree) (us : Trees) → tree_at w r ≡ Some u → tree_at w list ≡ Some (list_of us)
    → longer (tree_at w r) (tree_at w list) ≡ Some (list_of (more u us))
longer-is w r list u us e f = rw (e, f) refl

-- ---- a list under way

pub record Making (w : Store) (all left : List Term) (v : Store) (list : Term) : Type 0 where
  pub whole : List Tree
  pub front : List Tree
  pub us : Trees
  pub all-have : HaveTrees w all whole
  pub is : whole ≡ front ++ to_list us
  pub have : HaveTrees w left front
  pub grows : Grows w v
  pub here : tree_at v list ≡ Some (list_of us)

pub making-begins : (w v : Store) (all : List Term) (list : Term) (ts : Trees) → HaveTrees w all (to_list ts) → Makes w v (Some (Items none none)) list
    → Making w all all v list
making-begins w v all list ts h m = record {
  whole = to_list ts;
  front = to_list ts;
  us = none;
  all-have = h;
  is = sym (append-nil (to_list ts));
  have = h;
  grows = Grows-Makes m;
  here = m.made;
}

module _ (w : Store) (all left less : List Term) (v : Store) (list item : Term) (m : Making w all left v list) (e : left ≡ less ++ item ∷ []) where
  making-item : IsSome (tree_at v item) × (tree_at v item ≡ Some (have-last w less item m.front (subst (λ z. HaveTrees w z m.front) e m.have)).last)
  making-item = let l = have-last w less item m.front (subst (λ z. HaveTrees w z m.front) e m.have) in
      let at = m.grows.trees item l.last l.here in (some-tree v item l.last at, at)

  pub making-longer : IsSome (longer (tree_at v item) (tree_at v list))
  making-longer = let l = have-last w less item m.front (subst (λ z. HaveTrees w z m.front) e m.have) in
      let k = longer-is v item list l.last m.us making-item.1 m.here in rw k refl

  pub making-next : (u : Store) (new : Term) → Makes v u (longer (tree_at v item) (tree_at v list)) new → Making w all less u new
  making-next u new n =
      let l = have-last w less item m.front (subst (λ z. HaveTrees w z m.front) e m.have) in
      record {
        whole = m.whole;
        front = l.front;
        us = more l.last m.us;
        all-have = m.all-have;
        is = m.is ∙ ap (λ z. z ++ to_list m.us) l.is ∙ append_assoc l.front (l.last ∷ []) (to_list m.us);
        have = l.have;
        grows = Grows-trans m.grows (Grows-Makes n);
        here = n.made ∙ longer-is v item list l.last m.us making-item.1 m.here;
      }

pub to-same : (ts us : Trees) → to_list ts ≡ to_list us → ts ≡ us
to-same none none e = refl
to-same none (more u us) e = absurd (cc e)
to-same (more t ts) none e = absurd (cc e)
to-same (more t ts) (more u us) e = let first : t ≡ u = cc e in let rest = to-same ts us (cc e) in ap (λ z. more z ts) first ∙ ap (λ z. more u z) rest

pub making-ends : (w : Store) (all left : List Term) (v : Store) (list : Term) → Making w all left v list → left ≡ [] → (us : Trees)
    → HaveTrees w all (to_list us) → tree_at v list ≡ Some (list_of us)
making-ends w all left v list m e us h =
    let none-left : m.front ≡ [] = have-none w m.front (subst (λ z. HaveTrees w z m.front) e m.have) in
    let same : m.us ≡ us = to-same m.us us (sym (m.is ∙ ap (λ z. z ++ to_list m.us) none-left) ∙ have-same w all m.whole (to_list us) m.all-have h) in
    subst (λ z. tree_at v list ≡ Some (list_of z)) same m.here

-- the last of the first items
pub taken-last : (items : List Term) (n m : ℕ) (d : Term) → n ≡ m + 1 → n ≤ length items → take n items ≡ take m items ++ get_or items m d ∷ []
taken-last items n m d e le = ap (λ z. take z items) e ∙ take_more items m d (omega (arith, e, le))

-- ---- what is made of trees, in order

each-list : (f : Tree → Tree) (ts : Trees) → to_list (each f ts) ≡ map f (to_list ts)
each-list f none = refl
each-list f (more t ts) = ap (λ z. f t ∷ z) (each-list f ts)

each-count : (f : Tree → Tree) (ts : Trees) → count_of (each f ts) ≡ count_of ts
each-count f none = refl
each-count f (more t ts) = let k = each-count f ts in omega (arith, k)

pub each-have : (w : Store) (items : List Term) (f : Tree → Tree) (ts : Trees) → HaveTrees w items (map f (to_list ts)) → HaveTrees w items (to_list (each f ts))
each-have w items f ts h = subst (HaveTrees w items) (sym (each-list f ts)) h

pub have-count : (w : Store) (rs : List Term) (ts : List Tree) → HaveTrees w rs ts → length rs ≡ length ts
have-count w [] [] h = refl
have-count w (r ∷ rs) (t ∷ ts) h = let k = have-count w rs ts h.1 in omega (arith, k)
have-count w [] (t ∷ ts) h = absurd h
have-count w (r ∷ rs) [] h = absurd h

pub have-split : (w : Store) (rs : List Term) (xs ys : List Tree) → HaveTrees w rs (xs ++ ys)
    → HaveTrees w (take (length xs) rs) xs × HaveTrees w (drop (length xs) rs) ys
have-split w rs [] ys h = (tt, h)
have-split w (r ∷ rs) (x ∷ xs) ys h = let k = have-split w rs xs ys h.1 in ((h.0, k.0), k.1)
have-split w [] (x ∷ xs) ys h = absurd h

have-place : (w : Store) (rs : List Term) (ts : List Tree) (i : ℕ) (d : Term) (e : Tree) → HaveTrees w rs ts → i < length rs
    → tree_at w (get_or rs i d) ≡ Some (get_or ts i e)
have-place w [] ts i d e h lt = absurd (omega (arith, lt))
have-place w (r ∷ rs) (t ∷ ts) zero d e h lt = h.0
have-place w (r ∷ rs) (t ∷ ts) (suc i) d e h lt = have-place w rs ts i d e h.1 (omega (arith, lt))
have-place w (r ∷ rs) [] i d e h lt = absurd h

-- ---- results

-- what holds of a result by another relation
pub ok-by : {T E : Type 0} (P Q : T → Type 0) → ((x : T) → P x → Q x) → (r : Result T E) → IfOk r P → IfOk r Q
ok-by P Q f (Ok x) h = f x h
ok-by P Q f (Err e) h = tt

pub made-by : (P : Term → Type 0) (old new : Store) (tree : Option Tree) → ((r : Term) → Makes old new tree r → P r) → (x : Result Term BankFault)
    → MakesOrRefuses old new tree x → IfOk x P
made-by P old new tree f (Ok r) m = f r m
made-by P old new tree f (Err e) m = tt

-- ---- trees without annotations

module _ (v w u : Store) (t : Term) (items : List Term) where
  abbrev pub GivesBody : Term → Type 0
  GivesBody r = (f : Tree → Tree) → HaveTrees w items (map f (body_items (held_tree v t)))
      → tree_at u r ≡ Some (remade f (annotated (held_tree v t) none))

  body-is : (x : Tree) → tree_at v t ≡ Some x → (r : Term)
      → ((f : Tree → Tree) → HaveTrees w items (map f (body_items x)) → tree_at u r ≡ Some (remade f (annotated x none))) → GivesBody r
  body-is x at r h = subst (λ z. (f : Tree → Tree) → HaveTrees w items (map f (body_items z)) → tree_at u r ≡ Some (remade f (annotated z none)))
      (sym (held-is v t x at)) h

  pub body-cons : (r : Term) → HasCons v t → ((us : Trees) → HaveTrees w items (to_list us) → tree_at u r ≡ Some (list_of us)) → GivesBody r
  body-cons r h k =
      let ts = more h.first h.rest in
      body-is (Items ts h.anns) h.here r (λ f q. k (each f ts) (each-have w items f ts q))

  -- the items of a list
  pub cons-have : HasCons v t → (f : Tree → Tree) → HaveTrees w items (map f (body_items (held_tree v t))) → (us : Trees) × HaveTrees w items (to_list us)
  cons-have h f q =
      let ts = more h.first h.rest in
      let k = subst (λ z. HaveTrees w items (map f (body_items z))) (held-is v t (Items ts h.anns) h.here) q in
      (each f ts, each-have w items f ts k)

pub bare-remade : (f : Tree → Tree) (t : Tree) → annotations (remade f (annotated t none)) ≡ none
bare-remade f (Int z anns) = refl
bare-remade f (Appl name quoted args anns) = refl
bare-remade f (Items items anns) = refl
bare-remade f (Hole inner anns) = refl

-- ---- applications

both-second : (a b : Bool) → (a && b) ≡ true → b ≡ true
both-second true b h = h
both-second false b h = absurd (cc h)

-- the name of a symbol may be one in another store
pub allowed-name : (v : Store) → IsSound v → (s : Symbol) → IsSome (signature_of v s) → (name : List ℕ) (quoted : Bool) → name_at v s ≡ Some name
    → quoted_at v s ≡ Some quoted → IsAllowed name quoted
allowed-name v sound s h name quoted e f =
    let g = some-value (signature_of v s) h in
    let is = g.1 in
    let a : Some g.0.name ≡ Some name = ap (option_and_then (λ g. Some g.name)) (sym is) ∙ e in
    let b : Some g.0.quoted ≡ Some quoted = ap (option_and_then (λ g. Some g.quoted)) (sym is) ∙ f in
    let c : g.0.name ≡ name = cc a in
    let d : g.0.quoted ≡ quoted = cc b in
    subst (λ q. IsAllowed name q) d (subst (λ n. IsAllowed n g.0.quoted) c
    (both-second (list_all (λ b. nat_lt b 256) g.0.name) (is_allowed g.0.name g.0.quoted) (sound.valid_names s g.0 is)))

module _ (v : Store) (t : Term) (s : Symbol) (h : HasAppl v t s) where
  applied-is : (x : Store) (g : Symbol) → signature_of x g ≡ signature_of v s → (list : Term) (f : Tree → Tree)
      → tree_at x list ≡ Some (list_of (each f h.args)) → applied (signature_of x g) (tree_at x list) ≡ Some (Appl h.name h.quoted (each f h.args) none)
  applied-is x g sig list f here =
      let named = sig ∙ h.symbol in
      let same : (count_of (each f h.args) == count_of h.args) ≡ true = eq-eqb (count_of (each f h.args)) (count_of h.args) (each-count f h.args) in
      rw (named, here, same) refl

  module _ (w : Store) (items : List Term) where
    args-have : (f : Tree → Tree) → HaveTrees w items (map f (body_items (held_tree v t))) → HaveTrees w items (map f (to_list h.args))
    args-have f q = subst (λ z. HaveTrees w items (map f (body_items z))) (held-is v t (Appl h.name h.quoted h.args h.anns) h.here) q

    pub args-listed : (f : Tree → Tree) → HaveTrees w items (map f (body_items (held_tree v t))) → (us : Trees) × HaveTrees w items (to_list us)
    args-listed f q = (each f h.args, each-have w items f h.args (args-have f q))

    module _ (u x : Store) (grows : Grows u x) (g : Symbol) (sig : signature_of x g ≡ signature_of v s) (list : Term)
        (listed : (us : Trees) → HaveTrees w items (to_list us) → tree_at u list ≡ Some (list_of us)) where
      args-made : (f : Tree → Tree) → HaveTrees w items (map f (to_list h.args)) → tree_at x list ≡ Some (list_of (each f h.args))
      args-made f q = grows.trees list (list_of (each f h.args)) (listed (each f h.args) (each-have w items f h.args q))

      pub applied-there : (f : Tree → Tree) → HaveTrees w items (map f (body_items (held_tree v t))) → IsSome (applied (signature_of x g) (tree_at x list))
      applied-there f q = let k = applied-is x g sig list f (args-made f (args-have f q)) in rw k refl

      pub body-appl : (y : Store) (r : Term) → Makes x y (applied (signature_of x g) (tree_at x list)) r → GivesBody v w y t items r
      body-appl y r m = body-is v w y t items (Appl h.name h.quoted h.args h.anns) h.here r
          (λ f q. m.made ∙ applied-is x g sig list f (args-made f q))

-- ---- annotations

pub annotated-none : (v : Tree) → annotations v ≡ none → annotated v none ≡ v
annotated-none (Int z anns) e = ap (Int z) (sym e)
annotated-none (Appl name quoted args anns) e = ap (Appl name quoted args) (sym e)
annotated-none (Items items anns) e = ap (Items items) (sym e)
annotated-none (Hole inner anns) e = ap (Hole inner) (sym e)

no-trees : (w : Store) (us : Trees) → HaveTrees w [] (to_list us) → us ≡ none
no-trees w none h = refl
no-trees w (more u us) h = absurd h

module _ (w : Store) (body : Term) (bare : IsBare w body) (notes : List Term) where
  same-body : (u : Tree) → tree_at w body ≡ Some u → u ≡ bare.0
  same-body u at = let e : Some u ≡ Some bare.0 = sym at ∙ bare.1 in cc e

  pub annotated-bare : notes ≡ [] → (u : Tree) (us : Trees) → tree_at w body ≡ Some u → HaveTrees w notes (to_list us) → tree_at w body ≡ Some (annotated u us)
  annotated-bare e u us at h =
      let empty : us ≡ none = no-trees w us (subst (λ z. HaveTrees w z (to_list us)) e h) in
      let is : annotated u us ≡ u = ap (annotated u) empty ∙ annotated-none u (ap annotations (same-body u at) ∙ bare.2) in
      at ∙ ap (λ z. let o : Option Tree = Some z in o) (sym is)

both-noted : (f : Tree → Tree) (t : Tree) → annotated (remade f (annotated t none)) (each f (annotations t)) ≡ remade f t
both-noted f (Int z anns) = refl
both-noted f (Appl name quoted args anns) = refl
both-noted f (Items items anns) = refl
both-noted f (Hole inner anns) = refl

-- ---- how many trees come before the annotations

direct-count : (t : Tree) → length (direct t) ≡ length (body_items t) + length (to_list (annotations t))
direct-count t = ap length (direct-both t) ∙ length-append (body_items t) (to_list (annotations t))

-- the annotations that are left to be counted
pub record Counting (w : Store) (t : Tree) (rest : Term) (count : ℕ) : Type 0 where
  pub here : IsList w rest
  pub left : count ≡ length (body_items t) + length (items_at w rest)

-- ---- a part: a body with annotations

module _ (v w : Store) (t : Term) (items : List Term) (f : Tree → Tree) (h : HaveTrees w items (map f (direct (held_tree v t)))) (count : ℕ)
    (size : count ≡ length (body_items (held_tree v t))) where
  split : HaveTrees w (take count items) (map f (body_items (held_tree v t))) × HaveTrees w (drop count items) (map f (to_list (annotations (held_tree v t))))
  split =
      let u = held_tree v t in
      let e : map f (direct u) ≡ map f (body_items u) ++ map f (to_list (annotations u)) = ap (map f) (direct-both u)
      ∙ map-both f (body_items u) (to_list (annotations u)) in
      let n : length (map f (body_items u)) ≡ count = length-map (body_items u) f ∙ sym size in
      subst (λ k. HaveTrees w (take k items) (map f (body_items u)) × HaveTrees w (drop k items) (map f (to_list (annotations u)))) n
      (have-split w items (map f (body_items u)) (map f (to_list (annotations u))) (subst (HaveTrees w items) e h))

  pub body-have : HaveTrees w (take count items) (map f (body_items (held_tree v t)))
  body-have = split.0

  pub notes-have : (u : Store) → Grows w u → HaveTrees u (drop count items) (to_list (each f (annotations (held_tree v t))))
  notes-have u g = have-grown w u g (drop count items) (to_list (each f (annotations (held_tree v t))))
      (each-have w (drop count items) f (annotations (held_tree v t)) split.1)

  pub count-within : count ≤ length items
  count-within =
      let u = held_tree v t in
      let a = have-count w items (map f (direct u)) h in
      let b = length-map (direct u) f in
      let c = direct-count u in
      omega (arith, a, b, c, size)

  pub count-all : length items ≡ length (direct (held_tree v t))
  count-all = have-count w items (map f (direct (held_tree v t))) h ∙ length-map (direct (held_tree v t)) f

  module _ (u : Store) (body : Term) (b : GivesBody v w u t (take count items) body) where
    pub part-bare : IsBare u body
    part-bare = (remade f (annotated (held_tree v t) none), b f split.0, bare-remade f (held_tree v t))

    pub part-gives : Grows w u → (x : Store) (r : Term)
        → ((a : Tree) (us : Trees) → tree_at u body ≡ Some a → HaveTrees u (drop count items) (to_list us) → tree_at x r ≡ Some (annotated a us))
        → tree_at x r ≡ Some (remade f (held_tree v t))
    part-gives g x r k =
        k (remade f (annotated (held_tree v t) none)) (each f (annotations (held_tree v t))) (b f split.0) (notes-have u g)
        ∙ ap (λ z. let o : Option Tree = Some z in o) (both-noted f (held_tree v t))

-- ---- the terms of the parts so far

module _ (v : Store) (ns : List ℕ) (f : Tree → Tree) (w : Store) (made : List Term) (h : AreMade v ns f w made) where
  made-at : (j : ℕ) → length made ≤ length ns → j < length made → tree_at w (get_or made j (record { 0 = 0 })) ≡ Some (f (part_tree v ns j))
  made-at j le lt =
      let n = length made in
      let d : Tree = list_of none in
      let k = length-take-le n ns le in
      let l = length-map (take n ns) (λ m. held_tree v (term_of m)) in
      have-place w made (map f (trees_of v (take n ns))) j (record { 0 = 0 }) (f d) h lt
      ∙ ap (λ z. let o : Option Tree = Some z in o) (get_or-map f (trees_of v (take n ns)) j d (f d) (omega (arith, k, l, lt))
      ∙ ap f (get_or-map (λ m. held_tree v (term_of m)) (take n ns) j 0 d (omega (arith, k, lt))
      ∙ ap (λ m. held_tree v (term_of m)) (get_or-take n ns j 0 lt)))

  -- those that were picked
  pub picked-have : (js : List ℕ) → length made ≤ length ns → AreBelow (length made) js → HaveTrees w (picked made js) (map f (trees_at v ns js))
  picked-have [] le b = tt
  picked-have (j ∷ js) le b = (made-at j le b.0, picked-have js le b.1)

  pub made-next : (u : Store) (r : Term) (new : List Term) → Grows w u → length made < length ns → tree_at u r ≡ Some (f (part_tree v ns (length made)))
      → new ≡ made ++ r ∷ [] → AreMade v ns f u new
  made-next u r new g lt is e =
      let n = length made in
      let size : length new ≡ n + 1 = ap length e ∙ length-append made (r ∷ []) in
      let trees : map f (trees_of v (take (length new) ns)) ≡ map f (trees_of v (take n ns)) ++ f (part_tree v ns n) ∷ [] =
      ap (λ z. map f (trees_of v (take z ns))) size ∙ ap (map f) (taken-more v ns n lt) ∙ map-both f (trees_of v (take n ns)) (part_tree v ns n ∷ []) in
      subst (HaveTrees u new) (sym trees) (subst (λ z. HaveTrees u z (map f (trees_of v (take n ns)) ++ f (part_tree v ns n) ∷ [])) (sym e)
      (have-both u made (r ∷ []) (map f (trees_of v (take n ns))) (f (part_tree v ns n) ∷ [])
      (have-grown w u g made (map f (trees_of v (take n ns))) h) (is, tt)))

-- those that the next part is made of
pub next-have : (v : Store) (ns : List ℕ) (f : Tree → Tree) (w : Store) (made : List Term) → AreMade v ns f w made → length made < length ns
    → (js slice : List ℕ) (items : List Term) → AreBelow (length made) js → trees_at v ns js ≡ direct (part_tree v ns (length made))
    → items ≡ picked made js → slice ≡ ns → HaveTrees w items (map f (direct (part_tree v slice (length made))))
next-have v ns f w made h lt js slice items below trees is same =
    let a = picked-have v ns f w made h js (omega (arith, lt)) below in
    let b = subst (λ z. HaveTrees w (picked made js) (map f z)) trees a in
    subst (λ ks. HaveTrees w items (map f (direct (part_tree v ks (length made))))) (sym same)
    (subst (λ z. HaveTrees w z (map f (direct (part_tree v ns (length made))))) (sym is) b)

-- the last part is the tree
pub made-last : (v : Store) (t : Tree) (parts : Parts) → HasParts v t parts → (f : Tree → Tree) (w : Store) (made : List Term)
    → AreMade v parts.terms.keys f w made → length made ≡ length parts.terms.keys → (less : List Term) (r : Term) → made ≡ less ++ r ∷ []
    → tree_at w r ≡ Some (f t)
made-last v t parts p f w made h n less r e =
    let (front, is) = different-last t in
    let keys = parts.terms.keys in
    let all : map f (trees_of v (take (length made) keys)) ≡ map f front ++ f t ∷ [] =
    ap (λ z. map f (trees_of v z)) (take_all (length made) keys (omega (arith, n))) ∙ ap (map f) (p.trees ∙ is) ∙ map-both f front (t ∷ []) in
    let l = have-last w less r (map f front ++ f t ∷ []) (subst (HaveTrees w (less ++ r ∷ [])) all
    (subst (λ z. HaveTrees w z (map f (trees_of v (take (length made) keys)))) e h)) in
    let same : f t ≡ l.last = (same_from_push (map f front) l.front (f t) l.last l.is).1 in
    l.here ∙ ap (λ z. let o : Option Tree = Some z in o) (sym same)

-- ---- copies

each-same : (ts : Trees) → each (λ u. u) ts ≡ ts
each-same none = refl
each-same (more t ts) = let k = each-same ts in rw k refl

pub copy-remade : (t : Tree) → remade (λ u. u) t ≡ t
copy-remade (Int z anns) = let a = each-same anns in rw a refl
copy-remade (Appl name quoted args anns) = let a = each-same args in let b = each-same anns in rw (a, b) refl
copy-remade (Items items anns) = let a = each-same items in let b = each-same anns in rw (a, b) refl
copy-remade (Hole inner anns) = let a = each-same anns in rw a refl
