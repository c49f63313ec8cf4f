-- One more item in front of a list that is under way.
use Rattle.std.proofs.lemmas.List.{get_or_default}
use Rattle.std.proofs.Common.{suc, ℕ, ◌≡◌, ◌⊎◌, inl, inr, ◌-◌, ◌<◌, ◌≤◌, List, [], ◌∷◌, length, take, drop, get_or, Option}
use Rattle.std.proofs.Common.{Some, None, IsSome, refl, sym, ap, ◌∙◌, subst, arith, Contains, drop-cons, take-append-drop}
use Rattle.std.proofs.lemmas.List.{append-nil}
use Rattle.std.proofs.lemmas.List.Elements.{Contains-append_left, Contains-append_right, Contains-append_cases, Contains-push}
use Rattle.rx_term.proofs.PartsLemmas.{list_parts-parts, cons_head, cons_tail, cons_cases}
use Rattle.rx_term.specs.Parts.{parts, annotation_parts}
use Rattle.rx_term.specs.Walks.{all_parts, parts_of, AllHeld, HaveTrees, PushesInside, PushesAnns, Lists}
use Rattle.std.specs.Option.{option_and_then}
use Rattle.std.proofs.Common.{append_assoc, length-append, ◌++◌, Bool, is_some, ◌+◌, zero-add, min}
use Rattle.rx_term.specs.Tree.{Tree, Trees, Appl, Items, none, more, annotations, to_list}
use Rattle.rx_term.specs.Store.{Store, tree_at, longer}
use Rattle.rx_term.specs.Steps.{Grows}
use Rattle.rx_term.specs.declared.Term.{Term}

some-tree : (o : Option Tree) → IsSome o → (x : Tree) × (o ≡ Some x)
some-tree None e = cc
some-tree (Some x) e = (x, refl)

-- the next item and the list have trees that make a longer one
pub next : (old now : Store) (rs : List Term) (r list : Term) → Grows old now → IsSome (tree_at old r) → Lists old rs (tree_at now list)
    → (x : Tree) × ((xs : Trees) × (tree_at now r ≡ Some x) × (tree_at now list ≡ Some (Items xs none)) × HaveTrees old (r ∷ rs) (to_list (more x xs)))
next old now rs r list grows held (xs, each, e) =
    let x = some-tree (tree_at old r) held in
    (x.0, (xs, grows.trees r x.0 x.1, e, (x.1, each)))

pub is_longer : (a b : Option Tree) (x : Tree) (xs : Trees) → a ≡ Some x → b ≡ Some (Items xs none) → longer a b ≡ Some (Items (more x xs) none)
is_longer a b x xs p q = rw (p, q) refl

pub dropped : (rs : List Term) (left : ℕ) (d : Term) → 0 < left → left ≤ length rs → drop (left - 1) rs ≡ get_or rs (left - 1) d ∷ drop left rs
dropped rs left d pos le = let e : suc (left - 1) ≡ left = omega arith in
    drop-cons rs (left - 1) d (omega arith) ∙ ap (λ k. get_or rs (left - 1) d ∷ drop k rs) e

pub item-in : (rs : List Term) (k : ℕ) (d : Term) → k < length rs → Contains rs (get_or rs k d)
item-in rs k d lt = (k, lt, get_or_default rs k _ d lt)

-- the parts of a list, and of an application, are those of what its node gives
pub cons-covers : (w : Store) (h t : Term) (x : Tree) (xs anns : Trees) → tree_at w h ≡ Some x → tree_at w t ≡ Some (Items xs none)
    → parts (Items (more x xs) anns) ≡ Items (more x xs) anns ∷ (all_parts w (h ∷ t ∷ []) ++ annotation_parts anns)
cons-covers w h t x xs anns p q =
    rw (p, q) (rw (append-nil (parts (Items xs none))) (ap (λ ps. Items (more x xs) anns ∷ ((parts x ++ ps) ++ annotation_parts anns)) (list_parts-parts xs)))

pub appl-covers : (w : Store) (t : Term) (name : List ℕ) (quoted : Bool) (args anns : Trees) → tree_at w t ≡ Some (Items args none)
    → parts (Appl name quoted args anns) ≡ Appl name quoted args anns ∷ (all_parts w (t ∷ []) ++ annotation_parts anns)
appl-covers w t name quoted args anns q =
    rw q (ap (λ ps. Appl name quoted args anns ∷ (ps ++ annotation_parts anns)) (list_parts-parts args ∙ sym (append-nil (parts (Items args none)))))

pub some-here : {o : Option Tree} {x : Tree} → o ≡ Some x → IsSome o
some-here e = ap is_some e

-- the parts of some references, then of more
pub all_parts-append : (w : Store) (xs ys : List Term) → all_parts w (xs ++ ys) ≡ all_parts w xs ++ all_parts w ys
all_parts-append w [] ys = refl
all_parts-append w (x ∷ xs) ys = ap (λ ps. parts_of (tree_at w x) ++ ps) (all_parts-append w xs ys)
    ∙ sym (append_assoc (parts_of (tree_at w x)) (all_parts w xs) (all_parts w ys))

-- ---- references that are held

pub AllHeld-nil : (w : Store) → AllHeld w []
AllHeld-nil w t c = absurd (let lt = c.1 in omega (arith, lt))

pub AllHeld-cons : (w : Store) (r : Term) (rs : List Term) → IsSome (tree_at w r) → AllHeld w rs → AllHeld w (r ∷ rs)
AllHeld-cons w r rs here held t c = by (cons_cases r rs t c) where
  by : (r ≡ t) ⊎ Contains rs t → IsSome (tree_at w t)
  by (inl e) = subst (λ x. IsSome (tree_at w x)) e here
  by (inr d) = held t d

pub AllHeld-one : (w : Store) (r : Term) → IsSome (tree_at w r) → AllHeld w (r ∷ [])
AllHeld-one w r here = AllHeld-cons w r [] here (AllHeld-nil w)

pub AllHeld-first : (w : Store) (r : Term) (rs : List Term) → AllHeld w (r ∷ rs) → IsSome (tree_at w r)
AllHeld-first w r rs held = held r (cons_head r rs)

pub AllHeld-rest : (w : Store) (r : Term) (rs : List Term) → AllHeld w (r ∷ rs) → AllHeld w rs
AllHeld-rest w r rs held t c = held t (cons_tail r rs t c)

-- so is the one at a place
pub AllHeld-at : (w : Store) (rs : List Term) (k : ℕ) (d : Term) → AllHeld w rs → k < length rs → IsSome (tree_at w (get_or rs k d))
AllHeld-at w rs k d held lt = held (get_or rs k d) (item-in rs k d lt)

pub AllHeld-append : (w : Store) (xs ys : List Term) → AllHeld w xs → AllHeld w ys → AllHeld w (xs ++ ys)
AllHeld-append w xs ys p q t c = by (Contains-append_cases xs ys t c) where
  by : Contains xs t ⊎ Contains ys t → IsSome (tree_at w t)
  by (inl d) = p t d
  by (inr d) = q t d

pub AllHeld-push : (w : Store) (rs : List Term) (r : Term) → AllHeld w rs → IsSome (tree_at w r) → AllHeld w (rs ++ r ∷ [])
AllHeld-push w rs r held here = AllHeld-append w rs (r ∷ []) held (AllHeld-one w r here)

pub AllHeld-split : (w : Store) (xs : List Term) (u : Term) → AllHeld w (xs ++ u ∷ []) → AllHeld w xs × IsSome (tree_at w u)
AllHeld-split w xs u held = ((λ t c. held t (Contains-append_left xs (u ∷ []) t c)), held u (Contains-push xs u))

-- so are the first and the last of them
pub AllHeld-take : (w : Store) (rs : List Term) (n : ℕ) → AllHeld w rs → AllHeld w (take n rs)
AllHeld-take w rs n held t c = held t (subst (λ xs. Contains xs t) (take-append-drop n rs) (Contains-append_left (take n rs) (drop n rs) t c))

pub AllHeld-drop : (w : Store) (rs : List Term) (n : ℕ) → AllHeld w rs → AllHeld w (drop n rs)
AllHeld-drop w rs n held t c = held t (subst (λ xs. Contains xs t) (take-append-drop n rs) (Contains-append_right (take n rs) (drop n rs) t c))

-- between references that are held and those that have trees
pub AllHeld-from_trees : (w : Store) (rs : List Term) (ts : List Tree) → HaveTrees w rs ts → AllHeld w rs
AllHeld-from_trees w [] ts h = AllHeld-nil w
AllHeld-from_trees w (r ∷ rs) [] h = absurd h
AllHeld-from_trees w (r ∷ rs) (t ∷ ts) h = AllHeld-cons w r rs (some-here h.0) (AllHeld-from_trees w rs ts h.1)

pub trees_from-AllHeld : (w : Store) (rs : List Term) → AllHeld w rs → (ts : List Tree) × HaveTrees w rs ts
trees_from-AllHeld w [] held = ([], tt)
trees_from-AllHeld w (r ∷ rs) held =
    let x = some-tree (tree_at w r) (AllHeld-first w r rs held) in
    let xs = trees_from-AllHeld w rs (AllHeld-rest w r rs held) in
    (x.0 ∷ xs.0, (x.1, xs.1))

-- the parts with one reference more on top
pub top-parts : (w : Store) (rest : List Term) (u : Term) (tree : Tree) → tree_at w u ≡ Some tree
    → all_parts w (rest ++ u ∷ []) ≡ all_parts w rest ++ parts tree
top-parts w rest u tree e = all_parts-append w rest (u ∷ []) ∙ rw e (ap (λ ps. all_parts w rest ++ ps) (append-nil (parts tree)))

module _ (w : Store) (rest inside notes : List Term) (u : Term) (tree : Tree) (here : tree_at w u ≡ Some tree)
    (covers : parts tree ≡ tree ∷ (all_parts w inside ++ all_parts w notes)) where
  before : all_parts w (rest ++ u ∷ []) ≡ all_parts w rest ++ tree ∷ (all_parts w inside ++ all_parts w notes)
  before = top-parts w rest u tree here ∙ ap (λ ps. all_parts w rest ++ ps) covers

  afterwards : all_parts w ((rest ++ inside) ++ notes) ≡ all_parts w rest ++ (all_parts w inside ++ all_parts w notes)
  afterwards = all_parts-append w (rest ++ inside) notes ∙ ap (λ ps. ps ++ all_parts w notes) (all_parts-append w rest inside)
      ∙ append_assoc (all_parts w rest) (all_parts w inside) (all_parts w notes)

  -- the node itself is the one part less
  pub less-left : length (all_parts w (rest ++ u ∷ [])) ≡ length (all_parts w ((rest ++ inside) ++ notes)) + 1
  less-left =
      let a = ap length before in
      let b = ap length afterwards in
      let c = length-append (all_parts w rest) (all_parts w inside ++ all_parts w notes) in
      let d = length-append (all_parts w rest) (tree ∷ (all_parts w inside ++ all_parts w notes)) in
      omega arith

-- what a node's two pushes leave on the stack
pub AllHeld-pushed : (w : Store) (rest inside notes : List Term) → AllHeld w rest → AllHeld w inside → AllHeld w notes → AllHeld w ((rest ++ inside) ++ notes)
AllHeld-pushed w rest inside notes p q r = AllHeld-append w (rest ++ inside) notes (AllHeld-append w rest inside p q) r

-- one turn of a walk: what is below the top took its place
pub walked : (w : Store) (old rest mid new : List Term) (u : Term) → old ≡ rest ++ u ∷ [] → PushesInside w u rest mid → PushesAnns w u mid new
    → AllHeld w old → AllHeld w new × (length (all_parts w old) ≡ length (all_parts w new) + 1)
walked w old rest mid new u popped p q held =
    let same : q.tree ≡ p.tree = (let x = p.here in let y = q.here in cc) in
    let at : new ≡ (rest ++ p.kids) ++ q.kids = q.pushed ∙ ap (λ xs. xs ++ q.kids) p.pushed in
    let covers : parts p.tree ≡ p.tree ∷ (all_parts w p.kids ++ all_parts w q.kids) =
    p.covers ∙ ap (λ ps. p.tree ∷ (all_parts w p.kids ++ ps)) (subst (λ t. annotation_parts (annotations t) ≡ all_parts w q.kids) same q.covers) in
    let below = (AllHeld-split w rest u (subst (AllHeld w) popped held)).0 in (
      subst (AllHeld w) (sym at) (AllHeld-pushed w rest p.kids q.kids below p.held q.held),
      (let l = less-left w rest p.kids q.kids u p.tree p.here covers in rw (at, popped) l),
    )

-- the walk begins with the one reference
pub begun : (w : Store) (t : Term) → IsSome (tree_at w t) → (m : ℕ)
    → option_and_then (λ u. Some (min (length (parts u)) m)) (tree_at w t) ≡ Some (min (0 + length (all_parts w (t ∷ []))) m)
begun w t held m = let x = some-tree (tree_at w t) held in rw x.1
    (ap (λ n. let o : Option ℕ = Some (min n m) in o) (ap length (sym (append-nil (parts x.0))) ∙ sym (zero-add (length (parts x.0 ++ [])))))

-- one node more counted, one left to count less
pub counted-turn : (count left all next most : ℕ) → next ≡ min (count + 1) most → all ≡ left + 1 → min (count + all) most ≡ min (next + left) most
counted-turn count left all next most p q = omega (arith, p, q)

pub counted-all : (w : Store) (xs : List Term) (count most : ℕ) → length xs ≡ 0 → count ≤ most → min (count + length (all_parts w xs)) most ≡ count
counted-all w [] count most e le = omega (arith, le)
counted-all w (x ∷ xs) count most e le = absurd (omega arith)
