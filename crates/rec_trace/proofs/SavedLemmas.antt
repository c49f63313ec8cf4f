-- The values that are in the list that a tracer keeps.
use Rattle.std.proofs.Common.{◌+◌, ◌-◌, ◌<◌, ◌≤◌, ℕ, arith, refl, sym, ap, subst, ◌∙◌, inl, inr, length, drop, get_or, take, take-take, take_all, take_at}
use Rattle.std.proofs.Common.{length-drop, take-append-drop}
use Rattle.std.proofs.lemmas.List.{drop-drop, get_or-reverse, length-reverse, length-take, map-append, reverse-append, take-map, take_more}
use Rattle.std.proofs.lemmas.List.Elements.{Contains-append_left}
use Rattle.std.specs.Prelude.{◌≡◌, List, [], ◌∷◌, ◌++◌, Option, Some, Contains, IsSome, map, reverse, unwrap_or}
use Rattle.rx_term.specs.Tree.{Tree, from_list, list_of, more, none}
use Rattle.rx_term.specs.Parts.{parts}
use Rattle.rx_term.specs.Store.{Store, longer, part_at, tail_of, tree_at}
use Rattle.rx_term.specs.Steps.{Keeps}
use Rattle.rx_term.specs.Walks.{AllHeld, held_tree, held_trees}
use Rattle.rx_term.specs.declared.Term.{Term}
use Rattle.rx_term.proofs.PartsLemmas.{cons_cases, cons_head, cons_tail, item-part, no_element, parts-self, parts-trans, rest-part}
use Rattle.rx_term.proofs.StoreLemmas.{some-value}
use Rattle.rx_term.proofs.WalkLemmas.{AllHeld-at, AllHeld-first, AllHeld-rest, AllHeld-take}
use Rattle.rec_trace.specs.Lists.{IsKept, IsList, IsSaved, Stays, listed, protected_instead}
use Rattle.rec_trace.specs.Rows.{KeepsParts, Lowers}
use Rattle.rec_trace.specs.Inner.Saving.{AreSaved, HasAll, KeepsLowest, KeepsSaved, Leaves, Lengthens, Saves, Shortens}
use Rattle.rec_trace.specs.declared.row.Row.{Row}
use Rattle.rec_trace.specs.declared.saved.Saved.{Saved}
use Rattle.rec_trace.proofs.ListLemmas.{is-list, items-are, kept-list, list-moved, longer-list, moved-tree, rooted, same-list}
use Rattle.rec_trace.proofs.ListLemmas.{stays-kept, stays-same, stays-trans, tail-is}

-- ---- elements of lists

in-map : {X Y : Type 0} (f : X → Y) (xs : List X) (x : X) → Contains xs x → Contains (map f xs) (f x)
in-map f [] x c = absurd (no_element x c)
in-map f (z ∷ xs) x c = elim (cons_cases z xs x c) [
  | inl e ↦ subst (λ y. Contains (f z ∷ map f xs) y) (ap f e) (cons_head (f z) (map f xs))
  | inr d ↦ cons_tail (f z) (map f xs) (f x) (in-map f xs x d)
]

pub in-take : {X : Type 0} (n : ℕ) (xs : List X) (x : X) → Contains (take n xs) x → Contains xs x
in-take n xs x c = subst (λ zs. Contains zs x) (take-append-drop n xs) (Contains-append_left (take n xs) (drop n xs) x c)

in-reverse : {X : Type 0} (xs : List X) (x : X) → Contains (reverse xs) x → Contains xs x
in-reverse xs x c =
    let long = length-reverse xs in
    let lt = c.1 in
    let low : c.0 < length xs = omega (arith, long, lt) in
    (length xs - 1 - c.0, omega (arith, low), sym (get_or-reverse xs c.0 x low) ∙ c.2)

-- an item is a part of a list
in-list : (xs : List Tree) (x : Tree) → Contains xs x → Contains (parts (list_of (from_list xs))) x
in-list [] x c = absurd (no_element x c)
in-list (z ∷ xs) x c = elim (cons_cases z xs x c) [
  | inl e ↦ subst (λ y. Contains (parts (list_of (more z (from_list xs)))) y) e (item-part z (from_list xs) none)
  | inr d ↦ parts-trans (list_of (more z (from_list xs))) (list_of (from_list xs)) x (rest-part z (from_list xs) none) (in-list xs x d)
]

-- ---- what stays

-- values whose parts stay are the same ones
pub same-tree : (w w' : Store) (vs : List Term) (r : Term) → IsSome (tree_at w r) → KeepsParts w w' vs → Contains vs r → tree_at w' r ≡ tree_at w r
same-tree w w' vs r held keeps c =
    let x = some-value (tree_at w r) held in
    let is : held_tree w r ≡ x.0 = ap (λ (o : Option Tree). unwrap_or o (list_of none)) x.1 in
    keeps r r x.0 c x.1 (subst (λ u. Contains (parts u) x.0) (sym is) (parts-self x.0)) ∙ sym x.1

pub parts-fewer : (w w' : Store) (vs us : List Term) → ((t : Term) → Contains us t → Contains vs t) → KeepsParts w w' vs → KeepsParts w w' us
parts-fewer w w' vs us within keeps t r u c = keeps t r u (within r c)

pub same-trees : (w w' : Store) (vs : List Term) → AllHeld w vs → KeepsParts w w' vs → held_trees w' vs ≡ held_trees w vs
same-trees w w' [] held keeps = refl
same-trees w w' (r ∷ vs) held keeps =
    let first = same-tree w w' (r ∷ vs) r (AllHeld-first w r vs held) keeps (cons_head r vs) in
    ap (λ (o : Option Tree). unwrap_or o (list_of none) ∷ held_trees w' vs) first
    ∙ ap (λ us. held_tree w r ∷ us)
    (same-trees w w' vs (AllHeld-rest w r vs held) (parts-fewer w w' (r ∷ vs) vs (λ t c. cons_tail r vs t c) keeps))

pub still-all-held : (w w' : Store) (vs : List Term) → AllHeld w vs → KeepsParts w w' vs → AllHeld w' vs
still-all-held w w' vs held keeps t c = subst IsSome (sym (same-tree w w' vs t (held t c) keeps c)) (held t c)

pub parts-both : (w w1 w2 : Store) (vs : List Term) → AllHeld w vs → KeepsParts w w1 vs → KeepsParts w1 w2 vs → KeepsParts w w2 vs
parts-both w w1 w2 vs held p q t r u c e part =
    let same : held_tree w1 r ≡ held_tree w r =
    ap (λ (o : Option Tree). unwrap_or o (list_of none)) (same-tree w w1 vs r (held r c) p c) in
    q t r u c (p t r u c e part) (subst (λ x. Contains (parts x) u) (sym same) part)

-- where no tree changes, all parts stay
pub parts-same : (w w' : Store) (vs : List Term) → ((t : Term) → tree_at w' t ≡ tree_at w t) → KeepsParts w w' vs
parts-same w w' vs trees t r u c e part = trees t ∙ e

-- a call that keeps values keeps their parts
pub call-parts : (w w' : Store) (vs us : List Term) → AllHeld w vs → Keeps w w' (vs ++ us) → KeepsParts w w' vs
call-parts w w' vs us held keeps t r u c e part =
    let x = some-value (tree_at w r) (held r c) in
    let is : held_tree w r ≡ x.0 = ap (λ (o : Option Tree). unwrap_or o (list_of none)) x.1 in
    keeps.trees t u e (r, (x.0, inr (Contains-append_left vs us r c), x.1, subst (λ y. Contains (parts y) u) is part))

items-in : (w : Store) (vs : List Term) (list : Term) (n : ℕ) → held_trees w vs ≡ take n (reverse (listed w list)) → HasAll w list vs
items-in w vs list n same r c = in-reverse (listed w list) (held_tree w r)
    (in-take n (reverse (listed w list)) (held_tree w r) (subst (λ us. Contains us (held_tree w r)) same (in-map (held_tree w) vs r c)))

-- values that are items of a list that is kept keep their parts
pub list-keeps : (w w' : Store) (vs : List Term) (list : Term) (work : List Term) → IsKept w list → HasAll w list vs → Keeps w w' work
    → KeepsParts w w' vs
list-keeps w w' vs list work kept all keeps t r u c e part =
    let whole = list_of (from_list (listed w list)) in
    keeps.trees t u e (
      list,
      (
        whole,
        inl (rooted w list kept),
        kept.list,
        parts-trans whole (held_tree w r) u (in-list (listed w list) (held_tree w r) (all r c)) part,
      ),
    )

items-keep : (w w' : Store) (vs : List Term) (list : Term) (n : ℕ) (work : List Term) → IsKept w list
    → held_trees w vs ≡ take n (reverse (listed w list)) → Keeps w w' work → KeepsParts w w' vs
items-keep w w' vs list n work kept same keeps = list-keeps w w' vs list work kept (items-in w vs list n same) keeps

-- ---- what is saved

-- an engine's call keeps the parts of what is saved
pub saved-keeps : (w w' : Store) (r : Row) (s : Saved) (n : ℕ) (work : List Term) → IsSaved w r s → AllHeld w r.values.items → n ≤ r.low → Keeps w w' work
    → KeepsParts w w' (take n r.values.items)
saved-keeps w w' r s n work saved held le keeps = parts-fewer w w' (take r.low r.values.items) (take n r.values.items)
    (λ t c. in-take n (take r.low r.values.items) t (subst (λ vs. Contains vs t) (sym (take-take n r.low r.values.items le)) c))
    (items-keep w w' (take r.low r.values.items) s.list r.low work saved.kept saved.same keeps)

-- an engine's call keeps what is saved
pub saved-stays : (w w' : Store) (r : Row) (s : Saved) (work : List Term) → IsSaved w r s → AllHeld w r.values.items → Keeps w w' work → IsSaved w' r s
saved-stays w w' r s work saved held keeps =
    let list : listed w' s.list ≡ listed w s.list = kept-list w w' work s.list saved.kept keeps in
    let low = take r.low r.values.items in
    record {
      kept = (stays-kept w w' work s.list saved.kept keeps).kept;
      counted = ap length list ∙ saved.counted;
      low = saved.low;
      within = saved.within;
      same = same-trees w w' low (AllHeld-take w r.values.items r.low held)
          (items-keep w w' low s.list r.low work saved.kept saved.same keeps) ∙ saved.same ∙ sym (ap (λ xs. take r.low (reverse xs)) list);
    }

-- fewer of the lowest values are said to have stayed
pub saved-lowers : (w : Store) (old new : Row) (s : Saved) → IsSaved w old s → Lowers old new → IsSaved w new s
saved-lowers w old new s saved lowers = record {
  kept = saved.kept;
  counted = saved.counted;
  low = (let a = lowers.low in let b = saved.low in omega (arith, a, b));
  within = lowers.within saved.within;
  same = ap (held_trees w) lowers.values ∙ sym (ap (held_trees w) (take-take new.low old.low old.values.items lowers.low))
      ∙ sym (take-map (held_tree w) new.low (take old.low old.values.items)) ∙ ap (take new.low) saved.same
      ∙ take-take new.low old.low (reverse (listed w s.list)) lowers.low;
}

-- ---- fewer are saved

-- as far as the list was gone down
pub record IsStale (w : Store) (old : Saved) (count : ℕ) (list : Term) (left : ℕ) : Type 0 where
  pub list_is : IsList w list
  pub items : listed w list ≡ drop (old.count - left) (listed w old.list)
  pub most : left ≤ old.count
  pub least : old.count - (old.count - count) ≤ left

pub stale-first : (w : Store) (old : Saved) (count : ℕ) → IsKept w old.list → IsStale w old count old.list old.count
stale-first w old count kept = record {
  list_is = kept.list;
  items = ap (λ k. drop k (listed w old.list)) (let z : 0 ≡ old.count - old.count = omega arith in z);
  most = omega arith;
  least = omega arith;
}

pub stale-some : (w : Store) (old : Saved) (count : ℕ) (list : Term) (left : ℕ) → length (listed w old.list) ≡ old.count → IsStale w old count list left
    → count < left → 0 < length (listed w list)
stale-some w old count list left counted h lt =
    let long = ap length h.items ∙ length-drop (old.count - left) (listed w old.list) in
    let most = h.most in omega (arith, long, counted, most, lt)

pub stale-next : (w : Store) (old : Saved) (count : ℕ) (list rest : Term) (left : ℕ) → length (listed w old.list) ≡ old.count
    → IsStale w old count list left → count < left → tree_at w rest ≡ part_at tail_of w list → IsStale w old count rest (left - 1)
stale-next w old count list rest left counted h lt made =
    let some = stale-some w old count list left counted h lt in
    let is : tree_at w rest ≡ Some (list_of (from_list (drop 1 (listed w list)))) = made ∙ tail-is w list h.list_is some in
    let most = h.most in
    let least = h.least in
    record {
      list_is = is-list w rest (drop 1 (listed w list)) is;
      items = items-are w rest (drop 1 (listed w list)) is ∙ ap (drop 1) h.items ∙ drop-drop 1 (old.count - left) (listed w old.list)
          ∙ ap (λ k. drop k (listed w old.list)) (let z : old.count - left + 1 ≡ old.count - (left - 1) = omega (arith, most, lt) in z);
      most = omega (arith, most);
      least = omega (arith, least, lt, most);
    }

pub stale-all : (w w' : Store) (old new : Saved) (count : ℕ) → IsStale w old count new.list new.count → new.count ≤ count
    → ((t : Term) → tree_at w' t ≡ tree_at w t) → Shortens w w' old new count
stale-all w w' old new count h le trees =
    let most = h.most in
    let least = h.least in
    let left : new.count ≡ old.count - (old.count - count) = omega (arith, most, least, le) in
    let gone : old.count - new.count ≡ old.count - count = omega (arith, most, least, le) in
    record {
      left = left;
      items = (same-list w w' new.list (trees new.list) h.list_is).1 ∙ h.items ∙ ap (λ k. drop k (listed w old.list)) gone;
    }

reverse-drop : (xs : List Tree) (k : ℕ) → k ≤ length xs → reverse (drop (length xs - k) xs) ≡ take k (reverse xs)
reverse-drop xs k le =
    let j = length xs - k in
    let long = length-reverse (drop j xs) ∙ length-drop j xs in
    sym (ap (λ zs. take k (reverse zs)) (sym (take-append-drop j xs)) ∙ ap (take k) (reverse-append (take j xs) (drop j xs))
    ∙ take_at (reverse (drop j xs)) (reverse (take j xs)) k (omega (arith, long, le)))

-- the values that stayed are saved
pub shortened : (w w' : Store) (r : Row) (old new : Saved) → IsSaved w r old → ((t : Term) → tree_at w' t ≡ tree_at w t)
    → Shortens w w' old new r.low → AreSaved w' r.values.items new
shortened w w' r old new saved trees h =
    let low = saved.low in
    let counted = saved.counted in
    let left = h.left in
    let is : new.count ≡ r.low = omega (arith, left, low) in
    let long = ap length h.items ∙ length-drop (old.count - r.low) (listed w old.list) in
    let within = saved.within in
    let same : held_trees w' (take r.low r.values.items) ≡ held_trees w (take r.low r.values.items) =
    ap (λ (f : Term → Tree). map f (take r.low r.values.items)) (λ i t. unwrap_or (trees t i) (list_of none)) in
    record {
      within = omega (arith, within, is);
      counted = omega (arith, long, counted, is, low);
      same = ap (λ k. held_trees w' (take k r.values.items)) is ∙ same ∙ saved.same
          ∙ sym (reverse-drop (listed w old.list) r.low (omega (arith, low, counted)))
          ∙ ap (λ k. reverse (drop (k - r.low) (listed w old.list))) counted ∙ sym (ap reverse h.items);
    }

-- ---- more are saved

pub more-saved : (w w1 w2 : Store) (vs : List Term) (s : Saved) (list : Term) (d : Term) → IsKept w s.list → AllHeld w vs → AreSaved w vs s
    → s.count < length vs → Keeps w w1 (vs ++ s.list ∷ []) → tree_at w1 list ≡ longer (tree_at w (get_or vs s.count d)) (tree_at w s.list)
    → ((t : Term) → tree_at w2 t ≡ tree_at w1 t) → AreSaved w2 vs (record { list = list; count = s.count + 1 })
more-saved w w1 w2 vs s list d kept held saved lt keeps made trees =
    let value = get_or vs s.count d in
    let items = held_tree w value ∷ listed w s.list in
    let is : tree_at w2 list ≡ Some (list_of (from_list items)) =
    trees list ∙ made ∙ longer-list w value s.list (AllHeld-at w vs s.count d held lt) kept.list in
    let now : listed w2 list ≡ items = items-are w2 list items is in
    let parts : KeepsParts w w2 vs = parts-both w w1 w2 vs held (call-parts w w1 vs (s.list ∷ []) held keeps) (parts-same w1 w2 vs trees) in
    let low = take (s.count + 1) vs in
    let counted = saved.counted in
    let long = ap length now in
    record {
      within = omega (arith, lt);
      counted = omega (arith, long, counted);
      same = same-trees w w2 low (AllHeld-take w vs (s.count + 1) held) (parts-fewer w w2 vs low (λ t c. in-take (s.count + 1) vs t c) parts)
          ∙ ap (held_trees w) (take_more vs s.count d lt) ∙ map-append (held_tree w) (take s.count vs) (value ∷ [])
          ∙ ap (λ us. us ++ (held_tree w value ∷ [])) saved.same ∙ sym (reverse-append (held_tree w value ∷ []) (listed w s.list)) ∙ sym (ap reverse now);
    }

-- as far as values were saved
pub record IsSaving (w0 w : Store) (old now : Saved) (vs0 vs : List Term) (count : ℕ) : Type 0 where
  pub stays : Stays w0 w old.list now.list
  pub values : vs ≡ vs0
  pub first : AllHeld w0 vs0
  pub held : AllHeld w vs
  pub parts : KeepsParts w0 w vs0
  pub saved : AreSaved w vs now
  pub within : count ≤ length vs
  pub enough : old.count ≤ now.count

pub saving-first : (w : Store) (s : Saved) (vs : List Term) (count : ℕ) → IsKept w s.list → AllHeld w vs → AreSaved w vs s → count ≤ length vs
    → IsSaving w w s s vs vs count
saving-first w s vs count kept held saved le = record {
  stays = stays-same w s.list kept;
  values = refl;
  first = held;
  held = held;
  parts = parts-same w w vs (λ t. refl);
  saved = saved;
  within = le;
  enough = omega arith;
}

pub saving-next : (w0 w w1 w2 : Store) (old now : Saved) (vs0 vs vs' : List Term) (count : ℕ) (list : Term) → IsSaving w0 w old now vs0 vs count
    → now.count < count → Keeps w w1 (vs ++ now.list ∷ []) → vs' ≡ vs
    → tree_at w1 list ≡ longer (tree_at w (get_or vs now.count now.list)) (tree_at w now.list) → w2 ≡ protected_instead w1 now.list list
    → IsSaving w0 w2 old (record { list = list; count = now.count + 1 }) vs0 vs' count
saving-next w0 w w1 w2 old now vs0 vs vs' count list h lt keeps same made e =
    let within = h.within in
    let kept = h.stays.kept in
    let low : now.count < length vs = omega (arith, within, lt) in
    let trees : ((t : Term) → tree_at w2 t ≡ tree_at w1 t) = λ t. moved-tree w1 w2 now.list list t e in
    let items = held_tree w (get_or vs now.count now.list) ∷ listed w now.list in
    let is : tree_at w1 list ≡ Some (list_of (from_list items)) =
    made ∙ longer-list w (get_or vs now.count now.list) now.list (AllHeld-at w vs now.count now.list h.held low) kept.list in
    let called = stays-kept w w1 (vs ++ now.list ∷ []) now.list kept keeps in
    let parts : KeepsParts w w2 vs = parts-both w w1 w2 vs h.held (call-parts w w1 vs (now.list ∷ []) h.held keeps) (parts-same w1 w2 vs trees) in
    subst (λ us. IsSaving w0 w2 old (record { list = list; count = now.count + 1 }) vs0 us count) (sym same) (record {
      stays = stays-trans h.stays (stays-trans called (list-moved w1 w2 now.list list called.kept (is-list w1 list items is) e));
      values = h.values;
      first = h.first;
      held = still-all-held w w2 vs h.held parts;
      parts = parts-both w0 w w2 vs0 h.first h.parts (subst (λ us. KeepsParts w w2 us) h.values parts);
      saved = more-saved w w1 w2 vs now list now.list kept h.held h.saved low keeps made trees;
      within = h.within;
      enough = (let enough = h.enough in omega (arith, enough));
    })

-- and a call was refused
pub saving-refused : (w0 w w1 : Store) (old now : Saved) (vs0 vs vs' : List Term) (count : ℕ) → IsSaving w0 w old now vs0 vs count
    → Keeps w w1 (vs ++ now.list ∷ []) → take (length vs) vs' ≡ vs → KeepsLowest w0 w1 vs0 vs' old now
saving-refused w0 w w1 old now vs0 vs vs' count h keeps below =
    let parts : KeepsParts w w1 vs = call-parts w w1 vs (now.list ∷ []) h.held keeps in
    let list : listed w1 now.list ≡ listed w now.list = kept-list w w1 (vs ++ now.list ∷ []) now.list h.stays.kept keeps in
    let saved : AreSaved w1 vs now = record {
      within = h.saved.within;
      counted = ap length list ∙ h.saved.counted;
      same = same-trees w w1 (take now.count vs) (AllHeld-take w vs now.count h.held)
          (parts-fewer w w1 vs (take now.count vs) (λ t c. in-take now.count vs t c) parts) ∙ h.saved.same ∙ sym (ap reverse list);
    } in
    record {
      values = ap (λ us. take (length us) vs') (sym h.values) ∙ below ∙ h.values;
      parts = parts-both w0 w w1 vs0 h.first h.parts (subst (λ us. KeepsParts w w1 us) h.values parts);
      saved = subst (λ us. AreSaved w1 us now) h.values saved;
      enough = h.enough;
    }

-- ---- a row's values are saved

longer-than : (n : ℕ) (xs ys : List Term) → length ys ≡ n → take n xs ≡ ys → n ≤ length xs
longer-than n xs ys long e =
    let some = ap length e in
    omega (arith, some, long, length-take n xs)

pub row-saved : (w w1 w2 : Store) (old new : Row) (s : Saved) (count : ℕ) → AllHeld w old.values.items
    → ((t : Term) → tree_at w1 t ≡ tree_at w t) → new.steps ≡ old.steps → new.low ≡ s.count → IsKept w2 s.list
    → Lengthens w1 w2 old.values.items new.values.items s count → Saves w w2 old new s count
row-saved w w1 w2 old new s count held trees steps low kept h =
    let enough = h.enough in
    let within = h.saved.within in
    record {
      steps = steps;
      values = h.values;
      parts = parts-both w w1 w2 old.values.items held (parts-same w w1 old.values.items trees) h.parts;
      saved = record {
        kept = kept;
        counted = h.saved.counted;
        low = omega (arith, low);
        within = omega (arith, low, within);
        same = ap (λ k. held_trees w2 (take k new.values.items)) low ∙ h.saved.same
            ∙ sym (take_all new.low (reverse (listed w2 s.list))
            (let long = length-reverse (listed w2 s.list) in let counted = h.saved.counted in omega (arith, long, counted, low)));
      };
      enough = omega (arith, low, enough);
    }

-- and so the row's values and steps stay
pub row-kept : (w w2 : Store) (old new : Row) (s : Saved) (count : ℕ) → Saves w w2 old new s count → KeepsSaved w w2 old new s
row-kept w w2 old new s count saves = record {
  steps = saves.steps;
  values = ap (take (length old.values.items)) saves.values ∙ take_all (length old.values.items) old.values.items (omega arith);
  parts = saves.parts;
  saved = saves.saved;
}

-- also where it was refused to forget some
pub row-stays : (w w1 : Store) (r : Row) (old new : Saved) → IsSaved w r old → ((t : Term) → tree_at w1 t ≡ tree_at w t) → IsKept w1 new.list
    → new ≡ old → KeepsSaved w w1 r r new
row-stays w w1 r old new saved trees kept is =
    let list : listed w1 old.list ≡ listed w old.list = (same-list w w1 old.list (trees old.list) saved.kept.list).1 in
    let same : held_trees w1 (take r.low r.values.items) ≡ held_trees w (take r.low r.values.items) =
    ap (λ (f : Term → Tree). map f (take r.low r.values.items)) (λ i t. unwrap_or (trees t i) (list_of none)) in
    record {
      steps = refl;
      values = take_all (length r.values.items) r.values.items (omega arith);
      parts = parts-same w w1 r.values.items trees;
      saved = subst (λ s. IsSaved w1 r s) (sym is) (record {
        kept = subst (λ s. IsKept w1 s.list) is kept;
        counted = ap length list ∙ saved.counted;
        low = saved.low;
        within = saved.within;
        same = same ∙ saved.same ∙ sym (ap (λ xs. take r.low (reverse xs)) list);
      });
    }

-- and where it was refused to save more
pub row-refused : (w w1 w2 : Store) (old new : Row) (first mid s : Saved) → AllHeld w old.values.items → IsSaved w old first
    → ((t : Term) → tree_at w1 t ≡ tree_at w t) → Shortens w w1 first mid old.low → new.steps ≡ old.steps → new.low ≡ old.low → IsKept w2 s.list
    → KeepsLowest w1 w2 old.values.items new.values.items mid s → KeepsSaved w w2 old new s
row-refused w w1 w2 old new first mid s held saved trees shortens steps low kept h =
    let vs = old.values.items in
    let n = length vs in
    let within = saved.within in
    let lowest = saved.low in
    let left = shortens.left in
    let enough = h.enough in
    let some : new.low ≤ s.count = omega (arith, low, lowest, left, enough) in
    let long : n ≤ length new.values.items = longer-than n new.values.items vs refl h.values in
    record {
      steps = steps;
      values = h.values;
      parts = parts-both w w1 w2 vs held (parts-same w w1 vs trees) h.parts;
      saved = record {
        kept = kept;
        counted = h.saved.counted;
        low = some;
        within = omega (arith, low, within, long);
        same = ap (held_trees w2) (sym (take-take new.low n new.values.items (omega (arith, low, within))) ∙ ap (take new.low) h.values
            ∙ sym (take-take new.low s.count vs some)) ∙ sym (take-map (held_tree w2) new.low (take s.count vs)) ∙ ap (take new.low) h.saved.same;
      };
    }

-- ---- all of a row's values are saved, and the lowest are left

pub row-left : (w w1 : Store) (old mid new : Row) (s : Saved) (count : ℕ) → count ≤ length old.values.items → KeepsSaved w w1 old mid s
    → new.steps ≡ mid.steps → new.values.items ≡ take count mid.values.items → Lowers mid new → Leaves w w1 old new s count
row-left w w1 old mid new s count le keeps steps values lowers = record {
  steps = steps ∙ keeps.steps;
  values = values ∙ sym (take-take count (length old.values.items) mid.values.items le) ∙ ap (take count) keeps.values;
  parts = keeps.parts;
  saved = saved-lowers w1 mid new s keeps.saved lowers;
}

pub all-saved : (w w1 : Store) (old mid : Row) (s : Saved) (n : ℕ) → n ≡ length old.values.items → Saves w w1 old mid s n
    → HasAll w1 s.list old.values.items
all-saved w w1 old mid s n many saves =
    let enough = saves.enough in
    let long = ap length saves.values in
    let are : take mid.low mid.values.items ≡ old.values.items =
    take_all mid.low mid.values.items (omega (arith, enough, many, long)) ∙ saves.values in
    items-in w1 old.values.items s.list mid.low (ap (held_trees w1) (sym are) ∙ saves.saved.same)
