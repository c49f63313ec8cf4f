-- A list of terms that keep the rules, and a bank that holds it.
use Rattle.std.proofs.Common.{◌≡◌, ℕ, zero, suc, ◌+◌, ◌<◌, ◌≤◌, Bool, false, List, [], ◌∷◌, Some, None, Contains}
use Rattle.std.proofs.Common.{inl, inr, get_or, drop, length, append-nil, refl, sym, ap, subst, ◌∙◌, arith}
use Rattle.std.specs.Prelude.{flat_map, is_some}
use Rattle.std.specs.Option.{option_and_then}
use Rattle.std.specs.List.{list_any, AllByRecursion, IsDistinct}
use Rattle.std.specs.FinMap as map
use Rattle.std.proofs.lemmas.List.{length-map}
use Rattle.std.proofs.lemmas.Map.Made.{is_member-Decides, length-le_from_is_member}
use Rattle.rx_term.specs.Tree.{Tree, Items, none, more, count_of, tree_eq, from_list, list_of}
use Rattle.rx_term.specs.Kinds.{HasKind}
use Rattle.rx_term.specs.Parts.{parts}
use Rattle.rx_term.specs.Steps.{IsSound, Keeps}
use Rattle.rx_term.specs.Store.{Store, tree_at, cells, part_at, head_of, tail_of}
use Rattle.rx_term.specs.declared.Kind.{Kind}
use Rattle.rx_term.specs.declared.Kind.TheVariants as kind
use Rattle.rx_term.specs.declared.Term.{Term as Reference}
use Rattle.rx_term.proofs.KeepLemmas.{kept-root}
use Rattle.rx_term.proofs.PartsLemmas.{cons_cases, item-part, no_element, parts-self, parts-trans, rest-part}
use Rattle.rx_term.proofs.TreeLemmas.{tree_eq-Decides, to_from_list, length-to_list}
use Rattle.rec_syntax.specs.Syntax.{Spec}
use Rattle.rec_sorts.specs.TermRules.{nodes, nodes_all, arguments, first_passed, is_no_application, is_annotated}
use Rattle.rec_sorts.specs.TermRules.{is_undeclared, is_ill_filled, is_ill_sorted, broken_by_elements}
use Rattle.rec_engine.specs.Engine.{IsGround}
use Rattle.rx_run.proofs.CountedPartLemmas.{different, listed, tree_equivalence, trees}
use Rattle.rec_run.specs.EvaluatedLines.{StaysFor}
use Rattle.rec_run.specs.declared.options.LimitLines.{LimitLines}
use Rattle.rec_run.specs.declared.options.LimitLines.TheVariants.{Bare, Annotated}
use Rattle.rec_run.proofs.GivenLemmas.{any_parts, got_at, not_passed}

-- ---- each term is ground

-- no rule is broken
record KeepsAll (y : Spec) (us : List Tree) : Type 0 where
  applications : list_any is_no_application (flat_map nodes us) ≡ false
  plain : list_any is_annotated (flat_map (λ u. nodes_all (arguments u)) us) ≡ false
  declared : list_any (is_undeclared y) (flat_map nodes us) ≡ false
  filled : list_any (is_ill_filled y) (flat_map nodes us) ≡ false
  sorted : list_any (is_ill_sorted y) (flat_map nodes us) ≡ false

keeps-all : (y : Spec) (us : List Tree) → broken_by_elements y us ≡ None → KeepsAll y us
keeps-all y us e =
    let inner = list_any is_annotated (flat_map (λ u. nodes_all (arguments u)) us) in
    let undeclared = list_any (is_undeclared y) (flat_map nodes us) in
    let ill_filled = list_any (is_ill_filled y) (flat_map nodes us) in
    let ill_sorted = list_any (is_ill_sorted y) (flat_map nodes us) in
    let second = not_passed 2 (list_any is_no_application (flat_map nodes us)) (inner ∷ undeclared ∷ ill_filled ∷ ill_sorted ∷ []) e in
    let third = not_passed 3 inner (undeclared ∷ ill_filled ∷ ill_sorted ∷ []) second.1 in
    let fourth = not_passed 4 undeclared (ill_filled ∷ ill_sorted ∷ []) third.1 in
    let fifth = not_passed 5 ill_filled (ill_sorted ∷ []) fourth.1 in
    record { applications = second.0; plain = third.0; declared = fourth.0; filled = fifth.0; sorted = (not_passed 6 ill_sorted [] fifth.1).0 }

none-broken : (y : Spec) (us : List Tree) → KeepsAll y us → broken_by_elements y us ≡ None
none-broken y us k =
    let a = k.applications in
    let b = k.plain in
    let c = k.declared in
    let d = k.filled in
    let e = k.sorted in
    λ i. first_passed 2 (a i ∷ b i ∷ c i ∷ d i ∷ e i ∷ [])

-- of a first element and the others
first-none : (p : Tree → Bool) (f : Tree → List Tree) (u : Tree) (us : List Tree) → list_any p (flat_map f (u ∷ us)) ≡ false
    → list_any p (flat_map f (u ∷ [])) ≡ false
first-none p f u us e = ap (list_any p) (append-nil (f u)) ∙ (any_parts p (f u) (flat_map f us) e).0

others-none : (p : Tree → Bool) (f : Tree → List Tree) (u : Tree) (us : List Tree) → list_any p (flat_map f (u ∷ us)) ≡ false
    → list_any p (flat_map f us) ≡ false
others-none p f u us e = (any_parts p (f u) (flat_map f us) e).1

first-ground : (y : Spec) (u : Tree) (us : List Tree) → KeepsAll y (u ∷ us) → IsGround y u
first-ground y u us k = none-broken y (u ∷ []) (record {
  applications = first-none is_no_application nodes u us k.applications;
  plain = first-none is_annotated (λ t. nodes_all (arguments t)) u us k.plain;
  declared = first-none (is_undeclared y) nodes u us k.declared;
  filled = first-none (is_ill_filled y) nodes u us k.filled;
  sorted = first-none (is_ill_sorted y) nodes u us k.sorted;
})

others-keep : (y : Spec) (u : Tree) (us : List Tree) → KeepsAll y (u ∷ us) → KeepsAll y us
others-keep y u us k = record {
  applications = others-none is_no_application nodes u us k.applications;
  plain = others-none is_annotated (λ t. nodes_all (arguments t)) u us k.plain;
  declared = others-none (is_undeclared y) nodes u us k.declared;
  filled = others-none (is_ill_filled y) nodes u us k.filled;
  sorted = others-none (is_ill_sorted y) nodes u us k.sorted;
}

ground-at : (y : Spec) (us : List Tree) → KeepsAll y us → (i : ℕ) (u : Tree) (vs : List Tree) → drop i us ≡ u ∷ vs → IsGround y u
ground-at y [] k zero u vs e = absurd (cc e)
ground-at y [] k (suc i) u vs e = absurd (cc e)
ground-at y (t ∷ us) k zero u vs e = let same : t ≡ u = cc e in subst (IsGround y) same (first-ground y t us k)
ground-at y (t ∷ us) k (suc i) u vs e = ground-at y us (others-keep y t us k) i u vs e

-- each element of a list of terms that keep the rules is ground
pub each_ground : (y : Spec) (us : List Tree) → broken_by_elements y us ≡ None → (i : ℕ) (u : Tree) (vs : List Tree) → drop i us ≡ u ∷ vs → IsGround y u
each_ground y us e = ground-at y us (keeps-all y us e)

-- ---- the rests of a list

-- each rest is a part of the list
rest_part : (us : List Tree) (i : ℕ) → Contains (parts (list_of (from_list us))) (list_of (from_list (drop i us)))
rest_part [] zero = parts-self (list_of none)
rest_part [] (suc i) = parts-self (list_of none)
rest_part (u ∷ us) zero = parts-self (list_of (from_list (u ∷ us)))
rest_part (u ∷ us) (suc i) = parts-trans (list_of (from_list (u ∷ us))) (list_of (from_list us)) (list_of (from_list (drop i us)))
    (rest-part u (from_list us) none) (rest_part us i)

-- so it stays where the list is protected
pub kept_rest : (old new : Store) (list rest : Reference) (us : List Tree) (i : ℕ) → Keeps old new []
    → tree_at old list ≡ Some (list_of (from_list us)) → 0 < old.roots list.0
    → tree_at old rest ≡ Some (list_of (from_list (drop i us))) → tree_at new rest ≡ Some (list_of (from_list (drop i us)))
kept_rest old new list rest us i keeps held protected here =
    keeps.trees rest (list_of (from_list (drop i us))) here (list, (list_of (from_list us), inl protected, held, rest_part us i))

-- also where the list was protected before
kept_later : (first old new : Store) (list rest : Reference) (us : List Tree) (i : ℕ) → Keeps first old [] → Keeps old new []
    → tree_at first list ≡ Some (list_of (from_list us)) → 0 < first.roots list.0
    → tree_at old rest ≡ Some (list_of (from_list (drop i us))) → tree_at new rest ≡ Some (list_of (from_list (drop i us)))
kept_later first old new list rest us i before keeps held protected here =
    kept_rest old new list rest us i keeps (kept-root before list protected (ap is_some held) ∙ held)
    (subst (λ roots. 0 < roots list.0) (sym before.beside.roots) protected) here

-- the term at the front of a rest
pub record FrontAt (y : Spec) (w : Store) (us : List Tree) (rest : Reference) (i : ℕ) : Type 0 where
  pub tree : Tree
  pub low : i < length us
  pub got : get_or us i (list_of none) ≡ tree
  pub first : part_at head_of w rest ≡ Some tree
  pub others : part_at tail_of w rest ≡ Some (list_of (from_list (drop (i + 1) us)))
  pub is_ground : IsGround y tree

further : (us : List Tree) (i : ℕ) (u : Tree) (vs : List Tree) → drop i us ≡ u ∷ vs → drop (i + 1) us ≡ vs
further [] zero u vs e = absurd (cc e)
further [] (suc i) u vs e = absurd (cc e)
further (t ∷ us) zero u vs e = cc e
further (t ∷ us) (suc i) u vs e = let k : suc i + 1 ≡ suc (i + 1) = omega arith in ap (λ n. drop n (t ∷ us)) k ∙ further us i u vs e

pub front_there : (y : Spec) (w : Store) (us : List Tree) (rest : Reference) (i : ℕ) → broken_by_elements y us ≡ None
    → tree_at w rest ≡ Some (list_of (from_list (drop i us))) → HasKind w rest kind.Cons → FrontAt y w us rest i
front_there y w us rest i kept here cons = by (drop i us) refl
  where
    by : (vs : List Tree) → drop i us ≡ vs → FrontAt y w us rest i
    by [] e = absurd (let no : Some (list_of none) ≡ Some (Items (more cons.first cons.rest) cons.anns) =
        ap (λ ts. Some (list_of (from_list ts))) (sym e) ∙ sym here ∙ cons.here in cc no)
    by (v ∷ vs) e =
        let at = got_at us i v vs (list_of none) e in
        let there : tree_at w rest ≡ Some (list_of (more v (from_list vs))) = here ∙ ap (λ ts. Some (list_of (from_list ts))) e in
        record {
          tree = v;
          low = at.0;
          got = at.1;
          first = ap (option_and_then head_of) there;
          others = ap (option_and_then tail_of) there ∙ ap (λ ts. Some (list_of (from_list ts))) (sym (further us i v vs e));
          is_ground = each_ground y us kept i v vs e;
        }

-- each item is a part of the list
item_at_part : (us : List Tree) (i : ℕ) (u : Tree) (vs : List Tree) → drop i us ≡ u ∷ vs → Contains (parts (list_of (from_list us))) u
item_at_part us i u vs e = parts-trans (list_of (from_list us)) (list_of (from_list (drop i us))) u (rest_part us i)
    (subst (λ ts. Contains (parts (list_of (from_list ts))) u) (sym e) (item-part u (from_list vs) none))

-- so it stays where the list is protected, as it was before
pub front_stays : (y : Spec) (first old : Store) (list rest r : Reference) (us : List Tree) (i : ℕ) (limits : LimitLines) → Keeps first old []
    → tree_at first list ≡ Some (list_of (from_list us)) → 0 < first.roots list.0
    → tree_at old rest ≡ Some (list_of (from_list (drop i us))) → (front : FrontAt y old us rest i) → tree_at old r ≡ Some front.tree → StaysFor limits old r
front_stays y first old list rest r us i Bare before held protected here front there = tt
front_stays y first old list rest r us i Annotated before held protected here front there = λ new keeps. by (drop i us) refl new keeps
  where
    at_list : tree_at old list ≡ Some (list_of (from_list us))
    at_list = kept-root before list protected (ap is_some held) ∙ held

    still : 0 < old.roots list.0
    still = subst (λ roots. 0 < roots list.0) (sym before.beside.roots) protected

    by : (vs : List Tree) → drop i us ≡ vs → (new : Store) → Keeps old new [] → tree_at new r ≡ tree_at old r
    by [] e new keeps = absurd (cc (front.first, ap (option_and_then head_of) (here ∙ ap (λ ts. Some (list_of (from_list ts))) e)))
    by (v ∷ vs) e new keeps =
        let first_is : Some v ≡ Some front.tree = sym (ap (option_and_then head_of) (here ∙ ap (λ ts. Some (list_of (from_list ts))) e)) ∙ front.first in
        let same : v ≡ front.tree = cc first_is in
        keeps.trees r front.tree there (
          list,
          (
            list_of (from_list us),
            inl still,
            at_list,
            subst (λ u. Contains (parts (list_of (from_list us))) u) same (item_at_part us i v vs e),
          ),
        ) ∙ sym there

-- behind it the other items are left, also later
pub others_later : (y : Spec) (first old new : Store) (list rest : Reference) (us : List Tree) (i : ℕ) → Keeps first old [] → Keeps old new []
    → tree_at first list ≡ Some (list_of (from_list us)) → 0 < first.roots list.0
    → tree_at old rest ≡ Some (list_of (from_list (drop i us))) → FrontAt y old us rest i
    → part_at tail_of new rest ≡ Some (list_of (from_list (drop (i + 1) us)))
others_later y first old new list rest us i before keeps held protected here front =
    ap (option_and_then tail_of) (kept_later first old new list rest us i before keeps held protected here ∙ sym here) ∙ front.others

-- where a rest is no list with a first item, no item is left
pub no_front : (w : Store) (us : List Tree) (rest : Reference) (i : ℕ) (k : Kind) → tree_at w rest ≡ Some (list_of (from_list (drop i us)))
    → HasKind w rest k → (k ≡ kind.Cons → ⊥) → length us ≤ i
no_front w us rest i k here is other = by (drop i us) refl
  where
    left : (us : List Tree) (i : ℕ) → drop i us ≡ [] → length us ≤ i
    left [] zero e = omega arith
    left [] (suc i) e = omega arith
    left (u ∷ us) zero e = absurd (cc e)
    left (u ∷ us) (suc i) e = let k = left us i e in omega (arith, k)

    cons_alone : (v : Tree) (vs : List Tree) → tree_at w rest ≡ Some (list_of (from_list (v ∷ vs))) → (k : Kind) → HasKind w rest k → (k ≡ kind.Cons → ⊥) → ⊥
    cons_alone v vs there (kind.Int z) h other = let no = sym there ∙ h.here in absurd (cc no)
    cons_alone v vs there kind.Nil h other = let no = sym there ∙ h.here in absurd (cc no)
    cons_alone v vs there kind.Cons h other = other refl
    cons_alone v vs there (kind.Appl s) h other = let no = sym there ∙ h.here in absurd (cc no)
    cons_alone v vs there kind.Hole h other = let no = sym there ∙ h.here in absurd (cc no)

    by : (vs : List Tree) → drop i us ≡ vs → length us ≤ i
    by [] e = left us i e
    by (v ∷ vs) e = absurd (cons_alone v vs (here ∙ ap (λ ts. Some (list_of (from_list ts))) e) k is other)

-- ---- a list has fewer items than its bank has cells

-- the list and all its rests
abbrev rests : List Tree → List Tree
rests [] = list_of none ∷ []
rests (u ∷ us) = list_of (from_list (u ∷ us)) ∷ rests us

length-rests : (us : List Tree) → length (rests us) ≡ suc (length us)
length-rests [] = refl
length-rests (u ∷ us) = ap suc (length-rests us)

-- how many items a list has
abbrev size : Tree → ℕ
size (Items items anns) = count_of items
size t = 0

sized : (us : List Tree) → count_of (from_list us) ≡ length us
sized us = sym (length-to_list (from_list us)) ∙ ap length (to_from_list us)

longer_differs : (us vs : List Tree) → length vs < length us → tree_eq (list_of (from_list us)) (list_of (from_list vs)) ≡ false
longer_differs us vs h = different (list_of (from_list us)) (list_of (from_list vs)) (λ e. let same : length us ≡ length vs =
    sym (sized us) ∙ ap size e ∙ sized vs in omega (arith, h, same))

each_differs : (us vs : List Tree) → length vs < length us → AllByRecursion (λ z. tree_eq (list_of (from_list us)) z ≡ false) (rests vs)
each_differs us [] h = (longer_differs us [] h, tt)
each_differs us (v ∷ vs) h = (longer_differs us (v ∷ vs) h, each_differs us vs (omega (arith, h)))

rests-distinct : (us : List Tree) → IsDistinct tree_eq (rests us)
unfolding IsDistinct
rests-distinct [] = (tt, tt)
rests-distinct (u ∷ us) = (each_differs (u ∷ us) us (omega arith), rests-distinct us)

rests-parts : (us : List Tree) (q : Tree) → Contains (rests us) q → Contains (parts (list_of (from_list us))) q
rests-parts [] q c = elim (cons_cases (list_of none) [] q c) [
  | inl e ↦ subst (λ z. Contains (parts (list_of none)) z) e (parts-self (list_of none))
  | inr m ↦ absurd (no_element q m)
]
rests-parts (u ∷ us) q c = elim (cons_cases (list_of (from_list (u ∷ us))) (rests us) q c) [
  | inl e ↦ subst (λ z. Contains (parts (list_of (from_list (u ∷ us)))) z) e (parts-self (list_of (from_list (u ∷ us))))
  | inr m ↦ parts-trans (list_of (from_list (u ∷ us))) (list_of (from_list us)) q (rest-part u (from_list us) none) (rests-parts us q m)
]

pub fewer_items : (w : Store) (list : Reference) (us : List Tree) → IsSound w → tree_at w list ≡ Some (list_of (from_list us)) → length us < cells w
fewer_items w list us sound here =
    let es = map.entries w.content in
    let short = length-le_from_is_member tree_equivalence (rests us) (trees es) (rests-distinct us) (λ q e. (
    let c = rests-parts us q ((is_member-Decides tree_eq-Decides (rests us) q).0 e) in
    let s = sound.closed list (list_of (from_list us)) q here c in
    (is_member-Decides tree_eq-Decides (trees es) q).1 (listed es s.0.0 q (sym (map.get-entries w.content s.0.0) ∙ s.1)))) in
    let a = length-rests us in
    let b = length-map es (λ e. e.1) in
    let d = map.len-entries w.content in
    omega (arith, short, a, b, d)
