-- The parts of a tree in the order in which they are found.
use Rattle.std.proofs.Common.{◌≡◌, ℕ, ◌+◌, ◌-◌, ◌<◌, ◌≤◌, zero, suc, true, List, [], ◌∷◌, ◌++◌, Option, Some}
use Rattle.std.proofs.Common.{None, refl, sym, ap, subst, ◌∙◌, append_assoc, append-nil, arith, map, slice_get}
use Rattle.std.specs.List.{AllByRecursion, list_any}
use Rattle.indexmap.specs.IndexSet.{insert_all}
use Rattle.rx_term.specs.Tree.{Tree, Trees, none, more, Int, Appl, Items, Hole, list_of, tree_eq}
use Rattle.rx_term.specs.Parts.{own_annotations, own_parts, part_count}
use Rattle.rx_term.proofs.TreeLemmas.{tree_eq_same}
use Rattle.rx_text.specs.Written.{IsFront}
use Rattle.rx_render.specs.Graph.{Link, annotation_links, first_lines, found, link_line, link_lines, links, number_in, order, part_lines, with_own}
use Rattle.rx_render.proofs.OrderLemmas.{Begins, all_begins, all_inserted, all_of_map, begins_on, begins_same, get_more, get_none, place_more}

-- ---- links

annotation_parts_are : (anns : Trees) → map (λ l. l.part) (annotation_links anns) ≡ own_annotations anns
annotation_parts_are none = refl
annotation_parts_are (more t ts) = refl

-- they lead to the own parts
pub own_links : (t : Tree) → map (λ l. l.part) (links t) ≡ own_parts t
own_links (Int z anns) = annotation_parts_are anns
own_links (Appl name quoted args anns) = ap (λ ts. list_of args ∷ ts) (annotation_parts_are anns)
own_links (Items none anns) = annotation_parts_are anns
own_links (Items (more t ts) anns) = ap (λ us. t ∷ list_of ts ∷ us) (annotation_parts_are anns)
own_links (Hole inner anns) = ap (λ ts. inner ∷ ts) (annotation_parts_are anns)

-- the parts that they lead to are among the trees
abbrev pub AreAmong : List Tree → List Link → Type 0
AreAmong ts ls = AllByRecursion (λ l. list_any (tree_eq l.part) ts ≡ true) ls

pub among_inserted : (ts : List Tree) (ls : List Link) → AreAmong (insert_all tree_eq ts (map (λ l. l.part) ls)) ls
among_inserted ts ls = let us = map (λ l. l.part) ls in all_of_map (λ l. l.part) (λ u. list_any (tree_eq u) (insert_all tree_eq ts us) ≡ true) ls
    (all_inserted tree_eq tree_eq_same ts us)

-- their lines stay when more is found
pub lines_later : (k : ℕ) (ts us : List Tree) (n : ℕ) (ls : List Link) → Begins ts us → AreAmong ts ls → link_lines k us n ls ≡ link_lines k ts n ls
lines_later k ts us n [] b h = refl
lines_later k ts us n (l ∷ ls) b h =
    let number : number_in us l.part ≡ number_in ts l.part = ap (λ vs. number_in vs l.part) b.1 ∙ place_more (tree_eq l.part) ts b.0 h.0 in
    let others = lines_later k ts us n ls b h.1 in
    rw (number, others) refl

pub lines_append : (k : ℕ) (ts : List Tree) (n : ℕ) (ls ms : List Link) → link_lines k ts n (ls ++ ms) ≡ link_lines k ts n ls ++ link_lines k ts n ms
lines_append k ts n [] ms = refl
lines_append k ts n (l ∷ ls) ms = ap (λ xs. link_line k ts n l ++ xs) (lines_append k ts n ls ms)
    ∙ sym (append_assoc (link_line k ts n l) (link_lines k ts n ls) (link_lines k ts n ms))

-- ---- what is found

own_begins : (ts : List Tree) (o : Option Tree) → Begins ts (with_own ts o)
own_begins ts None = begins_same ts
own_begins ts (Some t) = all_begins tree_eq ts (own_parts t)

-- m after n
abbrev pub after : ℕ → ℕ → ℕ
after n zero = n
after n (suc m) = suc (after n m)

after-is : (n m : ℕ) → after n m ≡ n + m
after-is n zero = omega arith
after-is n (suc m) = omega (arith, after-is n m)

-- one that is higher comes after
pub comes_after : (n k : ℕ) → n ≤ k → k ≡ after n (k - n)
comes_after n k le = let e = after-is n (k - n) in omega (arith, e, le)

-- what was found stays where it is
pub found_begins : (t : Tree) (n m : ℕ) → Begins (found t n) (found t (after n m))
found_begins t n zero = begins_same (found t n)
found_begins t n (suc m) = begins_on (found t n) (found t (after n m)) (found t (after n (suc m))) (found_begins t n m)
    (own_begins (found t (after n m)) (slice_get (found t (after n m)) (after n m)))

-- where all that was found was looked at, no more is found
found_ends : (t : Tree) (n m : ℕ) → slice_get (found t n) n ≡ None → (found t (after n m) ≡ found t n) × (slice_get (found t n) (after n m) ≡ None)
found_ends t n zero e = (refl, e)
found_ends t n (suc m) e =
    let h = found_ends t n m e in
    let none_there : slice_get (found t (after n m)) (after n m) ≡ None = ap (λ ts. slice_get ts (after n m)) h.0 ∙ h.1 in
    (ap (with_own (found t (after n m))) none_there ∙ h.0, get_none (found t n) (after n m) h.1)

-- the part with a number is found before it is looked at
pub found_at : (t : Tree) (n m : ℕ) → slice_get (found t (after n m)) n ≡ slice_get (found t n) n
found_at t n m = by (slice_get (found t n) n) refl
  where
    by : (o : Option Tree) → slice_get (found t n) n ≡ o → slice_get (found t (after n m)) n ≡ slice_get (found t n) n
    by None e = ap (λ ts. slice_get ts n) (found_ends t n m e).0
    by (Some u) e = (let b = found_begins t n m in ap (λ ts. slice_get ts n) b.1 ∙ get_more (found t n) b.0 n u e ∙ sym e)

-- what is found stays in the order of all parts
pub order_begins : (t : Tree) (n : ℕ) → n ≤ part_count t → Begins (found t n) (order t)
order_begins t n le = subst (λ c. Begins (found t n) (found t c)) (sym (comes_after n (part_count t) le)) (found_begins t n (part_count t - n))

pub order_at : (t : Tree) (n : ℕ) → n < part_count t → slice_get (order t) n ≡ slice_get (found t n) n
order_at t n lt = ap (λ c. slice_get (found t c) n) (comes_after n (part_count t) (omega arith)) ∙ found_at t n (part_count t - n)

-- ---- lines

-- the lines of a part are those that it has once all parts are found
part_later : (k : ℕ) (ts us : List Tree) (n : ℕ) (o : Option Tree) → Begins (with_own ts o) us → part_lines k us n o ≡ part_lines k (with_own ts o) n o
part_later k ts us n None b = refl
part_later k ts us n (Some t) b =
    let among : AreAmong (with_own ts (Some t)) (links t) = subst (λ vs. AreAmong (insert_all tree_eq ts vs) (links t)) (own_links t)
    (among_inserted ts (links t)) in
    let same = lines_later k (with_own ts (Some t)) us n (links t) b among in
    rw same refl

pub part_in_order : (k : ℕ) (t : Tree) (n : ℕ) → n < part_count t
    → part_lines k (order t) n (slice_get (order t) n) ≡ part_lines k (with_own (found t n) (slice_get (found t n) n)) n (slice_get (found t n) n)
part_in_order k t n lt =
    let at : slice_get (order t) n ≡ slice_get (found t n) n = order_at t n lt in
    let b : Begins (found t (suc n)) (order t) = order_begins t (suc n) lt in
    ap (part_lines k (order t) n) at ∙ part_later k (found t n) (order t) n (slice_get (found t n) n) b

first_after : (k : ℕ) (ts : List Tree) (n m : ℕ) → IsFront (first_lines k ts n) (first_lines k ts (after n m))
first_after k ts n zero = ([], sym (append-nil (first_lines k ts n)))
first_after k ts n (suc m) =
    let (rest, e) = first_after k ts n m in
    let more_lines = part_lines k ts (after n m) (slice_get ts (after n m)) in
    (rest ++ more_lines, ap (λ xs. xs ++ more_lines) e ∙ append_assoc (first_lines k ts n) rest more_lines)

-- the lines of fewer parts are a front of those of more
pub first_front : (k : ℕ) (ts : List Tree) (n m : ℕ) → n ≤ m → IsFront (first_lines k ts n) (first_lines k ts m)
first_front k ts n m le = subst (λ c. IsFront (first_lines k ts n) (first_lines k ts c)) (sym (comes_after n m le)) (first_after k ts n (m - n))
