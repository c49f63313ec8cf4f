-- The text of the elements of a table, and the numbers of its parts.
use Rattle.std.proofs.Common.{◌≡◌, ℕ, zero, suc, ◌+◌, ◌<◌, ◌≤◌, Bool, true, false, List, [], ◌∷◌, ◌++◌, Option, Some, None, IsSome, refl, sym, ap, subst, ◌∙◌}
use Rattle.std.proofs.Common.{append_assoc, append-nil, filter, flat_map, map, length, drop, take, get_or, arith, lt-ltb, le-ltb, ltb-true, ltb-false, Result, Ok, Err, OnErr, OnOk, IfSome, unwrap_or}
use Rattle.std.specs.Prelude.{if◌then◌else◌, cond, is_some, nat_eq, nat_lt, position, slice_index_or}
use Rattle.std.proofs.lemmas.List.{drop_all, length-map, take_more}
use Rattle.std.specs.Io.KnownBytes.{Appends}
use Rattle.std.specs.List.{AllByRecursion, list_any, position_or_len}
use Rattle.rx_term.specs.Tree.{Tree, Trees, Int, Appl, Items, Hole, none, more, from_list, list_of, tree_eq}
use Rattle.rx_term.specs.Store.{Store, tree_at}
use Rattle.rx_term.specs.Steps.{IsSound}
use Rattle.rx_term.specs.Walks.{held_tree}
use Rattle.rx_term.specs.declared.Term.{Term}
use Rattle.rx_term.proofs.TreeLemmas.{same_tree, tree_eq_same}
use Rattle.rx_text.specs.Canon.{canon, canon_all, canon_others}
use Rattle.rx_text.specs.Written.{AppendsFront}
use Rattle.rx_text.proofs.AppendingLemmas.{appends_both, front_within}
use Rattle.rx_text.specs.Numbered as text
use Rattle.rx_table.specs.Table.{different, entry, is_shared, numbered, reference, shared, subterms, table, written, written_all}
use Rattle.rx_table.specs.Inner.Elements.{counted, element_texts, number_at}
use Rattle.rx_table.specs.Inner.Walk.{AreThere, HasParts, part_tree, term_of, trees_of}
use Rattle.rx_table.specs.declared.walk.Parts.{Parts}
use Rattle.rx_table.proofs.PartLemmas.{part-is, trees-count}
use Rattle.rx_table.proofs.WalkLemmas.{same-reference}

-- ---- the numbers of trees

-- number_from k ps u: the number of the first of the trees that is equal to `u`, counted from `k`
abbrev pub number_from : ℕ → List Tree → Tree → Option ℕ
number_from k [] u = None
number_from k (p ∷ ps) u = if tree_eq u p then Some k else number_from (suc k) ps u

module _ (p : Tree → Bool) where
  -- a tree that is not chosen has no number
  other-tree : (u q : Tree) → p u ≡ false → p q ≡ true → tree_eq u q ≡ false
  other-tree u q e f = by (tree_eq u q) refl
    where
      by : (b : Bool) → tree_eq u q ≡ b → tree_eq u q ≡ false
      by false g = g
      by true g =
          let same : u ≡ q = same_tree u q g in
          let no : true ≡ false = sym f ∙ sym (ap p same) ∙ e in
          absurd (cc no)

  not-chosen : (qs : List Tree) (k : ℕ) (u : Tree) → p u ≡ false → number_from k (filter p qs) u ≡ None
  not-chosen [] k u e = refl
  not-chosen (q ∷ qs) k u e = by (p q) refl (not-chosen qs k u e) (not-chosen qs (suc k) u e)
    where
      by : (b : Bool) → p q ≡ b → number_from k (filter p qs) u ≡ None → number_from (suc k) (filter p qs) u ≡ None
          → number_from k (filter p (q ∷ qs)) u ≡ None
      by false f now next = rw f now
      by true f now next = let g = other-tree u q e f in rw (f, g) next

  -- the numbers of the chosen trees, looked up among all trees
  pub numbers-are : (qs : List Tree) (k : ℕ) (u : Tree) → number_at qs (counted k (map p qs)) u ≡ number_from k (filter p qs) u
  numbers-are [] k u = refl
  numbers-are (q ∷ qs) k u = by (p q) refl (tree_eq u q) refl (numbers-are qs k u) (numbers-are qs (suc k) u)
    where
      by : (b : Bool) → p q ≡ b → (c : Bool) → tree_eq u q ≡ c
          → number_at qs (counted k (map p qs)) u ≡ number_from k (filter p qs) u
          → number_at qs (counted (suc k) (map p qs)) u ≡ number_from (suc k) (filter p qs) u
          → number_at (q ∷ qs) (counted k (map p (q ∷ qs))) u ≡ number_from k (filter p (q ∷ qs)) u
      by true f true g now next = rw (f, g) refl
      by true f false g now next = rw (f, g) next
      by false f true g now next =
          let same : u ≡ q = same_tree u q g in
          let none = not-chosen qs k u (ap p same ∙ f) in
          rw (f, g, none) refl
      by false f false g now next = rw (f, g) now

-- ---- the numbers of references

-- number_by ns ms i: the number of the first of the references `ns` that is `i`
abbrev pub number_by : List ℕ → List (Option ℕ) → ℕ → Option ℕ
number_by (n ∷ ns) (m ∷ ms) i = if nat_eq i n then m else number_by ns ms i
number_by ns ms i = None

module _ (w : Store) (sound : IsSound w) where
  by-reference : (ns : List ℕ) (ms : List (Option ℕ)) (i : ℕ) → AreThere w ns → IsSome (tree_at w (term_of i))
      → number_at (trees_of w ns) ms (held_tree w (term_of i)) ≡ number_by ns ms i
  by-reference [] ms i hs h = refl
  by-reference (n ∷ ns) [] i hs h = refl
  by-reference (n ∷ ns) (m ∷ ms) i hs h =
      let e = sym (same-reference w sound i n h hs.0) in
      let later = by-reference ns ms i hs.1 h in
      rw (e, later) refl

less-more : (q n : ℕ) (ns : List ℕ) → nat_lt (suc q) (length (n ∷ ns)) ≡ nat_lt q (length ns)
less-more q n ns = by (nat_lt q (length ns)) refl
  where
    by : (b : Bool) → nat_lt q (length ns) ≡ b → nat_lt (suc q) (length (n ∷ ns)) ≡ nat_lt q (length ns)
    by true e = let lt = ltb-true q (length ns) e in lt-ltb (suc q) (length (n ∷ ns)) (omega (arith, lt)) ∙ sym e
    by false e = let le = ltb-false q (length ns) e in le-ltb (suc q) (length (n ∷ ns)) (omega (arith, le)) ∙ sym e

place : (ns : List ℕ) (ms : List (Option ℕ)) (i : ℕ)
    → number_by ns ms i ≡ cond (nat_lt (position_or_len (nat_eq i) ns) (length ns)) (slice_index_or ms (position_or_len (nat_eq i) ns) None) None
place [] ms i = refl
place (n ∷ ns) [] i = by (nat_lt (position_or_len (nat_eq i) (n ∷ ns)) (length (n ∷ ns)))
  where
    by : (b : Bool) → number_by (n ∷ ns) [] i ≡ cond b (slice_index_or [] (position_or_len (nat_eq i) (n ∷ ns)) None) None
    by true = refl
    by false = refl
place (n ∷ ns) (m ∷ ms) i = by (nat_eq i n) refl (place ns ms i)
  where
    by : (b : Bool) → nat_eq i n ≡ b
        → number_by ns ms i ≡ cond (nat_lt (position_or_len (nat_eq i) ns) (length ns)) (slice_index_or ms (position_or_len (nat_eq i) ns) None) None
        → number_by (n ∷ ns) (m ∷ ms) i
        ≡ cond (nat_lt (position_or_len (nat_eq i) (n ∷ ns)) (length (n ∷ ns))) (slice_index_or (m ∷ ms) (position_or_len (nat_eq i) (n ∷ ns)) None) None
    by true e later = let z = lt-ltb 0 (length (n ∷ ns)) (omega arith) in rw (e, z) refl
    by false e later =
        let z : 1 + position_or_len (nat_eq i) ns ≡ suc (position_or_len (nat_eq i) ns) = omega arith in
        let less = less-more (position_or_len (nat_eq i) ns) n ns in
        rw (e, z, less) later

module _ (w : Store) (sound : IsSound w) (ns : List ℕ) (ms : List (Option ℕ)) (i : ℕ) (hs : AreThere w ns) (h : IsSome (tree_at w (term_of i))) where
  pub number-found : (k : ℕ) → position (nat_eq i) ns ≡ Some k
      → number_at (trees_of w ns) ms (held_tree w (term_of i)) ≡ slice_index_or ms k None
  number-found k e = by-reference w sound ns ms i hs h ∙ place ns ms i ∙ by (nat_lt at (length ns)) refl
    where
      at : ℕ
      at = position_or_len (nat_eq i) ns

      by : (b : Bool) → nat_lt (position_or_len (nat_eq i) ns) (length ns) ≡ b
          → cond (nat_lt (position_or_len (nat_eq i) ns) (length ns)) (slice_index_or ms (position_or_len (nat_eq i) ns) None) None ≡ slice_index_or ms k None
      by true f =
          let q : Some at ≡ Some k = sym (ap (λ b. cond b (Some at) None) f) ∙ e in
          let same : at ≡ k = cc q in
          rw f (ap (λ j. slice_index_or ms j None) same)
      by false f = absurd (let q : None ≡ Some k = sym (ap (λ b. cond b (Some at) None) f) ∙ e in cc q)

  pub number-missing : position (nat_eq i) ns ≡ None → number_at (trees_of w ns) ms (held_tree w (term_of i)) ≡ None
  number-missing e = by-reference w sound ns ms i hs h ∙ place ns ms i ∙ by (nat_lt at (length ns)) refl
    where
      at : ℕ
      at = position_or_len (nat_eq i) ns

      by : (b : Bool) → nat_lt (position_or_len (nat_eq i) ns) (length ns) ≡ b
          → cond (nat_lt (position_or_len (nat_eq i) ns) (length ns)) (slice_index_or ms (position_or_len (nat_eq i) ns) None) None ≡ None
      by true f = absurd (let q : Some at ≡ None = sym (ap (λ b. cond b (Some at) None) f) ∙ e in cc q)
      by false f = rw f refl

-- ---- what is printed of a tree

-- a reference to the number of a tree
from-list : (ps : List Tree) (k : ℕ) (t e : Tree)
    → text.numbered (number_from k ps t) e ≡ (if list_any (tree_eq t) ps then reference (k + position_or_len (tree_eq t) ps) else e)
from-list [] k t e = refl
from-list (p ∷ ps) k t e = by (tree_eq t p) refl (from-list ps (suc k) t e)
  where
    by : (b : Bool) → tree_eq t p ≡ b
        → text.numbered (number_from (suc k) ps t) e
        ≡ (if list_any (tree_eq t) ps then reference (suc k + position_or_len (tree_eq t) ps) else e)
        → text.numbered (number_from k (p ∷ ps) t) e ≡ (if list_any (tree_eq t) (p ∷ ps) then reference (k + position_or_len (tree_eq t) (p ∷ ps)) else e)
    by true f later = let z : k + 0 ≡ k = omega arith in rw (f, z) refl
    by false f later =
        let n = position_or_len (tree_eq t) ps in
        let z : k + (1 + n) ≡ suc k + n = omega arith in
        rw (f, z) later

module _ (ps : List Tree) (number : Tree → Option ℕ) (is : (u : Tree) → number u ≡ number_from 0 ps u) where
  same-numbered : (t e d : Tree) → e ≡ d → text.numbered (number t) e ≡ numbered ps t d
  same-numbered t e d same =
      let z : 0 + position_or_len (tree_eq t) ps ≡ position_or_len (tree_eq t) ps = omega arith in
      ap (λ n. text.numbered n e) (is t) ∙ (rw z at (from-list ps 0 t e)) ∙ ap (numbered ps t) same

  mutual
    pub same-entry : (t : Tree) → text.entry (text.Numbered number) t ≡ entry ps t
    same-entry (Int z anns) = ap (Int z) (same-all anns)
    same-entry (Appl name quoted args anns) = let a = same-all args in let b = same-all anns in rw (a, b) refl
    same-entry (Items items anns) = let a = same-all items in let b = same-all anns in rw (a, b) refl
    same-entry (Hole inner anns) =
        let a = same-numbered inner (text.entry (text.Numbered number) inner) (entry ps inner) (same-entry inner) in
        let b = same-all anns in
        rw (a, b) refl

    same-all : (ts : Trees) → text.written_all (text.Numbered number) ts ≡ written_all ps ts
    same-all none = refl
    same-all (more t ts) =
        let a = same-numbered t (text.entry (text.Numbered number) t) (entry ps t) (same-entry t) in
        let b = same-all ts in
        rw (a, b) refl

  pub same-written : (t : Tree) → text.written (text.Numbered number) t ≡ written ps t
  same-written t = same-numbered t (text.entry (text.Numbered number) t) (entry ps t) (same-entry t)

-- ---- the text of a list

-- with_comma e: a text with a comma after it
abbrev pub with_comma : Tree → List ℕ
with_comma e = canon e ++ 44 ∷ []

pub list-text : (es : List Tree) (l : Tree) → canon_all (from_list (es ++ l ∷ [])) ≡ flat_map with_comma es ++ canon l
list-text [] l = append-nil (canon l)
list-text (e ∷ []) l =
    ap (λ xs. canon e ++ 44 ∷ xs) (append-nil (canon l)) ∙ sym (append_assoc (canon e) (44 ∷ []) (canon l))
    ∙ ap (λ xs. xs ++ canon l) (sym (append-nil (canon e ++ 44 ∷ [])))
list-text (e ∷ f ∷ es) l =
    let rest : List ℕ = flat_map with_comma (f ∷ es) ++ canon l in
    let a : canon_all (from_list ((e ∷ f ∷ es) ++ l ∷ [])) ≡ canon e ++ 44 ∷ rest = ap (λ xs. canon e ++ 44 ∷ xs) (list-text (f ∷ es) l) in
    a ∙ sym (append_assoc (canon e) (44 ∷ []) rest) ∙ sym (append_assoc (with_comma e) (flat_map with_comma (f ∷ es)) (canon l))

module _ (p : Tree → Bool) (ps : List Tree) (s : text.Style) (same : (t : Tree) → text.entry s t ≡ entry ps t) where
  -- the elements of the chosen trees
  pub texts-are : (qs : List Tree) (k : ℕ) → element_texts s qs (counted k (map p qs)) ≡ flat_map with_comma (map (entry ps) (filter p qs))
  texts-are [] k = refl
  texts-are (q ∷ qs) k = by (p q) refl (texts-are qs k) (texts-are qs (suc k))
    where
      by : (b : Bool) → p q ≡ b
          → element_texts s qs (counted k (map p qs)) ≡ flat_map with_comma (map (entry ps) (filter p qs))
          → element_texts s qs (counted (suc k) (map p qs)) ≡ flat_map with_comma (map (entry ps) (filter p qs))
          → element_texts s (q ∷ qs) (counted k (map p (q ∷ qs))) ≡ flat_map with_comma (map (entry ps) (filter p (q ∷ qs)))
      by true f now next =
          let e = same q in
          rw (f, e, next) (sym (append_assoc (canon (entry ps q)) (44 ∷ []) (flat_map with_comma (map (entry ps) (filter p qs)))))
      by false f now next = rw f now

-- the text of the table of a tree
pub table-text : (t : Tree) (qs : List Tree) → qs ≡ different (subterms t)
    → 91 ∷ element_texts (text.Numbered (number_at qs (counted 0 (map (is_shared qs) qs)))) qs (counted 0 (map (is_shared qs) qs))
    ++ canon (text.written (text.Numbered (number_at qs (counted 0 (map (is_shared qs) qs)))) t) ++ 93 ∷ [] ≡ canon (table t)
table-text t qs e =
    let p = is_shared qs in
    let ps = filter p qs in
    let number = number_at qs (counted 0 (map p qs)) in
    let is : (u : Tree) → number u ≡ number_from 0 ps u = numbers-are p qs 0 in
    let a = texts-are p ps (text.Numbered number) (same-entry ps number is) qs 0 in
    let b = same-written ps number is t in
    let c = list-text (map (entry ps) ps) (written ps t) in
    let d : ps ≡ shared t = ap (λ zs. filter (is_shared zs) zs) e in
    let whole : canon (list_of (from_list (map (entry ps) ps ++ written ps t ∷ []))) ≡ canon (table t) =
    ap (λ zs. canon (list_of (from_list (map (entry zs) zs ++ written zs t ∷ [])))) d in
    ap (λ xs. 91 ∷ xs ++ canon (text.written (text.Numbered number) t) ++ 93 ∷ []) a
    ∙ ap (λ u. 91 ∷ flat_map with_comma (map (entry ps) ps) ++ canon u ++ 93 ∷ []) b
    ∙ ap (λ xs. 91 ∷ xs ++ 93 ∷ []) (sym c) ∙ whole

-- ---- the elements from an index on

pub texts-next : (s : text.Style) (qs : List Tree) (ns : List (Option ℕ)) (i : ℕ) (d : Tree) → i < length qs → i < length ns
    → element_texts s (drop i qs) (drop i ns)
    ≡ element_texts s (get_or qs i d ∷ []) (get_or ns i None ∷ []) ++ element_texts s (drop (i + 1) qs) (drop (i + 1) ns)
texts-next s [] ns i d lt few = absurd (omega (arith, lt))
texts-next s (q ∷ qs) [] i d lt few = absurd (omega (arith, few))
texts-next s (q ∷ qs) (None ∷ ns) zero d lt few = refl
texts-next s (q ∷ qs) (Some m ∷ ns) zero d lt few = sym (append_assoc (canon (text.entry s q)) (44 ∷ []) (element_texts s qs ns))
texts-next s (q ∷ qs) (m ∷ ns) (suc i) d lt few =
    let e : suc i + 1 ≡ suc (i + 1) = omega arith in
    rw e (texts-next s qs ns i d (omega (arith, lt)) (omega (arith, few)))

-- Printing: the elements of the first `i` parts were written
pub record Printing (s : text.Style) (qs : List Tree) (ns : List (Option ℕ)) (whole : List ℕ) (old now : Option (List ℕ)) (i : ℕ) : Type 0 where
  pub front : List ℕ
  pub written : Appends old now front
  pub text : whole ≡ front ++ element_texts s (drop i qs) (drop i ns)

module _ (w : Store) (s : text.Style) (ns : List ℕ) (ms : List (Option ℕ)) (whole : List ℕ) (old now : Option (List ℕ)) (i : ℕ)
    (p : Printing s (trees_of w ns) ms whole old now i) (each : length ms ≡ length ns) (lt : i < length ms) where
  abbrev element : List ℕ
  element = element_texts s (part_tree w ns i ∷ []) (get_or ms i None ∷ [])

  abbrev rest : List ℕ
  rest = element_texts s (drop (i + 1) (trees_of w ns)) (drop (i + 1) ms)

  split : whole ≡ p.front ++ (element ++ rest)
  split =
      let count = trees-count w ns in
      let d : Tree = list_of none in
      let here : get_or (trees_of w ns) i d ≡ part_tree w ns i = part-is w ns i (omega (arith, lt, each)) d in
      p.text ∙ ap (λ xs. p.front ++ xs) (texts-next s (trees_of w ns) ms i d (omega (arith, lt, each, count)) lt
      ∙ ap (λ q. element_texts s (q ∷ []) (get_or ms i None ∷ []) ++ rest) here)

  pub printing-next : (new : Option (List ℕ)) → Appends now new (element_texts s (part_tree w ns i ∷ []) (get_or ms i None ∷ []))
      → Printing s (trees_of w ns) ms whole old new (i + 1)
  printing-next new a = record {
    front = p.front ++ element;
    written = appends_both old now new p.front element p.written a;
    text = split ∙ sym (append_assoc p.front element rest);
  }

  pub printing-stopped : (new : Option (List ℕ)) → AppendsFront (element_texts s (part_tree w ns i ∷ []) (get_or ms i None ∷ [])) now new
      → AppendsFront whole old new
  printing-stopped new h = front_within old now new whole p.front element rest split p.written h

none-left : (s : text.Style) (qs : List Tree) (ns : List (Option ℕ)) (i : ℕ) → length ns ≤ i → element_texts s (drop i qs) (drop i ns) ≡ []
none-left s qs ns i le = let e = drop_all i ns le in by (drop i qs) e
  where
    by : (ts : List Tree) → drop i ns ≡ [] → element_texts s ts (drop i ns) ≡ []
    by [] e = refl
    by (t ∷ ts) e = rw e refl

pub printing-ends : (s : text.Style) (qs : List Tree) (ns : List (Option ℕ)) (whole : List ℕ) (old now : Option (List ℕ)) (i : ℕ)
    → Printing s qs ns whole old now i → length ns ≤ i → Appends old now whole
printing-ends s qs ns whole old now i p le =
    let e : whole ≡ p.front = p.text ∙ ap (λ xs. p.front ++ xs) (none-left s qs ns i le) ∙ append-nil p.front in
    subst (λ xs. Appends old now xs) (sym e) p.written

-- ---- one element

pub some-text : (s : text.Style) (q : Tree) (n : Option ℕ) → is_some n ≡ true → element_texts s (q ∷ []) (n ∷ []) ≡ canon (text.entry s q) ++ 44 ∷ []
some-text s q None e = absurd (cc e)
some-text s q (Some n) e = refl

-- ---- counting

-- trues bs: how many are `true`
abbrev pub trues : List Bool → ℕ
trues [] = 0
trues (true ∷ bs) = 1 + trues bs
trues (false ∷ bs) = trues bs

pub counted-more : (k : ℕ) (bs : List Bool) (b : Bool) → counted k (bs ++ b ∷ []) ≡ counted k bs ++ cond b (Some (k + trues bs)) None ∷ []
counted-more k [] true = let z : k + 0 ≡ k = omega arith in rw z refl
counted-more k [] false = refl
counted-more k (true ∷ bs) b =
    let z : k + (1 + trues bs) ≡ suc k + trues bs = omega arith in
    rw z (ap (λ ns. Some k ∷ ns) (counted-more (suc k) bs b))
counted-more k (false ∷ bs) b = ap (λ ns. None ∷ ns) (counted-more k bs b)

pub trues-more : (bs : List Bool) (b : Bool) → trues (bs ++ b ∷ []) ≡ trues bs + cond b 1 0
trues-more [] true = refl
trues-more [] false = refl
trues-more (true ∷ bs) b = let e = trues-more bs b in omega (arith, e)
trues-more (false ∷ bs) b = trues-more bs b

pub trues-few : (bs : List Bool) → trues bs ≤ length bs
trues-few [] = omega arith
trues-few (true ∷ bs) = let e = trues-few bs in omega (arith, e)
trues-few (false ∷ bs) = let e = trues-few bs in omega (arith, e)

pub counting-next : (bs : List Bool) (i next : ℕ) (numbers : List (Option ℕ)) → i < length bs
    → (numbers ≡ counted 0 (take i bs)) × (next ≡ trues (take i bs))
    → (numbers ++ cond (get_or bs i false) (Some next) None ∷ [] ≡ counted 0 (take (i + 1) bs))
    × (next + cond (get_or bs i false) 1 0 ≡ trues (take (i + 1) bs))
counting-next bs i next numbers lt (items, count) =
    let b = get_or bs i false in
    let more = take_more bs i false lt in
    let z : 0 + trues (take i bs) ≡ next = omega (arith, count) in (
      ap (λ ns. ns ++ cond b (Some next) None ∷ []) items
          ∙ ap (λ n. counted 0 (take i bs) ++ cond b (Some n) None ∷ []) (sym z)
          ∙ sym (counted-more 0 (take i bs) b) ∙ ap (counted 0) (sym more),
      ap (λ n. n + cond b 1 0) count ∙ sym (trues-more (take i bs) b) ∙ ap trues (sym more),
    )

pub counted-length : (k : ℕ) (bs : List Bool) → length (counted k bs) ≡ length bs
counted-length k [] = refl
counted-length k (true ∷ bs) = let e = counted-length (suc k) bs in omega (arith, e)
counted-length k (false ∷ bs) = let e = counted-length k bs in omega (arith, e)

-- ---- the table of a term

module _ (w : Store) (t : Tree) (parts : Parts) (h : HasParts w t parts) (numbers : List (Option ℕ))
    (are : numbers ≡ counted 0 (map (is_shared (trees_of w parts.terms.keys)) (trees_of w parts.terms.keys))) where
  pub each-number : length numbers ≡ length parts.terms.keys
  each-number =
      let qs = trees_of w parts.terms.keys in
      ap length are ∙ counted-length 0 (map (is_shared qs) qs) ∙ length-map qs (is_shared qs) ∙ trees-count w parts.terms.keys

  pub list-is-table : (91 ∷ element_texts (text.Numbered (number_at (trees_of w parts.terms.keys) numbers)) (trees_of w parts.terms.keys) numbers)
      ++ canon (text.written (text.Numbered (number_at (trees_of w parts.terms.keys) numbers)) t) ++ 93 ∷ [] ≡ canon (table t)
  list-is-table =
      let qs = trees_of w parts.terms.keys in
      ap (λ ns. 91 ∷ element_texts (text.Numbered (number_at qs ns)) qs ns ++ canon (text.written (text.Numbered (number_at qs ns)) t) ++ 93 ∷ []) are
      ∙ table-text t qs h.trees

module _ {E : Type 0} (r : Result (Unit {0}) E) (w : Store) (t : Term) (P : List ℕ → Type 0) (f : Tree → List ℕ) (whole : List ℕ) (e : whole ≡ f (held_tree w t)) where
  held : P whole → IfSome (tree_at w t) (λ u. P (f u))
  held h = by (tree_at w t) (subst P e h)
    where
      by : (o : Option Tree) → P (f (unwrap_or o (list_of none))) → IfSome o (λ u. P (f u))
      by None h = tt
      by (Some u) h = h

  pub held_ok : OnOk r (P whole) → OnOk r (IfSome (tree_at w t) (λ u. P (f u)))
  held_ok h = by r h
    where
      by : (s : Result (Unit {0}) E) → OnOk s (P whole) → OnOk s (IfSome (tree_at w t) (λ u. P (f u)))
      by (Ok x) h = held h
      by (Err e) h = tt

  pub held_err : OnErr r (P whole) → OnErr r (IfSome (tree_at w t) (λ u. P (f u)))
  held_err h = by r h
    where
      by : (s : Result (Unit {0}) E) → OnErr s (P whole) → OnErr s (IfSome (tree_at w t) (λ u. P (f u)))
      by (Ok x) h = tt
      by (Err e) h = held h
