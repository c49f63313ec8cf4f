-- What the elements of a table open to.
use Rattle.std.proofs.Common.{◌≡◌, ℕ, ◌+◌, List, [], ◌∷◌, ◌++◌, Option, Some, None, refl, ap, subst, ◌∙◌, length, length-append, arith}
use Rattle.std.specs.Option.{option_map}
use Rattle.rx_term.specs.Tree.{Tree, Trees, Int, Appl, Items, Hole, none, more, from_list, to_list}
use Rattle.rx_term.proofs.TreeLemmas.{from_to_list}
use Rattle.rx_table.specs.Opened.{broken_by_table, broken_element, broken_from, last_opened, opened, tree_of_table}
use Rattle.rx_table.specs.Inner.Reading.{all_opened, elements_of}

-- ---- elements one by one

pub opened-then : (es ts : List Tree) (t u : Tree) (zs : List Tree) → all_opened es ts ≡ Some zs → opened zs t ≡ Some u
    → all_opened es (ts ++ t ∷ []) ≡ Some (zs ++ u ∷ [])
opened-then es [] t u zs e o = let same : es ≡ zs = cc e in let here : opened es t ≡ Some u = rw same o in rw (here, same) refl
opened-then es (x ∷ ts) t u zs e o = by (opened es x) refl (λ z. opened-then (es ++ z ∷ []) ts t u zs)
  where
    by : (p : Option Tree) → opened es x ≡ p
        → ((z : Tree) → all_opened (es ++ z ∷ []) ts ≡ Some zs → opened zs t ≡ Some u → all_opened (es ++ z ∷ []) (ts ++ t ∷ []) ≡ Some (zs ++ u ∷ []))
        → all_opened es (x ∷ ts ++ t ∷ []) ≡ Some (zs ++ u ∷ [])
    by None q later = absurd (let k : None ≡ Some zs = rw q at e in cc k)
    by (Some z) q later = rw q (later z (rw q at e) o)

pub broken-then : (es ts : List Tree) (t : Tree) (after zs : List Tree) → all_opened es ts ≡ Some zs → opened zs t ≡ None
    → broken_from es (from_list (ts ++ t ∷ after)) ≡ Some (length zs)
broken-then es [] t after zs e o = let same : es ≡ zs = cc e in let here : opened es t ≡ None = rw same o in rw (here, same) refl
broken-then es (x ∷ ts) t after zs e o = by (opened es x) refl (λ z. broken-then (es ++ z ∷ []) ts t after zs)
  where
    by : (p : Option Tree) → opened es x ≡ p
        → ((z : Tree) → all_opened (es ++ z ∷ []) ts ≡ Some zs → opened zs t ≡ None
        → broken_from (es ++ z ∷ []) (from_list (ts ++ t ∷ after)) ≡ Some (length zs))
        → broken_from es (from_list (x ∷ ts ++ t ∷ after)) ≡ Some (length zs)
    by None q later = absurd (let k : None ≡ Some zs = rw q at e in cc k)
    by (Some z) q later = rw q (later z (rw q at e) o)

-- ---- the term and the rule

-- lists with the same length and their last items
last-same : (xs ys : List Tree) (x y : Tree) → xs ++ x ∷ [] ≡ ys ++ y ∷ [] → x ≡ y
last-same [] [] x y e = cc e
last-same [] (b ∷ []) x y e = absurd (cc e)
last-same [] (b ∷ c ∷ ys) x y e = absurd (cc e)
last-same (a ∷ []) [] x y e = absurd (cc e)
last-same (a ∷ c ∷ xs) [] x y e = absurd (cc e)
last-same (a ∷ xs) (b ∷ ys) x y e = last-same xs ys x y (cc e)

last-is : (es : List Tree) (t : Tree) (ts : Trees) (ys : List Tree) (x : Tree) → all_opened es (t ∷ to_list ts) ≡ Some (ys ++ x ∷ [])
    → last_opened es t ts ≡ Some x
last-is es t none ys x e = by (opened es t) refl
  where
    by : (o : Option Tree) → opened es t ≡ o → opened es t ≡ Some x
    by None q = absurd (let k : None ≡ Some (ys ++ x ∷ []) = rw q at e in cc k)
    by (Some u) q =
        let k : Some (es ++ u ∷ []) ≡ Some (ys ++ x ∷ []) = rw q at e in
        q ∙ ap (λ z. let r : Option Tree = Some z in r) (last-same es ys u x (cc k))
last-is es t (more v vs) ys x e = by (opened es t) refl (λ z. last-is (es ++ z ∷ []) v vs ys x)
  where
    by : (o : Option Tree) → opened es t ≡ o
        → ((z : Tree) → all_opened (es ++ z ∷ []) (v ∷ to_list vs) ≡ Some (ys ++ x ∷ []) → last_opened (es ++ z ∷ []) v vs ≡ Some x)
        → last_opened es t (more v vs) ≡ Some x
    by None q later = absurd (let k : None ≡ Some (ys ++ x ∷ []) = rw q at e in cc k)
    by (Some z) q later = rw q (later z (rw q at e))

-- elements are not lost
all-longer : (es ts zs : List Tree) → all_opened es ts ≡ Some zs → length es + length ts ≡ length zs
all-longer es [] zs e = let k : es ≡ zs = cc e in let l = ap length k in omega (arith, l)
all-longer es (t ∷ ts) zs e = by (opened es t) refl (λ z. all-longer (es ++ z ∷ []) ts zs)
  where
    by : (o : Option Tree) → opened es t ≡ o
        → ((z : Tree) → all_opened (es ++ z ∷ []) ts ≡ Some zs → length (es ++ z ∷ []) + length ts ≡ length zs)
        → length es + length (t ∷ ts) ≡ length zs
    by None q later = absurd (let k : None ≡ Some zs = rw q at e in cc k)
    by (Some z) q later = let k = later z (rw q at e) in let l = length-append es (z ∷ []) in omega (arith, k, l)

pub table-of-last : (t : Tree) (ys : List Tree) (x : Tree) → all_opened [] (elements_of t) ≡ Some (ys ++ x ∷ []) → tree_of_table t ≡ Some x
table-of-last (Items (more v vs) none) ys x e = last-is [] v vs ys x e
table-of-last (Items none none) ys x e = absurd (let k = all-longer [] [] (ys ++ x ∷ []) e in let l = length-append ys (x ∷ []) in omega (arith, k, l))
table-of-last (Items items (more a as')) ys x e = absurd (let k = all-longer [] [] (ys ++ x ∷ []) e in let l = length-append ys (x ∷ []) in omega (arith, k, l))
table-of-last (Int z anns) ys x e = absurd (let k = all-longer [] [] (ys ++ x ∷ []) e in let l = length-append ys (x ∷ []) in omega (arith, k, l))
table-of-last (Appl name quoted args anns) ys x e = absurd (let k = all-longer [] [] (ys ++ x ∷ []) e in let l = length-append ys (x ∷ []) in omega (arith, k, l))
table-of-last (Hole inner anns) ys x e = absurd (let k = all-longer [] [] (ys ++ x ∷ []) e in let l = length-append ys (x ∷ []) in omega (arith, k, l))

pub broken-table : (t : Tree) (n : ℕ) → broken_from [] (from_list (elements_of t)) ≡ Some n
    → (broken_by_table t ≡ Some 2) × (broken_element t ≡ Some n)
broken-table (Items (more v vs) none) n e =
    let k : broken_from [] (more v vs) ≡ Some n = subst (λ z. broken_from [] z ≡ Some n) (from_to_list (more v vs)) e in
    (ap (option_map (λ (m : ℕ). 2)) k, k)
broken-table (Items none none) n e = absurd (cc e)
broken-table (Items none (more a as')) n e = absurd (cc e)
broken-table (Items (more v vs) (more a as')) n e = absurd (cc e)
broken-table (Int z anns) n e = absurd (cc e)
broken-table (Appl name quoted args anns) n e = absurd (cc e)
broken-table (Hole inner anns) n e = absurd (cc e)
