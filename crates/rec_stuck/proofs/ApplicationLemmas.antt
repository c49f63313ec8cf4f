-- Which applications a tree has, and a list of those that were left.
use Rattle.std.proofs.Common.{◌≡◌, ◌⊎◌, inl, inr, Bool, true, false, List, [], ◌∷◌, ◌++◌, refl, sym, ap, subst, ◌∙◌}
use Rattle.std.specs.List.{AllByRecursion, list_any}
use Rattle.indexmap.specs.IndexSet.{insert_key, insert_all}
use Rattle.rx_term.specs.Tree.{Tree, Trees, Int, Appl, Items, Hole, none, more, tree_eq}
use Rattle.rx_term.proofs.TreeLemmas.{same_tree, tree_eq_same}
use Rattle.rx_render.proofs.OrderLemmas.{all_append, all_inserted, any_more}
use Rattle.rec_stuck.specs.Stuck.{applications, applications_all, different}

-- ---- trees among others

abbrev pub IsAmong : Tree → List Tree → Type 0
IsAmong t ts = list_any (tree_eq t) ts ≡ true

abbrev pub AreAmong : List Tree → List Tree → Type 0
AreAmong xs ts = AllByRecursion (λ x. IsAmong x ts) xs

among-right : (t : Tree) (xs ys : List Tree) → IsAmong t ys → IsAmong t (xs ++ ys)
among-right t [] ys h = h
among-right t (x ∷ xs) ys h = by (tree_eq t x) refl (among-right t xs ys h)
  where
    by : (b : Bool) → tree_eq t x ≡ b → IsAmong t (xs ++ ys) → IsAmong t ((x ∷ xs) ++ ys)
    by true e later = rw e refl
    by false e later = rw e later

among-either : (t : Tree) (xs ys : List Tree) → IsAmong t (xs ++ ys) → IsAmong t xs ⊎ IsAmong t ys
among-either t [] ys h = inr h
among-either t (x ∷ xs) ys h = by (tree_eq t x) refl (among-either t xs ys)
  where
    by : (b : Bool) → tree_eq t x ≡ b → (IsAmong t (xs ++ ys) → IsAmong t xs ⊎ IsAmong t ys) → IsAmong t (x ∷ xs) ⊎ IsAmong t ys
    by true e later = inl (rw e refl)
    by false e later = elim (later (rw e at h)) [ inl k ↦ inl (rw e k) | inr k ↦ inr k ]

one-of : (t x : Tree) → IsAmong t (x ∷ []) → t ≡ x
one-of t x h = by (tree_eq t x) refl
  where
    by : (b : Bool) → tree_eq t x ≡ b → t ≡ x
    by true e = same_tree t x e
    by false e = absurd (let k : false ≡ true = rw e at h in cc k)

are-left : (xs ts us : List Tree) → AreAmong xs ts → AreAmong xs (ts ++ us)
are-left [] ts us h = tt
are-left (x ∷ xs) ts us h = (any_more (tree_eq x) ts us h.0, are-left xs ts us h.1)

are-right : (xs ts us : List Tree) → AreAmong xs us → AreAmong xs (ts ++ us)
are-right [] ts us h = tt
are-right (x ∷ xs) ts us h = (among-right x ts us h.0, are-right xs ts us h.1)

are-same : (xs : List Tree) → AreAmong xs xs
are-same [] = tt
are-same (x ∷ xs) = (rw (tree_eq_same x) refl, are-right xs (x ∷ []) xs (are-same xs))

among-inserted : (t : Tree) (ks xs : List Tree) → IsAmong t (insert_all tree_eq ks xs) → IsAmong t ks ⊎ IsAmong t xs
among-inserted t ks [] h = inl h
among-inserted t ks (x ∷ xs) h = elim (among-inserted t (insert_key tree_eq ks x) xs h) [
  | inl k ↦ by (list_any (tree_eq x) ks) refl k
  | inr k ↦ inr (among-right t (x ∷ []) xs k)
]
  where
    by : (b : Bool) → list_any (tree_eq x) ks ≡ b → IsAmong t (insert_key tree_eq ks x) → IsAmong t ks ⊎ IsAmong t (x ∷ xs)
    by true e k = inl (rw e at k)
    by false e k = elim (among-either t ks (x ∷ []) (rw e at k)) [ inl q ↦ inl q | inr q ↦ inr (any_more (tree_eq t) (x ∷ []) xs q) ]

-- trees that are there are not put there once more
all-there : (ks xs : List Tree) → AreAmong xs ks → insert_all tree_eq ks xs ≡ ks
all-there ks [] h = refl
all-there ks (x ∷ xs) h = let first = h.0 in let same : insert_key tree_eq ks x ≡ ks = (rw first refl) in
    ap (λ ts. insert_all tree_eq ts xs) same ∙ all-there ks xs h.1

-- ---- with each tree its applications are there

abbrev Closed : List Tree → Type 0
Closed ts = (t : Tree) → IsAmong t ts → AreAmong (applications t) ts

closed-none : Closed []
closed-none t h = absurd (cc h)

closed-both : (xs ys : List Tree) → Closed xs → Closed ys → Closed (xs ++ ys)
closed-both xs ys h k t there = elim (among-either t xs ys there) [
  | inl q ↦ are-left (applications t) xs ys (h t q)
  | inr q ↦ are-right (applications t) xs ys (k t q)
]

-- in each beginning of a list
abbrev Begun : List Tree → Type 0
Begun ts = (xs ys : List Tree) → ts ≡ xs ++ ys → Closed xs

-- a beginning of two lists, one behind the other, ends in the first, or behind it
record Ends (xs ys front : List Tree) (rest : List Tree) : Type 0 where
  pub behind : List Tree
  pub front-is : front ≡ xs ++ behind
  pub rest-is : ys ≡ behind ++ rest

ends : (xs ys front rest : List Tree) → xs ++ ys ≡ front ++ rest → ((more : List Tree) × (xs ≡ front ++ more)) ⊎ Ends xs ys front rest
ends [] ys front rest e = inr (record { behind = front; front-is = refl; rest-is = e })
ends (x ∷ xs) ys [] rest e = inl (x ∷ xs, refl)
ends (x ∷ xs) ys (f ∷ front) rest e =
    let first : x ≡ f = cc e in
    elim (ends xs ys front rest (cc e)) [
      | inl q ↦ inl (q.0, ap (λ z. x ∷ z) q.1 ∙ ap (λ z. z ∷ (front ++ q.0)) first)
      | inr q ↦ inr (record { behind = q.behind; front-is = ap (λ z. z ∷ front) (sym first) ∙ ap (λ z. x ∷ z) q.front-is; rest-is = q.rest-is })
    ]

begun-none : Begun []
begun-none [] ys e = closed-none
begun-none (x ∷ xs) ys e = absurd (cc e)

begun-both : (us vs : List Tree) → Begun us → Begun vs → Begun (us ++ vs)
begun-both us vs h k xs ys e = elim (ends us vs xs ys e) [
  | inl q ↦ h xs q.0 q.1
  | inr q ↦ subst Closed (sym q.front-is) (closed-both us q.behind (h us [] (sym (append-none us))) (k q.behind ys q.rest-is))
]
  where
    append-none : (zs : List Tree) → zs ++ [] ≡ zs
    append-none [] = refl
    append-none (z ∷ zs) = ap (λ r. z ∷ r) (append-none zs)

-- an application behind those inside of it
begun-last : (t : Tree) (us : List Tree) → applications t ≡ us ++ t ∷ [] → Begun us → Begun (us ++ t ∷ [])
begun-last t us is h xs ys e = elim (ends us (t ∷ []) xs ys e) [
  | inl q ↦ h xs q.0 q.1
  | inr q ↦ subst Closed (sym q.front-is) (by q.behind ys q.rest-is)
]
  where
    append-none : (zs : List Tree) → zs ++ [] ≡ zs
    append-none [] = refl
    append-none (z ∷ zs) = ap (λ r. z ∷ r) (append-none zs)

    inside : Closed us
    inside = h us [] (sym (append-none us))

    whole : Closed (us ++ t ∷ [])
    whole u there = elim (among-either u us (t ∷ []) there) [
      | inl q ↦ are-left (applications u) us (t ∷ []) (inside u q)
      | inr q ↦ subst (λ z. AreAmong (applications z) (us ++ t ∷ [])) (sym (one-of u t q))
          (subst (λ ts. AreAmong ts (us ++ t ∷ [])) (sym is) (are-same (us ++ t ∷ [])))
    ]

    by : (behind rest : List Tree) → t ∷ [] ≡ behind ++ rest → Closed (us ++ behind)
    by [] rest e = subst Closed (sym (append-none us)) inside
    by (b ∷ []) rest e = let same : t ≡ b = cc e in subst (λ z. Closed (us ++ z ∷ [])) same whole
    by (b ∷ c ∷ cs) rest e = absurd (cc e)

mutual
  begun-applications : (t : Tree) → Begun (applications t)
  begun-applications (Int z anns) = begun-none
  begun-applications (Appl name quoted args anns) = begun-last (Appl name quoted args anns) (applications_all args) refl (begun-all args)
  begun-applications (Items items anns) = begun-all items
  begun-applications (Hole inner anns) = begun-none

  begun-all : (ts : Trees) → Begun (applications_all ts)
  begun-all none = begun-none
  begun-all (more t ts) = begun-both (applications t) (applications_all ts) (begun-applications t) (begun-all ts)

there-by : (x : Tree) (ts us : List Tree) → AllByRecursion (λ y. list_any (tree_eq y) us ≡ true) ts → IsAmong x ts → IsAmong x us
there-by x [] us h k = absurd (cc k)
there-by x (t ∷ ts) us h k = by (tree_eq x t) refl (there-by x ts us h.1)
  where
    by : (b : Bool) → tree_eq x t ≡ b → (IsAmong x ts → IsAmong x us) → IsAmong x us
    by true e later = subst (λ z. IsAmong z us) (sym (same_tree x t e)) h.0
    by false e later = later (rw e at k)

are-different : (ts xs : List Tree) → AreAmong xs ts → AreAmong xs (different ts)
are-different ts [] h = tt
are-different ts (x ∷ xs) h = (there-by x ts (different ts) (all_inserted tree_eq tree_eq_same [] ts) h.0, are-different ts xs h.1)

-- the applications of one that was left were left too
pub left-before : (v t : Tree) (before rest : List Tree) → applications v ≡ before ++ rest → IsAmong t (different before)
    → insert_all tree_eq (different before) (applications t) ≡ different before
left-before v t before rest e there = all-there (different before) (applications t)
    (are-different before (applications t) (elim (among-inserted t [] before there) [ inl q ↦ absurd (cc q) | inr q ↦ begun-applications v before rest e t q ]))

pub different-append : (xs ys : List Tree) → different (xs ++ ys) ≡ insert_all tree_eq (different xs) ys
different-append xs ys = all_append tree_eq [] xs ys
