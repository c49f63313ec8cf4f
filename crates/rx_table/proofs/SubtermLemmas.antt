-- The subterms of a tree come before it, in each prefix of the list of subterms.
use Rattle.std.proofs.Common.{◌≡◌, ◌≢◌, ◌⊎◌, inl, inr, ℕ, ◌+◌, ◌≤◌, Bool, true, false, List, [], ◌∷◌, ◌++◌}
use Rattle.std.proofs.Common.{refl, sym, ap, subst, ◌∙◌, append_assoc, append-nil, length, length-append, arith}
use Rattle.std.specs.List.{AllByRecursion, list_any}
use Rattle.indexmap.specs.IndexSet.{insert_key, insert_all}
use Rattle.rx_term.specs.Tree.{Tree, Trees, Int, Appl, Items, Hole, none, more, tree_eq, to_list}
use Rattle.rx_term.proofs.TreeLemmas.{same_tree, tree_eq_same}
use Rattle.rx_table.specs.Table.{different, direct, subterms, subterms_all}
use Rattle.rx_table.specs.Inner.Walk.{IsAmong, AreAmong, IsClosed, Begun}

-- ---- lists

pub all-both : {X : Type 0} (P : X → Type 0) (xs ys : List X) → AllByRecursion P xs → AllByRecursion P ys → AllByRecursion P (xs ++ ys)
all-both P [] ys h k = k
all-both P (x ∷ xs) ys h k = (h.0, all-both P xs ys h.1 k)

pub all-left : {X : Type 0} (P : X → Type 0) (xs ys : List X) → AllByRecursion P (xs ++ ys) → AllByRecursion P xs
all-left P [] ys h = tt
all-left P (x ∷ xs) ys h = (h.0, all-left P xs ys h.1)

pub all-right : {X : Type 0} (P : X → Type 0) (xs ys : List X) → AllByRecursion P (xs ++ ys) → AllByRecursion P ys
all-right P [] ys h = h
all-right P (x ∷ xs) ys h = all-right P xs ys h.1

pub any-more : {X : Type 0} (p : X → Bool) (xs ys : List X) → list_any p xs ≡ true → list_any p (xs ++ ys) ≡ true
any-more p [] ys h = absurd (cc h)
any-more p (x ∷ xs) ys h = by (p x) refl (any-more p xs ys)
  where
    by : (b : Bool) → p x ≡ b → (list_any p xs ≡ true → list_any p (xs ++ ys) ≡ true) → list_any p ((x ∷ xs) ++ ys) ≡ true
    by true e later = rw e refl
    by false e later = rw e (later (rw e at h))

-- ---- trees among others

pub among-right : (t : Tree) (xs ys : List Tree) → IsAmong t ys → IsAmong t (xs ++ ys)
among-right t [] ys h = h
among-right t (x ∷ xs) ys h = by (tree_eq t x) refl (among-right t xs ys h)
  where
    by : (b : Bool) → tree_eq t x ≡ b → IsAmong t (xs ++ ys) → IsAmong t ((x ∷ xs) ++ ys)
    by true e later = rw e refl
    by false e later = rw e later

pub among-left : (t : Tree) (xs ys : List Tree) → IsAmong t xs → IsAmong t (xs ++ ys)
among-left t xs ys h = any-more (tree_eq t) xs ys h

pub among-either : (t : Tree) (xs ys : List Tree) → IsAmong t (xs ++ ys) → IsAmong t xs ⊎ IsAmong t ys
among-either t [] ys h = inr h
among-either t (x ∷ xs) ys h = by (tree_eq t x) refl (among-either t xs ys)
  where
    by : (b : Bool) → tree_eq t x ≡ b → (IsAmong t (xs ++ ys) → IsAmong t xs ⊎ IsAmong t ys) → IsAmong t (x ∷ xs) ⊎ IsAmong t ys
    by true e later = inl (rw e refl)
    by false e later = elim (later (rw e at h)) [ inl k ↦ inl (rw e k) | inr k ↦ inr k ]

pub one-of : (t x : Tree) → IsAmong t (x ∷ []) → t ≡ x
one-of t x h = by (tree_eq t x) refl
  where
    by : (b : Bool) → tree_eq t x ≡ b → t ≡ x
    by true e = same_tree t x e
    by false e = absurd (let k : false ≡ true = rw e at h in cc k)

pub among-first : (t : Tree) (xs : List Tree) → IsAmong t (t ∷ xs)
among-first t xs = rw (tree_eq_same t) refl

pub are-left : (xs ts us : List Tree) → AreAmong xs ts → AreAmong xs (ts ++ us)
are-left [] ts us h = tt
are-left (x ∷ xs) ts us h = (among-left x ts us h.0, are-left xs ts us h.1)

pub are-right : (xs ts us : List Tree) → AreAmong xs us → AreAmong xs (ts ++ us)
are-right [] ts us h = tt
are-right (x ∷ xs) ts us h = (among-right x ts us h.0, are-right xs ts us h.1)

pub are-same : (xs : List Tree) → AreAmong xs xs
are-same [] = tt
are-same (x ∷ xs) = (among-first x xs, are-right xs (x ∷ []) xs (are-same xs))

-- what holds of all holds of one
pub all-at : (P : Tree → Type 0) (xs : List Tree) (t : Tree) → AllByRecursion P xs → IsAmong t xs → P t
all-at P [] t h k = absurd (cc k)
all-at P (x ∷ xs) t h k = by (tree_eq t x) refl (all-at P xs t h.1)
  where
    by : (b : Bool) → tree_eq t x ≡ b → (IsAmong t xs → P t) → P t
    by true e later = subst P (sym (same_tree t x e)) h.0
    by false e later = later (rw e at k)

-- ---- with each tree its subterms are there

closed-none : IsClosed []
closed-none t h = absurd (cc h)

closed-both : (xs ys : List Tree) → IsClosed xs → IsClosed ys → IsClosed (xs ++ ys)
closed-both xs ys h k t there = elim (among-either t xs ys there) [
  | inl q ↦ are-left (subterms t) xs ys (h t q)
  | inr q ↦ are-right (subterms t) xs ys (k t q)
]

-- a prefix of two lists, one after the other, ends in the first, or after it
pub record Ends (xs ys front rest : List Tree) : Type 0 where
  pub behind : List Tree
  pub front-is : front ≡ xs ++ behind
  pub rest-is : ys ≡ behind ++ rest

pub ends : (xs ys front rest : List Tree) → xs ++ ys ≡ front ++ rest → ((more : List Tree) × (xs ≡ front ++ more)) ⊎ Ends xs ys front rest
ends [] ys front rest e = inr (record { behind = front; front-is = refl; rest-is = e })
ends (x ∷ xs) ys [] rest e = inl (x ∷ xs, refl)
ends (x ∷ xs) ys (f ∷ front) rest e =
    let first : x ≡ f = cc e in
    elim (ends xs ys front rest (cc e)) [
      | inl q ↦ inl (q.0, ap (λ z. x ∷ z) q.1 ∙ ap (λ z. z ∷ (front ++ q.0)) first)
      | inr q ↦ inr (record { behind = q.behind; front-is = ap (λ z. z ∷ front) (sym first) ∙ ap (λ z. x ∷ z) q.front-is; rest-is = q.rest-is })
    ]

pub begun-none : Begun []
begun-none [] ys e = closed-none
begun-none (x ∷ xs) ys e = absurd (cc e)

pub begun-both : (us vs : List Tree) → Begun us → Begun vs → Begun (us ++ vs)
begun-both us vs h k xs ys e = elim (ends us vs xs ys e) [
  | inl q ↦ h xs q.0 q.1
  | inr q ↦ subst IsClosed (sym q.front-is) (closed-both us q.behind (h us [] (sym (append-nil us))) (k q.behind ys q.rest-is))
]

-- a tree after those inside of it
begun-last : (t : Tree) (us : List Tree) → subterms t ≡ us ++ t ∷ [] → Begun us → Begun (us ++ t ∷ [])
begun-last t us is h xs ys e = elim (ends us (t ∷ []) xs ys e) [
  | inl q ↦ h xs q.0 q.1
  | inr q ↦ subst IsClosed (sym q.front-is) (by q.behind ys q.rest-is)
]
  where
    inside : IsClosed us
    inside = h us [] (sym (append-nil us))

    whole : IsClosed (us ++ t ∷ [])
    whole u there = elim (among-either u us (t ∷ []) there) [
      | inl q ↦ are-left (subterms u) us (t ∷ []) (inside u q)
      | inr q ↦ subst (λ z. AreAmong (subterms z) (us ++ t ∷ [])) (sym (one-of u t q))
          (subst (λ ts. AreAmong ts (us ++ t ∷ [])) (sym is) (are-same (us ++ t ∷ [])))
    ]

    by : (behind rest : List Tree) → t ∷ [] ≡ behind ++ rest → IsClosed (us ++ behind)
    by [] rest e = subst IsClosed (sym (append-nil us)) inside
    by (b ∷ []) rest e = let same : t ≡ b = cc e in subst (λ z. IsClosed (us ++ z ∷ [])) same whole
    by (b ∷ c ∷ cs) rest e = absurd (cc e)

mutual
  pub begun-subterms : (t : Tree) → Begun (subterms t)
  begun-subterms (Int z anns) = begun-last (Int z anns) (subterms_all anns) refl (begun-all anns)
  begun-subterms (Appl name quoted args anns) = begun-last (Appl name quoted args anns) (subterms_all args ++ subterms_all anns) refl
      (begun-both (subterms_all args) (subterms_all anns) (begun-all args) (begun-all anns))
  begun-subterms (Items items anns) = begun-last (Items items anns) (subterms_all items ++ subterms_all anns) refl
      (begun-both (subterms_all items) (subterms_all anns) (begun-all items) (begun-all anns))
  begun-subterms (Hole inner anns) = begun-last (Hole inner anns) (subterms inner ++ subterms_all anns) refl
      (begun-both (subterms inner) (subterms_all anns) (begun-subterms inner) (begun-all anns))

  pub begun-all : (ts : Trees) → Begun (subterms_all ts)
  begun-all none = begun-none
  begun-all (more t ts) = begun-both (subterms t) (subterms_all ts) (begun-subterms t) (begun-all ts)

-- ---- different trees

among-inserted : (t : Tree) (ks xs : List Tree) → IsAmong t (insert_all tree_eq ks xs) → IsAmong t ks ⊎ IsAmong t xs
among-inserted t ks [] h = inl h
among-inserted t ks (x ∷ xs) h = elim (among-inserted t (insert_key tree_eq ks x) xs h) [
  | inl k ↦ by (list_any (tree_eq x) ks) refl k
  | inr k ↦ inr (among-right t (x ∷ []) xs k)
]
  where
    by : (b : Bool) → list_any (tree_eq x) ks ≡ b → IsAmong t (insert_key tree_eq ks x) → IsAmong t ks ⊎ IsAmong t (x ∷ xs)
    by true e k = inl (rw e at k)
    by false e k = elim (among-either t ks (x ∷ []) (rw e at k)) [ inl q ↦ inl q | inr q ↦ inr (among-left t (x ∷ []) xs q) ]

pub among-different : (t : Tree) (xs : List Tree) → IsAmong t (different xs) → IsAmong t xs
among-different t xs h = elim (among-inserted t [] xs h) [ inl q ↦ absurd (cc q) | inr q ↦ q ]

-- one that was there stays, and each that is inserted is there
still-among : (t : Tree) (ks xs : List Tree) → IsAmong t ks → IsAmong t (insert_all tree_eq ks xs)
still-among t ks [] h = h
still-among t ks (x ∷ xs) h = still-among t (insert_key tree_eq ks x) xs (by (list_any (tree_eq x) ks) refl)
  where
    by : (b : Bool) → list_any (tree_eq x) ks ≡ b → IsAmong t (insert_key tree_eq ks x)
    by true e = rw e h
    by false e = rw e (among-left t ks (x ∷ []) h)

now-among : (ks xs : List Tree) → AreAmong xs (insert_all tree_eq ks xs)
now-among ks [] = tt
now-among ks (x ∷ xs) = (still-among x (insert_key tree_eq ks x) xs (by (list_any (tree_eq x) ks) refl), now-among (insert_key tree_eq ks x) xs)
  where
    by : (b : Bool) → list_any (tree_eq x) ks ≡ b → IsAmong x (insert_key tree_eq ks x)
    by true e = rw e e
    by false e = rw e (among-right x ks (x ∷ []) (among-first x []))

pub among-still : (t : Tree) (xs : List Tree) → IsAmong t xs → IsAmong t (different xs)
among-still t xs h = all-at (λ x. IsAmong x (different xs)) xs t (now-among [] xs) h

pub are-different : (ts xs : List Tree) → AreAmong xs ts → AreAmong xs (different ts)
are-different ts [] h = tt
are-different ts (x ∷ xs) h = (among-still x ts h.0, are-different ts xs h.1)

pub closed-different : (ts : List Tree) → IsClosed ts → IsClosed (different ts)
closed-different ts h t there = are-different ts (subterms t) (h t (among-different t ts there))

-- a prefix of what is inserted was inserted by a prefix
record Comes (ks bs xs : List Tree) : Type 0 where
  pub front : List Tree
  pub rest : List Tree
  pub is : bs ≡ front ++ rest
  pub inserted : insert_all tree_eq ks front ≡ xs

comes : (ks bs xs ys : List Tree) → insert_all tree_eq ks bs ≡ xs ++ ys → ((zs : List Tree) × (ks ≡ xs ++ zs)) ⊎ Comes ks bs xs
comes ks [] xs ys e = inl (ys, e)
comes ks (b ∷ bs) xs ys e = elim (comes (insert_key tree_eq ks b) bs xs ys e) [
  | inl q ↦ by (list_any (tree_eq b) ks) refl q.0 q.1
  | inr q ↦ inr (record { front = b ∷ q.front; rest = q.rest; is = ap (λ z. b ∷ z) q.is; inserted = q.inserted })
]
  where
    last : (zs behind : List Tree) → insert_key tree_eq ks b ≡ ks ++ b ∷ [] → xs ≡ ks ++ behind → b ∷ [] ≡ behind ++ zs
        → ((zs : List Tree) × (ks ≡ xs ++ zs)) ⊎ Comes ks (b ∷ bs) xs
    last zs [] new is over = inl ([], sym (append-nil xs ∙ is ∙ append-nil ks))
    last zs (c ∷ []) new is over =
        let same : b ≡ c = cc over in
        inr (record { front = b ∷ []; rest = bs; is = refl; inserted = new ∙ ap (λ z. ks ++ z ∷ []) same ∙ sym is })
    last zs (c ∷ d ∷ ds) new is over = absurd (cc over)

    by : (v : Bool) → list_any (tree_eq b) ks ≡ v → (zs : List Tree) → insert_key tree_eq ks b ≡ xs ++ zs
        → ((zs : List Tree) × (ks ≡ xs ++ zs)) ⊎ Comes ks (b ∷ bs) xs
    by true q zs k = inl (zs, rw q at k)
    by false q zs k =
        let new : insert_key tree_eq ks b ≡ ks ++ b ∷ [] = (rw q refl) in
        elim (ends ks (b ∷ []) xs zs (sym new ∙ k)) [
          | inl r ↦ inl (r.0, r.1)
          | inr r ↦ last zs r.behind new r.front-is r.rest-is
        ]

pub begun-different : (bs : List Tree) → Begun bs → Begun (different bs)
begun-different bs h xs ys e = elim (comes [] bs xs ys e) [
  | inl q ↦ none-of xs q.0 q.1
  | inr q ↦ subst IsClosed q.inserted (closed-different q.front (h q.front q.rest q.is))
]
  where
    none-of : (xs zs : List Tree) → [] ≡ xs ++ zs → IsClosed xs
    none-of [] zs e = closed-none
    none-of (x ∷ xs) zs e = absurd (cc e)

-- ---- what is inside

-- inside t: the subterms but the tree itself
abbrev pub inside : Tree → List Tree
inside (Int z anns) = subterms_all anns
inside (Appl name quoted args anns) = subterms_all args ++ subterms_all anns
inside (Items items anns) = subterms_all items ++ subterms_all anns
inside (Hole inner anns) = subterms inner ++ subterms_all anns

pub subterms-inside : (t : Tree) → subterms t ≡ inside t ++ t ∷ []
subterms-inside (Int z anns) = refl
subterms-inside (Appl name quoted args anns) = refl
subterms-inside (Items items anns) = refl
subterms-inside (Hole inner anns) = refl

size : Tree → ℕ
size t = length (subterms t)

size-inside : (t : Tree) → length (subterms t) ≡ length (inside t) + 1
size-inside t = ap length (subterms-inside t) ∙ length-append (inside t) (t ∷ [])

abbrev IsSmaller : List Tree → ℕ → Type 0
IsSmaller ts n = (v : Tree) → IsAmong v ts → length (subterms v) ≤ n

smaller-both : (xs ys : List Tree) (n m : ℕ) → IsSmaller xs n → IsSmaller ys m → IsSmaller (xs ++ ys) (n + m)
smaller-both xs ys n m h k v there = elim (among-either v xs ys there) [
  | inl q ↦ (let a = h v q in omega (arith, a))
  | inr q ↦ (let a = k v q in omega (arith, a))
]

with-last : (t : Tree) (xs : List Tree) → subterms t ≡ xs ++ t ∷ [] → IsSmaller xs (length xs) → IsSmaller (subterms t) (length (subterms t))
with-last t xs e h v there = elim (among-either v xs (t ∷ []) (subst (IsAmong v) e there)) [
  | inl q ↦ (let a = h v q in let b = ap length e ∙ length-append xs (t ∷ []) in omega (arith, a, b))
  | inr q ↦ (let same = one-of v t q in rw same (omega arith))
]

along : (xs ys : List Tree) → IsSmaller xs (length xs) → IsSmaller ys (length ys) → IsSmaller (xs ++ ys) (length (xs ++ ys))
along xs ys h k v there = let a = smaller-both xs ys (length xs) (length ys) h k v there in let b = length-append xs ys in omega (arith, a, b)

mutual
  smaller : (t : Tree) → IsSmaller (subterms t) (length (subterms t))
  smaller (Int z anns) = with-last (Int z anns) (subterms_all anns) refl (smaller-all anns)
  smaller (Appl name quoted args anns) = with-last (Appl name quoted args anns) (subterms_all args ++ subterms_all anns) refl
      (along (subterms_all args) (subterms_all anns) (smaller-all args) (smaller-all anns))
  smaller (Items items anns) = with-last (Items items anns) (subterms_all items ++ subterms_all anns) refl
      (along (subterms_all items) (subterms_all anns) (smaller-all items) (smaller-all anns))
  smaller (Hole inner anns) = with-last (Hole inner anns) (subterms inner ++ subterms_all anns) refl
      (along (subterms inner) (subterms_all anns) (smaller inner) (smaller-all anns))

  smaller-all : (ts : Trees) → IsSmaller (subterms_all ts) (length (subterms_all ts))
  smaller-all none = λ v there. absurd (cc there)
  smaller-all (more t ts) = along (subterms t) (subterms_all ts) (smaller t) (smaller-all ts)

smaller-inside : (t : Tree) → IsSmaller (inside t) (length (inside t))
smaller-inside (Int z anns) = smaller-all anns
smaller-inside (Appl name quoted args anns) = along (subterms_all args) (subterms_all anns) (smaller-all args) (smaller-all anns)
smaller-inside (Items items anns) = along (subterms_all items) (subterms_all anns) (smaller-all items) (smaller-all anns)
smaller-inside (Hole inner anns) = along (subterms inner) (subterms_all anns) (smaller inner) (smaller-all anns)

-- a tree is not inside of itself
pub not-inside : (t v : Tree) → IsAmong v (inside t) → v ≢ t
not-inside t v there e = let a = smaller-inside t v there in let b = size-inside t in let c = ap (λ x. length (subterms x)) e in absurd (omega (arith, a, b, c))

-- each tree inside of one comes before it, where prefixes are closed
pub inside-before : (t : Tree) (xs ys : List Tree) → Begun (xs ++ t ∷ ys) → AreAmong (inside t) xs
inside-before t xs ys h = all-among (inside t) (λ v there. before v there)
  where
    all-among : (us : List Tree) → ((v : Tree) → IsAmong v us → IsAmong v xs) → AreAmong us xs
    all-among [] k = tt
    all-among (u ∷ us) k = (k u (among-first u us), all-among us (λ v there. k v (among-right v (u ∷ []) us there)))

    closed : IsClosed (xs ++ t ∷ [])
    closed = h (xs ++ t ∷ []) ys (sym (append_assoc xs (t ∷ []) ys))

    whole : AreAmong (subterms t) (xs ++ t ∷ [])
    whole = closed t (among-right t xs (t ∷ []) (among-first t []))

    before : (v : Tree) → IsAmong v (inside t) → IsAmong v xs
    before v there =
        let here : IsAmong v (subterms t) = subst (IsAmong v) (sym (subterms-inside t)) (among-left v (inside t) (t ∷ []) there) in
        elim (among-either v xs (t ∷ []) (all-at (λ u. IsAmong u (xs ++ t ∷ [])) (subterms t) v whole here)) [
          | inl q ↦ q
          | inr q ↦ absurd (not-inside t v there (one-of v t q))
        ]

-- ---- one step inside

itself : (t : Tree) → IsAmong t (subterms t)
itself t = subst (IsAmong t) (sym (subterms-inside t)) (among-right t (inside t) (t ∷ []) (among-first t []))

direct-all : (ts : Trees) → AreAmong (to_list ts) (subterms_all ts)
direct-all none = tt
direct-all (more t ts) = (among-left t (subterms t) (subterms_all ts) (itself t), are-right (to_list ts) (subterms t) (subterms_all ts) (direct-all ts))

pub direct-inside : (t : Tree) → AreAmong (direct t) (inside t)
direct-inside (Int z anns) = direct-all anns
direct-inside (Appl name quoted args anns) = both (to_list args) (to_list anns) (subterms_all args) (subterms_all anns) (direct-all args) (direct-all anns)
  where
    both : (xs ys us vs : List Tree) → AreAmong xs us → AreAmong ys vs → AreAmong (xs ++ ys) (us ++ vs)
    both xs ys us vs h k = all-both (λ x. IsAmong x (us ++ vs)) xs ys (are-left xs us vs h) (are-right ys us vs k)
direct-inside (Items items anns) = both (to_list items) (to_list anns) (subterms_all items) (subterms_all anns) (direct-all items) (direct-all anns)
  where
    both : (xs ys us vs : List Tree) → AreAmong xs us → AreAmong ys vs → AreAmong (xs ++ ys) (us ++ vs)
    both xs ys us vs h k = all-both (λ x. IsAmong x (us ++ vs)) xs ys (are-left xs us vs h) (are-right ys us vs k)
direct-inside (Hole inner anns) = (among-left inner (subterms inner) (subterms_all anns) (itself inner), are-right (to_list anns) (subterms inner) (subterms_all anns) (direct-all anns))
