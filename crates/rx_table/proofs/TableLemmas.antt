-- The table of a tree opens to the tree.
use Rattle.std.proofs.Common.{◌≡◌, inl, inr, ℕ, suc, ◌+◌, Bool, true, false, List, [], ◌∷◌, ◌++◌}
use Rattle.std.proofs.Common.{Option, Some, None, refl, sym, ap, subst, ◌∙◌, append_assoc, append-nil, filter, map, slice_get, arith}
use Rattle.std.specs.List.{AllByRecursion, list_any, position_or_len}
use Rattle.std.specs.Option.{option_and_then, option_map}
use Rattle.rx_term.specs.Tree.{Tree, Trees, Int, Appl, Items, Hole, none, more, tree_eq, from_list, list_of}
use Rattle.rx_term.proofs.TreeLemmas.{same_tree}
use Rattle.rx_table.specs.Table.{different, subterms, subterms_all, is_shared, shared, numbered, entry, written, written_all, table}
use Rattle.rx_table.specs.Opened.{opened, opened_all, last_opened, tree_of_table, broken_from, broken_by_table}
use Rattle.rx_table.specs.Inner.Walk.{IsAmong, AreAmong, Begun}
use Rattle.rx_table.proofs.SubtermLemmas.{all-left, all-right, among-either, among-first, among-right, one-of, begun-different, begun-subterms}
use Rattle.rx_table.proofs.SubtermLemmas.{inside, inside-before, subterms-inside}

-- ---- numbers of elements

next-get : (e : Tree) (es : List Tree) (n : ℕ) → slice_get (e ∷ es) (1 + n) ≡ slice_get es n
next-get e es n = let s : 1 + n ≡ suc n = omega arith in rw s refl

-- where a test finds one in a prefix, it finds it there in the whole list
found-at : (t : Tree) (es rest : List Tree) → IsAmong t es → slice_get es (position_or_len (tree_eq t) (es ++ rest)) ≡ Some t
found-at t [] rest h = absurd (cc h)
found-at t (e ∷ es) rest h = by (tree_eq t e) refl (found-at t es rest)
  where
    by : (b : Bool) → tree_eq t e ≡ b → (IsAmong t es → slice_get es (position_or_len (tree_eq t) (es ++ rest)) ≡ Some t)
        → slice_get (e ∷ es) (position_or_len (tree_eq t) ((e ∷ es) ++ rest)) ≡ Some t
    by true q later = rw q (ap (λ z. let o : Option Tree = Some z in o) (sym (same_tree t e q)))
    by false q later = rw q (next-get e es (position_or_len (tree_eq t) (es ++ rest)) ∙ later (rw q at h))

-- ---- what is written opens

-- a tree that has an element has one of the elements so far
abbrev Early : List Tree → List Tree → Tree → Type 0
Early ps es t = IsAmong t ps → IsAmong t es

module _ (ps es rest : List Tree) (is : ps ≡ es ++ rest) where
  opens-numbered : (t : Tree) → Early ps es t → opened es (entry ps t) ≡ Some t → opened es (numbered ps t (entry ps t)) ≡ Some t
  opens-numbered t early h = by (list_any (tree_eq t) ps) refl
    where
      by : (b : Bool) → list_any (tree_eq t) ps ≡ b → opened es (numbered ps t (entry ps t)) ≡ Some t
      by true e =
          let at = found-at t es rest (early e) in
          rw e (subst (λ zs. slice_get es (position_or_len (tree_eq t) zs) ≡ Some t) (sym is) at)
      by false e = rw e h

  early-inside : (t : Tree) → AllByRecursion (Early ps es) (subterms t) → AllByRecursion (Early ps es) (inside t) × Early ps es t
  early-inside t h =
      let k = subst (AllByRecursion (Early ps es)) (subterms-inside t) h in
      (all-left (Early ps es) (inside t) (t ∷ []) k, (all-right (Early ps es) (inside t) (t ∷ []) k).0)

  mutual
    pub opens-entry : (t : Tree) → AllByRecursion (Early ps es) (inside t) → opened es (entry ps t) ≡ Some t
    opens-entry (Int z anns) h = let a = opens-all anns h in rw a refl
    opens-entry (Appl name quoted args anns) h =
        let a = opens-all args (all-left (Early ps es) (subterms_all args) (subterms_all anns) h) in
        let b = opens-all anns (all-right (Early ps es) (subterms_all args) (subterms_all anns) h) in
        rw (a, b) refl
    opens-entry (Items items anns) h =
        let a = opens-all items (all-left (Early ps es) (subterms_all items) (subterms_all anns) h) in
        let b = opens-all anns (all-right (Early ps es) (subterms_all items) (subterms_all anns) h) in
        rw (a, b) refl
    opens-entry (Hole inner anns) h =
        let k = early-inside inner (all-left (Early ps es) (subterms inner) (subterms_all anns) h) in
        let a = opens-numbered inner k.1 (opens-entry inner k.0) in
        let b = opens-all anns (all-right (Early ps es) (subterms inner) (subterms_all anns) h) in
        rw (a, b) refl

    pub opens-all : (ts : Trees) → AllByRecursion (Early ps es) (subterms_all ts) → opened_all es (written_all ps ts) ≡ Some ts
    opens-all none h = refl
    opens-all (more t ts) h =
        let k = early-inside t (all-left (Early ps es) (subterms t) (subterms_all ts) h) in
        let a = opens-numbered t k.1 (opens-entry t k.0) in
        let b = opens-all ts (all-right (Early ps es) (subterms t) (subterms_all ts) h) in
        rw (a, b) refl

  pub opens-written : (t : Tree) → AllByRecursion (Early ps es) (subterms t) → opened es (written ps t) ≡ Some t
  opens-written t h = let k = early-inside t h in opens-numbered t k.1 (opens-entry t k.0)

-- ---- the elements of a table

-- a shared part stands where it stands among the parts
pub record Picked (p : Tree → Bool) (qs es : List Tree) (t : Tree) (rest : List Tree) : Type 0 where
  pub before : List Tree
  pub after : List Tree
  pub is : qs ≡ before ++ t ∷ after
  pub picked : filter p before ≡ es

pub picked-at : (p : Tree → Bool) (qs es : List Tree) (t : Tree) (rest : List Tree) → filter p qs ≡ es ++ t ∷ rest → Picked p qs es t rest
picked-at p [] [] t rest e = absurd (cc e)
picked-at p [] (x ∷ es) t rest e = absurd (cc e)
picked-at p (q ∷ qs) es t rest e = by (p q) refl es e (λ es. picked-at p qs es t rest)
  where
    by : (b : Bool) → p q ≡ b → (es : List Tree) → filter p (q ∷ qs) ≡ es ++ t ∷ rest
        → ((es : List Tree) → filter p qs ≡ es ++ t ∷ rest → Picked p qs es t rest) → Picked p (q ∷ qs) es t rest
    by true h [] k later =
        let k' : q ∷ filter p qs ≡ t ∷ rest = rw h at k in
        record { before = []; after = qs; is = (let same : q ≡ t = cc k' in ap (λ z. z ∷ qs) same); picked = refl }
    by true h (x ∷ es) k later =
        let k' : q ∷ filter p qs ≡ x ∷ (es ++ t ∷ rest) = rw h at k in
        let same : q ≡ x = cc k' in
        let l = later es (cc k') in
        record { before = q ∷ l.before; after = l.after; is = ap (λ z. q ∷ z) l.is; picked = rw h (ap (λ z. q ∷ z) l.picked ∙ ap (λ z. z ∷ es) same) }
    by false h es k later =
        let l = later es (rw h at k) in
        record { before = q ∷ l.before; after = l.after; is = ap (λ z. q ∷ z) l.is; picked = rw h l.picked }

pub among-filter : (p : Tree → Bool) (t : Tree) (qs : List Tree) → IsAmong t (filter p qs) → (p t ≡ true) × IsAmong t qs
among-filter p t [] h = absurd (cc h)
among-filter p t (q ∷ qs) h = by (p q) refl (among-filter p t qs)
  where
    by : (b : Bool) → p q ≡ b → (IsAmong t (filter p qs) → (p t ≡ true) × IsAmong t qs) → (p t ≡ true) × IsAmong t (q ∷ qs)
    by false e later = let k = later (rw e at h) in (k.0, among-right t (q ∷ []) qs k.1)
    by true e later = elim (among-either t (q ∷ []) (filter p qs) (rw e at h)) [
      | inl k ↦ (let same = one-of t q k in (subst (λ z. p z ≡ true) (sym same) e, subst (λ z. IsAmong t (z ∷ qs)) same (among-first t qs)))
      | inr k ↦ (let l = later k in (l.0, among-right t (q ∷ []) qs l.1))
    ]

pub filter-among : (p : Tree → Bool) (t : Tree) (qs : List Tree) → p t ≡ true → IsAmong t qs → IsAmong t (filter p qs)
filter-among p t [] h k = absurd (cc k)
filter-among p t (q ∷ qs) h k = by (p q) refl (filter-among p t qs h)
  where
    by : (b : Bool) → p q ≡ b → (IsAmong t qs → IsAmong t (filter p qs)) → IsAmong t (filter p (q ∷ qs))
    by true e later = elim (among-either t (q ∷ []) qs k) [
      | inl l ↦ rw e (subst (λ z. IsAmong t (z ∷ filter p qs)) (one-of t q l) (among-first t (filter p qs)))
      | inr l ↦ rw e (among-right t (q ∷ []) (filter p qs) (later l))
    ]
    by false e later = elim (among-either t (q ∷ []) qs k) [
      | inl l ↦ absurd (let m : false ≡ true = sym e ∙ ap p (sym (one-of t q l)) ∙ h in cc m)
      | inr l ↦ rw e (later l)
    ]

module _ (t : Tree) where
  order : Begun (different (subterms t))
  order = begun-different (subterms t) (begun-subterms t)

  -- what is inside of a shared part and shared comes before it
  early-shared : (es rest : List Tree) (p : Tree) → shared t ≡ es ++ p ∷ rest → AllByRecursion (Early (shared t) es) (inside p)
  early-shared es rest p e =
      let qs = different (subterms t) in
      let k = picked-at (is_shared qs) qs es p rest e in
      each qs k.before es k.picked (inside p) (inside-before p k.before k.after (subst Begun k.is order))
    where
      each : (qs before es : List Tree) → filter (is_shared qs) before ≡ es → (us : List Tree) → AreAmong us before
          → AllByRecursion (Early (filter (is_shared qs) qs) es) us
      each qs before es is [] h = tt
      each qs before es is (u ∷ us) h = (
        (λ there. subst (IsAmong u) is (filter-among (is_shared qs) u before (among-filter (is_shared qs) u qs there).0 h.0)),
        each qs before es is us h.1,
      )

  early-all : (us : List Tree) → AllByRecursion (Early (shared t) (shared t)) us
  early-all [] = tt
  early-all (u ∷ us) = ((λ h. h), early-all us)

-- the tree of the last of some elements
abbrev opened_items : List Tree → Trees → Option Tree
opened_items es none = None
opened_items es (more v vs) = last_opened es v vs

one-opened : (es : List Tree) (v u : Tree) (xs : List Tree) (y : Tree) → opened es v ≡ Some u
    → opened_items es (from_list (v ∷ (xs ++ y ∷ []))) ≡ opened_items (es ++ u ∷ []) (from_list (xs ++ y ∷ []))
one-opened es v u [] y e = rw e refl
one-opened es v u (x ∷ xs) y e = rw e refl

opened-table : (ts : Trees) → tree_of_table (list_of ts) ≡ opened_items [] ts
opened-table none = refl
opened-table (more v vs) = refl

opens-from : (t : Tree) (es rest : List Tree) → shared t ≡ es ++ rest
    → opened_items es (from_list (map (entry (shared t)) rest ++ written (shared t) t ∷ [])) ≡ Some t
opens-from t es [] e =
    let all : shared t ≡ es = e ∙ append-nil es in
    opens-written (shared t) es [] e t (subst (λ zs. AllByRecursion (Early (shared t) zs) (subterms t)) all (early-all t (subterms t)))
opens-from t es (p ∷ rest) e =
    let ps = shared t in
    let a = opens-entry ps es (p ∷ rest) e p (early-shared t es rest p e) in
    one-opened es (entry ps p) p (map (entry ps) rest) (written ps t) a
    ∙ opens-from t (es ++ p ∷ []) rest (e ∙ sym (append_assoc es (p ∷ []) rest))

pub table-opens : (t : Tree) → tree_of_table (table t) ≡ Some t
table-opens t = opened-table (from_list (map (entry (shared t)) (shared t) ++ written (shared t) t ∷ [])) ∙ opens-from t [] (shared t) refl

-- ---- a list opens or breaks a rule

breaks-none : (es : List Tree) (v : Tree) (vs : Trees) (u : Tree) → last_opened es v vs ≡ Some u → broken_from es (more v vs) ≡ None
breaks-none es v none u e = rw e refl
breaks-none es v (more x xs) u e = by (opened es v) refl (λ z. breaks-none (es ++ z ∷ []) x xs u)
  where
    by : (o : Option Tree) → opened es v ≡ o
        → ((z : Tree) → last_opened (es ++ z ∷ []) x xs ≡ Some u → broken_from (es ++ z ∷ []) (more x xs) ≡ None) → broken_from es (more v (more x xs)) ≡ None
    by None q later = absurd (let k : option_and_then (λ z. last_opened (es ++ z ∷ []) x xs) None ≡ Some u = rw q at e in cc k)
    by (Some z) q later = rw q (later z (rw q at e))

none-breaks : (es : List Tree) (v : Tree) (vs : Trees) (n : ℕ) → broken_from es (more v vs) ≡ Some n → last_opened es v vs ≡ None
none-breaks es v none n e = by (opened es v) refl
  where
    by : (o : Option Tree) → opened es v ≡ o → opened es v ≡ None
    by None q = q
    by (Some z) q = absurd (let k : None ≡ Some n = rw q at e in cc k)
none-breaks es v (more x xs) n e = by (opened es v) refl (λ z. none-breaks (es ++ z ∷ []) x xs n)
  where
    by : (o : Option Tree) → opened es v ≡ o
        → ((z : Tree) → broken_from (es ++ z ∷ []) (more x xs) ≡ Some n → last_opened (es ++ z ∷ []) x xs ≡ None) → last_opened es v (more x xs) ≡ None
    by None q later = rw q refl
    by (Some z) q later = rw q (later z (rw q at e))

pub opens-no-rule : (t u : Tree) → tree_of_table t ≡ Some u → broken_by_table t ≡ None
opens-no-rule (Items (more v vs) none) u e = ap (option_map (λ n. 2)) (breaks-none [] v vs u e)
opens-no-rule (Items none anns) u e = absurd (cc e)
opens-no-rule (Items (more v vs) (more a as')) u e = absurd (cc e)
opens-no-rule (Int z anns) u e = absurd (cc e)
opens-no-rule (Appl name quoted args anns) u e = absurd (cc e)
opens-no-rule (Hole inner anns) u e = absurd (cc e)

pub breaks-no-tree : (t : Tree) (rule : ℕ) → broken_by_table t ≡ Some rule → tree_of_table t ≡ None
breaks-no-tree (Items (more v vs) none) rule e = by (broken_from [] (more v vs)) refl
  where
    by : (o : Option ℕ) → broken_from [] (more v vs) ≡ o → last_opened [] v vs ≡ None
    by None q = absurd (let k : option_map (λ (n : ℕ). 2) None ≡ Some rule = rw q at e in cc k)
    by (Some n) q = none-breaks [] v vs n q
breaks-no-tree (Items none anns) rule e = refl
breaks-no-tree (Items (more v vs) (more a as')) rule e = refl
breaks-no-tree (Int z anns) rule e = refl
breaks-no-tree (Appl name quoted args anns) rule e = refl
breaks-no-tree (Hole inner anns) rule e = refl
