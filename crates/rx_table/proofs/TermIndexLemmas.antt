-- References that are found in pages.
use Rattle.std.proofs.Common.{◌≡◌, ◌≢◌, ℕ, suc, ◌+◌, ◌/◌, ◌%◌, ◌^◌, ◌<◌, ◌≤◌, Bool, true, false, List, [], ◌∷◌, ◌++◌}
use Rattle.std.proofs.Common.{Option, Some, None, Result, Ok, Err, refl, sym, ap, subst, ◌∙◌, inl, inr, get_or, length, length-append, map, set, arith}
use Rattle.std.proofs.Common.{get_or-set_same, get_or-set_other, lt-ltb, eq-eqb}
use Rattle.std.proofs.lemmas.List.{get_or_append_left, get_or-append-add, get_or-map, get_or_past, length-map, map-set}
use Rattle.std.proofs.lemmas.List.Quantifiers.{position-Some}
use Rattle.std.proofs.lemmas.List.Sums.{fails_before_first, position_or_len_is}
use Rattle.std.proofs.lemmas.List.Folds.{list_any_at}
use Rattle.std.proofs.lemmas.Nat.{div-add-mod'}
use Rattle.std.proofs.lemmas.Bool.{cases_eq, cases_lt}
use borrow.Author.Tests.{eqb-true, eqb-false, apart_eqb, ltb-false}
use Rattle.std.specs.Prelude.{OnOk, Vec, nat_eq, nat_lt, position}
use Rattle.std.specs.List.{list_any, position_or_len}
use Rattle.std.specs.declared.alloc.Global.{Global}
use Rattle.indexmap.specs.IndexSet.{insert_key}
use Rattle.rx_table.specs.Inner.Pages.{ArePaged, entry_at, entry_in, page_at}

-- ---- a reference that is found, and one that is not

-- what is at the entry of a reference is at its position
pub position-is : (ks : List ℕ) (pages : List (Vec ℕ Global)) (t i : ℕ) → ArePaged ks pages → i < length ks → get_or ks i 0 ≡ t
    → Some i ≡ position (nat_eq t) ks
position-is ks pages t i h lt at = (let less = lt-ltb i (length ks) lt in rw (place, less) refl)
  where
    before : (k : ℕ) → k < i → nat_eq t (get_or ks k 0) ≡ false
    before k less = apart_eqb t (get_or ks k 0) (λ e.
        let here = h.entries k (omega (arith, less, lt)) in
        let there = h.entries i lt in
        let same = ap (entry_at pages) (sym e) ∙ ap (entry_at pages) (sym at) in
        omega (arith, here, there, same, less))

    place : position_or_len (nat_eq t) ks ≡ i
    place = position_or_len_is (nat_eq t) ks i 0 (omega (arith, lt)) before (λ _. eq-eqb t (get_or ks i 0) (sym at))

-- a reference that has a position is there
pub position-at : (ks : List ℕ) (t i : ℕ) → position (nat_eq t) ks ≡ Some i → (i < length ks) × (get_or ks i 0 ≡ t)
position-at ks t i e =
    let p = position-Some (nat_eq t) ks i 0 e in
    (p.0, sym (eqb-true t (get_or ks i 0) p.1))

-- a reference is not there if it is not at its entry
pub position-none : (ks : List ℕ) (pages : List (Vec ℕ Global)) (t i : ℕ) → ArePaged ks pages → i ≡ entry_at pages t
    → (i < length ks → get_or ks i 0 ≡ t → ⊥) → None ≡ position (nat_eq t) ks
position-none ks pages t i h entry apart = by (position (nat_eq t) ks) refl
  where
    by : (o : Option ℕ) → position (nat_eq t) ks ≡ o → None ≡ position (nat_eq t) ks
    by None e = sym e
    by (Some k) e =
        let p = position-at ks t k e in
        let same : k ≡ i = sym (entry ∙ subst (λ n. entry_at pages n ≡ k) p.1 (h.entries k p.0)) in
        absurd (apart (subst (λ n. n < length ks) same p.0) (subst (λ n. get_or ks n 0 ≡ t) same p.1))

none-long : (p : ℕ → Bool) (ks : List ℕ) → position p ks ≡ None → length ks ≤ position_or_len p ks
none-long p ks e = by (nat_lt (position_or_len p ks) (length ks)) refl
  where
    by : (b : Bool) → nat_lt (position_or_len p ks) (length ks) ≡ b → length ks ≤ position_or_len p ks
    by true q = absurd (let k : Some (position_or_len p ks) ≡ None = rw q at e in cc k)
    by false q = ltb-false (position_or_len p ks) (length ks) q

long-absent : (p : ℕ → Bool) (ks : List ℕ) → length ks ≤ position_or_len p ks → list_any p ks ≡ false
long-absent p [] le = refl
long-absent p (k ∷ ks) le = by (p k) refl (long-absent p ks)
  where
    by : (b : Bool) → p k ≡ b → (length ks ≤ position_or_len p ks → list_any p ks ≡ false) → list_any p (k ∷ ks) ≡ false
    by true q later = absurd (let z : suc (length ks) ≤ 0 = rw q at le in omega (arith, z))
    by false q later = let z : suc (length ks) ≤ 1 + position_or_len p ks = rw q at le in rw q (later (omega (arith, z)))

-- a reference without a position is not there
pub none-absent : (ks : List ℕ) (t : ℕ) → position (nat_eq t) ks ≡ None → list_any (nat_eq t) ks ≡ false
none-absent ks t e = long-absent (nat_eq t) ks (none-long (nat_eq t) ks e)

-- a reference with a position is there
pub some-there : (ks : List ℕ) (t i : ℕ) → position (nat_eq t) ks ≡ Some i → list_any (nat_eq t) ks ≡ true
some-there ks t i e =
    let p = position-at ks t i e in
    list_any_at (nat_eq t) ks i 0 p.0 (eq-eqb t (get_or ks i 0) (sym p.1))

pub inserted-there : (ks : List ℕ) (t i : ℕ) → position (nat_eq t) ks ≡ Some i → ks ≡ insert_key nat_eq ks t
inserted-there ks t i e = (let there = some-there ks t i e in rw there refl)

pub inserted-last : (ks : List ℕ) (t : ℕ) → position (nat_eq t) ks ≡ None → ks ++ t ∷ [] ≡ insert_key nat_eq ks t
inserted-last ks t e = (let gone = none-absent ks t e in rw gone refl)

-- ---- pages that are changed

none-apart : (ks : List ℕ) (t i : ℕ) → position (nat_eq t) ks ≡ None → i < length ks → get_or ks i 0 ≢ t
none-apart ks t i e lt same =
    let long = none-long (nat_eq t) ks e in
    let fails = fails_before_first (nat_eq t) ks i 0 (omega (arith, long, lt)) in
    eqb-false t (get_or ks i 0) fails (sym same)

-- the entries of other references do not matter
pub still-paged : (ks : List ℕ) (old new : List (Vec ℕ Global)) (t : ℕ) → position (nat_eq t) ks ≡ None
    → ((u : ℕ) → u ≢ t → entry_at new u ≡ entry_at old u) → ArePaged ks old → ArePaged ks new
still-paged ks old new t e others h = record {
  few = h.few;
  entries = λ i lt. others (get_or ks i 0) (none-apart ks t i e lt) ∙ h.entries i lt;
}

-- a reference that has its entry is added
pub more-paged : (ks : List ℕ) (old new : List (Vec ℕ Global)) (t : ℕ) → position (nat_eq t) ks ≡ None
    → ((u : ℕ) → u ≢ t → entry_at new u ≡ entry_at old u) → entry_at new t ≡ length ks → length ks < 2 ^ 31
    → ArePaged ks old → ArePaged (ks ++ t ∷ []) new
more-paged ks old new t e others last room h = record { few = few; entries = entries }
  where
    size : length (ks ++ t ∷ []) ≡ length ks + 1
    size = length-append ks (t ∷ [])

    few : length (ks ++ t ∷ []) ≤ 2 ^ 31
    few = omega (arith, size, room)

    end : get_or (ks ++ t ∷ []) (length ks) 0 ≡ t
    end = (let z : length ks ≡ length ks + 0 = omega arith in rw z (get_or-append-add ks (t ∷ []) 0 0))

    entries : (i : ℕ) → i < length (ks ++ t ∷ []) → entry_at new (get_or (ks ++ t ∷ []) i 0) ≡ i
    entries i lt = elim (cases_eq i (length ks)) [
      | inl same ↦ subst (λ n. entry_at new (get_or (ks ++ t ∷ []) n 0) ≡ n) (sym same) (subst (λ n. entry_at new n ≡ length ks) (sym end) last)
      | inr apart ↦
          let less : i < length ks = omega (arith, lt, size, apart) in
          let read = get_or_append_left ks (t ∷ []) 0 i less in
          subst (λ n. entry_at new n ≡ i) (sym read) ((still-paged ks old new t e others h).entries i less)
    ]

-- ---- an entry that is set

-- the page that is read
pub page-read : (pages : List (Vec ℕ Global)) (p : ℕ) (page : Vec ℕ Global) → p < length pages → page ≡ get_or pages p page
    → page.items ≡ page_at pages p
page-read pages p page lt e =
    ap (λ (v : Vec ℕ Global). v.items) e ∙ sym (get_or-map (λ (v : Vec ℕ Global). v.items) pages p page [] lt)

page-set : (pages : List (Vec ℕ Global)) (p : ℕ) (page : Vec ℕ Global) → p < length pages → page_at (set pages p page) p ≡ page.items
page-set pages p page lt =
    ap (λ ps. get_or ps p []) (map-set (λ (v : Vec ℕ Global). v.items) pages p page)
    ∙ get_or-set_same (map (λ (v : Vec ℕ Global). v.items) pages) p page.items []
    (let z = length-map pages (λ (v : Vec ℕ Global). v.items) in omega (arith, z, lt))

page-kept : (pages : List (Vec ℕ Global)) (p q : ℕ) (page : Vec ℕ Global) → q ≢ p → page_at (set pages p page) q ≡ page_at pages q
page-kept pages p q page apart =
    ap (λ ps. get_or ps q []) (map-set (λ (v : Vec ℕ Global). v.items) pages p page)
    ∙ get_or-set_other (map (λ (v : Vec ℕ Global). v.items) pages) p q page.items [] apart

pub entry-set : (pages : List (Vec ℕ Global)) (t entry : ℕ) (page : Vec ℕ Global) → t / 1024 < length pages
    → entry_in page.items (t % 1024) ≡ entry → entry_at (set pages (t / 1024) page) t ≡ entry
entry-set pages t entry page lt e = ap (λ es. entry_in es (t % 1024)) (page-set pages (t / 1024) page lt) ∙ e

pub entries-kept : (pages : List (Vec ℕ Global)) (t : ℕ) (page : Vec ℕ Global) → t / 1024 < length pages
    → ((k : ℕ) → k ≢ t % 1024 → entry_in page.items k ≡ entry_in (page_at pages (t / 1024)) k)
    → (u : ℕ) → u ≢ t → entry_at (set pages (t / 1024) page) u ≡ entry_at pages u
entries-kept pages t page lt others u apart = elim (cases_eq (u / 1024) (t / 1024)) [
  | inl same ↦
      let place : u % 1024 ≢ t % 1024 = λ e. apart (let a = div-add-mod' u 1024 in let b = div-add-mod' t 1024 in omega (arith, a, b, e, same)) in
      ap (λ q. entry_in (page_at (set pages (t / 1024) page) q) (u % 1024)) same
      ∙ ap (λ es. entry_in es (u % 1024)) (page-set pages (t / 1024) page lt)
      ∙ others (u % 1024) place
      ∙ ap (λ q. entry_in (page_at pages q) (u % 1024)) (sym same)
  | inr other ↦ ap (λ es. entry_in es (u % 1024)) (page-kept pages (t / 1024) (u / 1024) page other)
]

-- ---- an entry of a page

-- a page without entries from a place on gets them
pub filled : (old new : List ℕ) (n k : ℕ) → length old ≤ n → length new ≡ n
    → ((k d : ℕ) → k < n → k < length old → get_or new k d ≡ get_or old k d)
    → ((k d : ℕ) → length old ≤ k → k < n → get_or new k d ≡ 0) → entry_in new k ≡ entry_in old k
filled old new n k le size same fresh = elim (cases_lt k (length old)) [
  | inl less ↦ same k 0 (omega (arith, less, le)) less
  | inr more ↦ elim (cases_lt k n) [
    | inl less ↦ fresh k 0 more less ∙ sym (get_or_past old k 0 more)
    | inr past ↦ get_or_past new k 0 (omega (arith, size, past)) ∙ sym (get_or_past old k 0 more)
  ]
]

-- ---- results

pub on_ok : {X E : Type 0} {P Q : Type 0} (r : Result X E) → (P → Q) → OnOk r P → OnOk r Q
on_ok (Ok x) f h = f h
on_ok (Err e) f h = tt
