-- The lines of a section, as more lines come.
use Rattle.std.proofs.Common.{inl, inr, refl, sym, ap, ap₂, subst, ◌∙◌, arith, append-nil, take_all}
use Rattle.std.proofs.lemmas.Bool.{cases_lt}
use Rattle.std.proofs.lemmas.List.{drop-append-le, drop-drop, drop_all, length-append, length-drop, length-take, take-append-le}
use Rattle.std.proofs.Math.Seq.{drop-nil, take-append-add, take-nil}
use Rattle.std.specs.Prelude.{ℕ, ◌≡◌, ◌-◌, ◌+◌, ◌<◌, ◌≤◌, ◌⊎◌, true, false, List, [], ◌∷◌, ◌++◌}
use Rattle.std.specs.Prelude.{Option, Some, None, drop, length, take}
use Rattle.rec_trace_run.specs.Picks.{Picks, front_lines, left_out_count, rest_lines}
use Rattle.rec_trace_run.specs.Inner.Telling.{AddsIf, HasBounds, front_most, lines_between, section_lines}
use Rattle.rec_trace_run.specs.declared.section.Section.{Section}
use Rattle.rec_trace_run.proofs.PickLemmas.{bounded}

-- the lines below a bound
abbrev below : Option ℕ → List (List ℕ) → List (List ℕ)
below upto ls = elim upto [ Some n ↦ take n ls | None ↦ ls ]

below-few : (upto : Option ℕ) (ls : List (List ℕ)) → length (below upto ls) ≤ length ls
below-few None ls = omega arith
below-few (Some n) ls = let e = length-take n ls in omega (arith, e)

-- ---- lines of a section stay there, as more come

taken : (n : ℕ) (before ls : List (List ℕ)) → (n < length before) ⊎ (length before ≤ n)
    → (ys : List (List ℕ)) × (take n (before ++ ls) ≡ take n before ++ ys)
taken n before ls (inl low) = ([], take-append-le n before ls (omega (arith, low)) ∙ sym (append-nil (take n before)))
taken n before ls (inr high) =
    let k : ℕ = n - length before in
    let whole : n ≡ length before + k = omega (arith, high) in (
      take k ls,
      ap (λ m. take m (before ++ ls)) whole ∙ take-append-add before ls k ∙ ap (λ t. t ++ take k ls) (sym (take_all n before high)),
    )

below-more : (upto : Option ℕ) (before ls : List (List ℕ)) → (ys : List (List ℕ)) × (below upto (before ++ ls) ≡ below upto before ++ ys)
below-more None before ls = (ls, refl)
below-more (Some n) before ls = taken n before ls (cases_lt n (length before))

dropped : (n : ℕ) (xs ys : List (List ℕ)) → (n < length xs) ⊎ (length xs ≤ n) → (zs : List (List ℕ)) × (drop n (xs ++ ys) ≡ drop n xs ++ zs)
dropped n xs ys (inl low) = (ys, drop-append-le n xs ys (omega (arith, low)))
dropped n xs ys (inr high) = (drop n (xs ++ ys), ap (λ t. t ++ drop n (xs ++ ys)) (sym (drop_all n xs high)))

pub section-more : (s : Section) (before ls : List (List ℕ))
    → (zs : List (List ℕ)) × (section_lines s (before ++ ls) ≡ section_lines s before ++ zs)
section-more s before ls =
    let more = below-more s.upto before ls in
    let rest = dropped s.from (below s.upto before) more.0 (cases_lt s.from (length (below s.upto before))) in
    (rest.0, ap (drop s.from) more.1 ∙ rest.1)

-- no lines
pub section-none : (s : Section) → section_lines s [] ≡ []
section-none s = ap (drop s.from) (by s.upto) ∙ drop-nil s.from
  where
    by : (upto : Option ℕ) → below upto [] ≡ []
    by None = refl
    by (Some n) = take-nil n

-- sections with the same bounds have the same lines
pub same-lines : (s s' : Section) (ls : List (List ℕ)) → HasBounds s s' → section_lines s' ls ≡ section_lines s ls
same-lines s s' ls h = ap₂ (λ (a : ℕ) (b : Option ℕ). lines_between a b ls) h.from h.upto

pub same-bounds : (s : Section) → HasBounds s s
same-bounds s = record { from = refl; upto = refl }

pub both-bounds : (a b c : Section) → HasBounds a b → HasBounds b c → HasBounds a c
both-bounds a b c h k = record { from = k.from ∙ h.from; upto = k.upto ∙ h.upto }

-- ---- one more line

one-more : (ls : List (List ℕ)) (l : List ℕ) → length (ls ++ l ∷ []) ≡ length ls + 1
one-more ls l = length-append ls (l ∷ [])

-- it is before the section
pub adds-before : (s : Section) → s.seen < s.from → AddsIf s false
adds-before s low = λ ls l is.
    let few = below-few s.upto ls in
    let more = below-few s.upto (ls ++ l ∷ []) in
    let long = one-more ls l in
    drop_all s.from (below s.upto (ls ++ l ∷ [])) (omega (arith, low, is, more, long))
    ∙ sym (ap (λ t. t ++ []) (drop_all s.from (below s.upto ls) (omega (arith, low, is, few))))

-- no line is after the section
pub adds-open : (s : Section) → s.from ≤ s.seen → s.upto ≡ None → AddsIf s true
adds-open s low all = λ ls l is.
    subst (λ upto. lines_between s.from upto (ls ++ l ∷ []) ≡ lines_between s.from upto ls ++ l ∷ []) (sym all)
    (drop-append-le s.from ls (l ∷ []) (omega (arith, low, is)))

-- it is below the end of the section, or not
pub adds-below : (s : Section) (n : ℕ) → s.from ≤ s.seen → s.upto ≡ Some n → s.seen < n → AddsIf s true
adds-below s n low bound less = λ ls l is.
    let long = one-more ls l in
    subst (λ upto. lines_between s.from upto (ls ++ l ∷ []) ≡ lines_between s.from upto ls ++ l ∷ []) (sym bound)
    (ap (drop s.from) (take_all n (ls ++ l ∷ []) (omega (arith, less, is, long)))
    ∙ drop-append-le s.from ls (l ∷ []) (omega (arith, low, is))
    ∙ ap (λ t. drop s.from t ++ l ∷ []) (sym (take_all n ls (omega (arith, less, is)))))

pub adds-after : (s : Section) (n : ℕ) → s.upto ≡ Some n → n ≤ s.seen → AddsIf s false
adds-after s n bound high = λ ls l is.
    subst (λ upto. lines_between s.from upto (ls ++ l ∷ []) ≡ lines_between s.from upto ls ++ []) (sym bound)
    (ap (drop s.from) (take-append-le n ls (l ∷ []) (omega (arith, high, is))) ∙ sym (append-nil (drop s.from (take n ls))))

-- ---- the lines at the beginning and at the end

pub front-section : (p : Picks) (upto : Option ℕ) (ls : List (List ℕ)) → upto ≡ front_most p → lines_between 0 upto ls ≡ front_lines p ls
front-section p upto ls e = ap (λ o. lines_between 0 o ls) e ∙ by p.first p.last
  where
    by : (first last : Option ℕ) → lines_between 0 (front_most (bounded p first last)) ls ≡ front_lines (bounded p first last) ls
    by (Some n) last = refl
    by None (Some n) = refl
    by None None = sym (take_all (length ls) ls (omega arith))

-- so many selected rewrites are after those at the beginning
abbrev after : Option ℕ → ℕ → ℕ
after upto seen = elim upto [ Some n ↦ seen - n | None ↦ 0 ]

pub rest-long : (p : Picks) (ls : List (List ℕ)) → length (rest_lines p ls) ≡ after (front_most p) (length ls)
rest-long p ls = by p.first p.last
  where
    by : (first last : Option ℕ) → length (rest_lines (bounded p first last) ls) ≡ after (front_most (bounded p first last)) (length ls)
    by (Some n) last = length-drop n ls
    by None (Some n) = length-drop 0 ls
    by None None = length-drop (length ls) ls ∙ omega arith

-- the lines at the end are those from a number on
module _ (ls : List (List ℕ)) (from f m : ℕ) (few : m ≤ length (drop f ls)) (is : from ≡ length ls - (length (drop f ls) - m)) where
  behind : (length ls < f) ⊎ (f ≤ length ls) → drop from ls ≡ drop m (drop f ls)
  behind (inl low) =
      let none = length-drop f ls in
      drop_all from ls (omega (arith, is, none, low))
      ∙ sym (ap (drop m) (drop_all f ls (omega (arith, low))) ∙ drop-nil m)
  behind (inr high) =
      let long = length-drop f ls in
      let both : from ≡ f + m = omega (arith, is, few, long, high) in
      ap (λ k. drop k ls) both ∙ sym (drop-drop m f ls)

pub last-section : (p : Picks) (ls : List (List ℕ)) (from : ℕ)
    → from ≡ length ls - (length (rest_lines p ls) - left_out_count p ls) → drop from ls ≡ drop (left_out_count p ls) (rest_lines p ls)
last-section p ls from e = by p.first p.last e
  where
    by : (first last : Option ℕ) → let q = bounded p first last in
        from ≡ length ls - (length (rest_lines q ls) - left_out_count q ls) → drop from ls ≡ drop (left_out_count q ls) (rest_lines q ls)
    by (Some n) last e = behind ls from n (left_out_count (bounded p (Some n) last) ls) (omega arith) e (cases_lt (length ls) n)
    by None (Some n) e = behind ls from 0 (left_out_count (bounded p None (Some n)) ls) (omega arith) e (cases_lt (length ls) 0)
    by None None e = behind ls from (length ls) (left_out_count (bounded p None None) ls) (omega arith) e (cases_lt (length ls) (length ls))
