-- Rows dealt to shares.
use Rattle.std.proofs.Common.{refl, sym, ap, subst, arith, ◌∙◌, inl, inr}
use Rattle.std.proofs.lemmas.Bool.{cases_eq, eqb-true, eq-eqb}
use Rattle.std.proofs.lemmas.List.{append-nil, length-append, length-take, length-set, length-map, map-append, take_at, take_all, take-take, take_more}
use Rattle.std.proofs.lemmas.List.{drop_all, get_or_at, get_or_append_left, get_or-take, get_or-map, get_or-set_same, get_or-set_other, get_or_default}
use Rattle.std.specs.Prelude.{ℕ, zero, suc, ◌+◌, ◌<◌, ◌≡◌, ◌≢◌, ◌⊎◌, Bool, true, false, List, [], ◌∷◌}
use Rattle.std.specs.Prelude.{◌++◌, Option, Some, None, length, map, get_or, set, take, drop, nat_eq}
use Rattle.std.specs.Option.{option_map}
use Rattle.rec_sorts.specs.declared.letters.Meaning.{Meaning}
use Rattle.rec_sorts.specs.declared.letters.Meaning.TheVariants.{Symbol, Variable}
use Rattle.rec_match.specs.Bound.{goes_on}
use Rattle.rec_match.specs.Inner.Marking.{IsRank}
use Rattle.rec_match.specs.Parts.{part_at, arguments_at, numbered_from, opened_code, opened_codes, Coded, coded_of, changed_codes}
use Rattle.rec_match.specs.Inner.Shares.{symbols_of, IsShare, AreShares, AddsRow, DealsRow}
use Rattle.rec_match.specs.declared.parts.Code.{Code}
use Rattle.rec_match.specs.declared.parts.CodeRow.{CodeRow}
use Rattle.rec_match.specs.declared.parts.Parts.{Parts}
use Rattle.rec_match.specs.declared.shares.Share.{Share}
use Rattle.rec_match.proofs.RowLemmas.{goes_none}

-- rows one after the other, each changed or left out
pub changed_append : (h : List Code → Option (List Code)) (xs ys : List Coded) → changed_codes h (xs ++ ys) ≡ changed_codes h xs ++ changed_codes h ys
changed_append h [] ys = refl
changed_append h (x ∷ xs) ys = by (h x.codes) (changed_append h xs ys)
  where
    by : (o : Option (List Code)) → changed_codes h (xs ++ ys) ≡ changed_codes h xs ++ changed_codes h ys
        → ◌≡◌ {A = List Coded} (elim o [
          | Some cs ↦ (record { number = x.number; codes = cs }) ∷ changed_codes h (xs ++ ys)
          | None ↦ changed_codes h
              (xs ++ ys)
        ])
        ((elim o [ Some cs ↦ (record { number = x.number; codes = cs }) ∷ changed_codes h xs | None ↦ changed_codes h xs ]) ++ changed_codes h ys)
    by (Some cs) e = ap (λ zs. (let c : Coded = record { number = x.number; codes = cs } in c) ∷ zs) e
    by None e = e

-- what is left of one row
one_left : Coded → Option (List Code) → List Coded
one_left row o = elim o [ Some cs ↦ (record { number = row.number; codes = cs }) ∷ [] | None ↦ [] ]

-- nothing is left of a row
pub adds_nothing : (h : List Code → Option (List Code)) (row : Coded) (rows : List CodeRow) → h row.codes ≡ None
    → map coded_of rows ≡ map coded_of rows ++ changed_codes h (row ∷ [])
unfolding one_left
adds_nothing h row rows refused = sym (append-nil (map coded_of rows)) ∙ ap (λ o. map coded_of rows ++ one_left row o) (sym refused)

module _ (ps : Parts) (r symbol base k : ℕ) (other : k ≢ symbol) where
  refused_code : (c : Code) → c.register ≡ r → (part_at ps c.part).meaning ≡ Symbol k → opened_code ps r symbol base c ≡ None
  refused_code c there asks = ap at (eq-eqb c.register r there) ∙ ap of asks ∙ by (nat_eq k symbol) refl
    where
      of : Meaning → Option (List Code)
      of m = elim m [
        | Variable v ↦ Some (c ∷ [])
        | Symbol j ↦ elim (nat_eq j symbol)
            [ true ↦ Some (numbered_from base (arguments_at ps c.part)) | false ↦ None ]
      ]

      at : Bool → Option (List Code)
      at b = elim b [ false ↦ Some (c ∷ []) | true ↦ of (part_at ps c.part).meaning ]

      by : (b : Bool) → nat_eq k symbol ≡ b → ◌≡◌ {A = Option (List Code)}
          (elim b [ true ↦ Some (numbered_from base (arguments_at ps c.part)) | false ↦ None ]) None
      by true e = absurd (other (eqb-true k symbol e))
      by false e = refl

  -- codes that ask for another symbol are refused
  pub refused : (cs : List Code) (i : ℕ) (d : Code) → i < length cs → (get_or cs i d).register ≡ r
      → (part_at ps (get_or cs i d).part).meaning ≡ Symbol k → opened_codes ps r symbol base cs ≡ None
  refused [] i d lt there asks = absurd (let bad : ⊥ = omega (arith, lt) in bad)
  refused (c ∷ cs) zero d lt there asks = ap (λ o. goes_on o (λ ds. option_map (λ es. ds ++ es) (opened_codes ps r symbol base cs))) (refused_code c there asks)
  refused (c ∷ cs) (suc i) d lt there asks =
      ap (λ o. goes_on (opened_code ps r symbol base c) (λ ds. option_map (λ es. ds ++ es) o)) (refused cs i d (omega (arith, lt)) there asks)
      ∙ goes_none (opened_code ps r symbol base c)

-- a symbol among those of shares
pub symbol_at : (shares : List Share) (i : ℕ) (d : Share) → i < length shares → get_or (symbols_of shares) i 0 ≡ (get_or shares i d).symbol
symbol_at shares i d lt = get_or-map (λ (s : Share). s.symbol) shares i d 0 lt

pub symbols_long : (shares : List Share) → length (symbols_of shares) ≡ length shares
symbols_long shares = length-map shares (λ (s : Share). s.symbol)

module _ (ps : Parts) (r base : ℕ) where
  -- no row so far
  pub shares_push : (ks : List ℕ) (shares : List Share) (k : ℕ) (s : Share) → AreShares ps r base ks [] shares → s.symbol ≡ k → s.rows.items ≡ []
      → AreShares ps r base (ks ++ k ∷ []) [] (shares ++ s ∷ [])
  shares_push ks shares k s a e none = record {
    symbols = map-append (λ (s : Share). s.symbol) shares (s ∷ []) ∙ ap (λ xs. xs ++ s.symbol ∷ []) a.symbols ∙ ap (λ j. ks ++ j ∷ []) e;
    each = λ i d lt. by i d lt (cases_eq i (length shares));
  }
    where
      by : (i : ℕ) (d : Share) → i < length (shares ++ s ∷ []) → (i ≡ length shares) ⊎ (i ≢ length shares)
          → IsShare ps r base [] (get_or (shares ++ s ∷ []) i d)
      by i d lt (inl is) = subst (IsShare ps r base []) (sym (get_or_at shares s [] d i (sym is))) (ap (map coded_of) none)
      by i d lt (inr ne) =
          let l = length-append shares (s ∷ []) in
          let below : i < length shares = omega (arith, lt, l, ne) in
          subst (IsShare ps r base []) (sym (get_or_append_left shares (s ∷ []) d i below)) (a.each i d below)

  -- a row of which nothing is left
  adds_none : (row : Coded) (s : Share) → opened_codes ps r s.symbol base row.codes ≡ None → AddsRow ps r base row s s
  adds_none row s refused = record { symbol = refl; rows = adds_nothing (opened_codes ps r s.symbol base) row s.rows.items refused }

  -- a row that asks for a symbol that has no share
  pub deals_none : (row : Coded) (ks : List ℕ) (shares : List Share) (k : ℕ) → symbols_of shares ≡ ks → IsRank ks k None
      → ((j : ℕ) → k ≢ j → opened_codes ps r j base row.codes ≡ None) → DealsRow ps r base row shares shares
  deals_none row ks shares k e apart refuses = record {
    counted = refl;
    each = λ i d lt. adds_none row (get_or shares i d) (refuses (get_or shares i d).symbol (λ is.
        apart i (subst (λ xs. i < length xs) e (subst (λ n. i < n) (sym (symbols_long shares)) lt))
        (sym (ap (λ xs. get_or xs i 0) e) ∙ symbol_at shares i d lt ∙ sym is)));
  }

  -- a row that asks for a symbol that has a share
  pub deals_one : (row : Coded) (ks : List ℕ) (old new : List Share) (k rank : ℕ) (z s : Share) → symbols_of old ≡ ks → IsRank ks k (Some rank)
      → ((j : ℕ) → k ≢ j → opened_codes ps r j base row.codes ≡ None)
      → new ≡ set old rank s → AddsRow ps r base row (get_or old rank z) s → DealsRow ps r base row old new
  deals_one row ks old new k rank z s e one refuses is adds = record {
    counted = ap length is ∙ length-set old rank s;
    each = λ i d lt. by i d lt (cases_eq i rank);
  }
    where
      within : (i : ℕ) → i < length old → i < length ks
      within i lt = subst (λ xs. i < length xs) e (subst (λ n. i < n) (sym (symbols_long old)) lt)

      by : (i : ℕ) (d : Share) → i < length old → (i ≡ rank) ⊎ (i ≢ rank) → AddsRow ps r base row (get_or old i d) (get_or new i d)
      by i d lt (inl here) =
          let there : rank < length old = omega (arith, here, lt) in
          subst (λ j. AddsRow ps r base row (get_or old j d) (get_or new j d)) (sym here)
          (subst (λ x. AddsRow ps r base row (get_or old rank d) x) (sym (ap (λ xs. get_or xs rank d) is ∙ get_or-set_same old rank s d there))
          (subst (λ x. AddsRow ps r base row x s) (get_or_default old rank z d there) adds))
      by i d lt (inr ne) =
          subst (λ x. AddsRow ps r base row (get_or old i d) x) (sym (ap (λ xs. get_or xs i d) is ∙ get_or-set_other old rank i s d ne))
          (adds_none row (get_or old i d) (refuses (get_or old i d).symbol (λ same.
          ne (one.1 i (within i lt) (sym (ap (λ xs. get_or xs i 0) e) ∙ symbol_at old i d lt ∙ sym same)))))

  -- the same symbols
  same_symbols : (old new : List Share) → length new ≡ length old
      → ((i : ℕ) (d : Share) → i < length old → (get_or new i d).symbol ≡ (get_or old i d).symbol) → symbols_of new ≡ symbols_of old
  same_symbols [] [] l h = refl
  same_symbols [] (b ∷ new) l h = absurd (let bad : ⊥ = omega (arith, l) in bad)
  same_symbols (a ∷ old) [] l h = absurd (let bad : ⊥ = omega (arith, l) in bad)
  same_symbols (a ∷ old) (b ∷ new) l h =
      ap (λ k. k ∷ symbols_of new) (h 0 a (omega arith)) ∙ ap (λ ks. a.symbol ∷ ks)
      (same_symbols old new (omega (arith, l)) (λ i d lt. h (suc i) d (omega (arith, lt))))

  -- one row more
  pub shares_more : (ks : List ℕ) (coded more : List Coded) (row : Coded) (old new : List Share) → AreShares ps r base ks coded old
      → DealsRow ps r base row old new → more ≡ coded ++ row ∷ [] → AreShares ps r base ks more new
  shares_more ks coded more row old new a deals e = record {
    symbols = same_symbols old new deals.counted (λ i d lt. (deals.each i d lt).symbol) ∙ a.symbols;
    each = λ i d lt. (let l = deals.counted in by (get_or old i d) (get_or new i d) (a.each i d (omega (arith, lt, l)))
        (deals.each i d (omega (arith, lt, l))));
  }
    where
      by : (s t : Share) → IsShare ps r base coded s → AddsRow ps r base row s t → IsShare ps r base more t
      by s t had adds =
          adds.rows ∙ ap (λ xs. xs ++ changed_codes (opened_codes ps r s.symbol base) (row ∷ [])) had
          ∙ sym (changed_append (opened_codes ps r s.symbol base) coded (row ∷ []))
          ∙ ap (changed_codes (opened_codes ps r s.symbol base)) (sym e)
          ∙ ap (λ k. changed_codes (opened_codes ps r k base) more) (sym adds.symbol)

-- the first rows with the next one
pub coded_more : (rows : List CodeRow) (i : ℕ) (row : CodeRow) → i < length rows → row ≡ get_or rows i row
    → map coded_of (take (i + 1) rows) ≡ map coded_of (take i rows) ++ coded_of row ∷ []
coded_more rows i row lt is = ap (map coded_of) (take_more rows i row lt ∙ ap (λ x. take i rows ++ x ∷ []) (sym is))
    ∙ map-append coded_of (take i rows) (row ∷ [])

-- the last of the first elements is taken
pub record Popped {X : Type 0} (xs rest : List X) (x : X) : Type 0 where
  pub front : take (length rest) xs ≡ rest
  pub last : (d : X) → get_or xs (length rest) d ≡ x
  pub there : length rest < length xs

pub popped_front : {X : Type 0} (xs old rest : List X) (x : X) → take (length old) xs ≡ old → old ≡ rest ++ x ∷ [] → Popped xs rest x
popped_front xs old rest x front e = record {
  front = sym (take-take (length rest) (length old) xs (omega (arith, one))) ∙ ap (take (length rest)) (front ∙ e) ∙ take_at rest (x ∷ []) (length rest) refl;
  last = λ d. sym (get_or-take (length old) xs (length rest) d (omega (arith, one))) ∙ ap (λ ys. get_or ys (length rest) d) (front ∙ e)
      ∙ get_or_at rest x [] d (length rest) refl;
  there = (let l = length-take (length old) xs in let m = ap length front in omega (arith, l, m, one));
}
  where
    one : length old ≡ length rest + 1
    one = ap length e ∙ length-append rest (x ∷ [])

-- a list that is written back over one that is as long
pub written_back : {X : Type 0} (xs old : List X) (n : ℕ) → length xs ≡ length old → n ≡ length old → take n (xs ++ drop (length xs) old) ≡ xs
written_back xs old n same long = ap (λ ys. take n (xs ++ ys)) (drop_all (length xs) old (omega (arith, same))) ∙ ap (take n) (append-nil xs)
    ∙ take_all n xs (omega (arith, same, long))
