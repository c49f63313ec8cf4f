-- Steps of linking a specification's symbols with those of a store.
use Rattle.std.proofs.Common.{refl, sym, ap, subst, arith, ◌∙◌, length-append, inl, inr}
use Rattle.std.specs.Prelude.{ℕ, ◌≡◌, ◌≢◌, ◌<◌, ◌≤◌, ◌+◌, ◌⊎◌, Bool, true, false, List, [], ◌∷◌, ◌++◌, Option, Some, None, length, take, get_or, nat_eq}
use Rattle.std.proofs.lemmas.Bool.{cases_eq, eqb-true}
use Rattle.std.proofs.lemmas.List.{length-map, length-take-le, get_or-take, get_or_append_left, get_or_default, take_more}
use Rattle.std.proofs.Math.Seq.{get_or-append_seam}
use Rattle.rx_term.specs.Name.{Signature}
use Rattle.rx_term.specs.Store.{Store, signature_of}
use Rattle.rx_term.specs.Steps.{Adds}
use Rattle.rx_term.specs.declared.Symbol as bank
use Rattle.rx_term.proofs.StoreLemmas.{kept-Adds}
use Rattle.rec_syntax.specs.Syntax.{Spec}
use Rattle.rec_sorts.specs.Lookup.{names, symbols}
use Rattle.rec_sorts.specs.SpecRules.{fault, all_rules}
use Rattle.rec_sorts.specs.Numbering.{name_of}
use Rattle.rec_sorts.specs.declared.letters.Meaning.TheVariants.{Symbol}
use Rattle.rec_sorts.specs.Linked.{signature, AllDiffer, NumberOf, NumbersOf, HasMoreSymbols}
use Rattle.rec_sorts.proofs.KeptLemmas.{all_kept}
use Rattle.rec_sorts.proofs.DifferingLemmas.{differ}

-- the first of a specification's symbols in a store
pub record LinkedSoFar (y : Spec) (old now : Store) (ss : List bank.Symbol) (n : ℕ) : Type 0 where
  pub counted : length ss ≡ n
  pub within : n ≤ length (symbols y)
  pub linked : (k : ℕ) (d : bank.Symbol) → k < n → signature_of now (get_or ss k d) ≡ Some (signature y k)
  pub same : HasMoreSymbols old now

-- where a list gets one more symbol, the others stay, and it is the last
module _ (ss ss' : List bank.Symbol) (n : ℕ) (s : bank.Symbol) (counted : length ss ≡ n) (split : ss' ≡ ss ++ s ∷ []) where
  one_longer : length ss' ≡ n + 1
  one_longer = let l = ap length split ∙ length-append ss (s ∷ []) in omega (arith, counted, l)

  front : (k : ℕ) (d : bank.Symbol) → k < n → get_or ss' k d ≡ get_or ss k d
  front k d h = ap (λ xs. get_or xs k d) split ∙ get_or_append_left ss (s ∷ []) d k (omega (arith, counted, h))

  last : (k : ℕ) (d : bank.Symbol) → k ≡ n → get_or ss' k d ≡ s
  last k d e = ap (λ xs. get_or xs k d) split ∙ ap (λ j. get_or (ss ++ s ∷ []) j d) (omega (arith, counted, e)) ∙ get_or-append_seam ss s [] d

-- no two symbols have one name
pub symbols_differ : (y : Spec) → fault y ≡ None → (k j : ℕ) → k < length (symbols y) → j < length (symbols y)
    → name_of y (Symbol k) ≡ name_of y (Symbol j) → k ≡ j
symbols_differ y kept k j hk hj same = differ [] (names (symbols y)) (all_kept (all_rules y) kept).1.0 k j (rw length-map hk) (rw length-map hj) same

more-symbols : {old now new : Store} {g : Signature} {s : bank.Symbol} → HasMoreSymbols old now → Adds now new g s → HasMoreSymbols old new
more-symbols same adds = record {
  content = adds.content ∙ same.content;
  roots = adds.roots ∙ same.roots;
  cap = adds.cap ∙ same.cap;
  spare = adds.spare ∙ same.spare;
  symbols = λ t h e. kept-Adds adds t h (same.symbols t h e);
}

-- what was added, if it was not kept, changes no more than that
pub has-more : (y : Spec) (old now new : Store) (ss : List bank.Symbol) (n : ℕ) (g : Signature) (s : bank.Symbol) → LinkedSoFar y old now ss n
    → Adds now new g s → HasMoreSymbols old new
has-more y old now new ss n g s so adds = more-symbols so.same adds

pub linked-next : (y : Spec) (old now new : Store) (ss ss' : List bank.Symbol) (n : ℕ) (g : Signature) (s : bank.Symbol) → LinkedSoFar y old now ss n
    → n < length (symbols y) → Adds now new g s → g ≡ signature y n → ss' ≡ ss ++ s ∷ []
    → LinkedSoFar y old new ss' (n + 1)
linked-next y old now new ss ss' n g s so lt adds is split = record {
  counted = one_longer ss ss' n s so.counted split;
  within = omega (arith, lt);
  linked = λ k d h. by_place k d (cases_eq k n) h;
  same = more-symbols so.same adds;
}
  where
    by_place : (k : ℕ) (d : bank.Symbol) → (k ≡ n) ⊎ (k ≢ n) → k < n + 1 → signature_of new (get_or ss' k d) ≡ Some (signature y k)
    by_place k d (inl e) h = ap (signature_of new) (last ss ss' n s so.counted split k d e) ∙ adds.added ∙ ap Some is ∙ ap (λ j. Some (signature y j)) (sym e)
    by_place k d (inr ne) h = let below : k < n = omega (arith, h, ne) in
        ap (signature_of new) (front ss ss' n s so.counted split k d below) ∙ kept-Adds adds (get_or ss k d) (signature y k) (so.linked k d below)

-- no two of a specification's symbols in a store are one
pub linked-differ : (y : Spec) (old now : Store) (ss : List bank.Symbol) (n : ℕ) → fault y ≡ None → LinkedSoFar y old now ss n → AllDiffer ss
linked-differ y old now ss n kept so i j d hi hj e =
    let c = so.counted in
    let w = so.within in
    let hi' : i < n = omega (arith, c, hi) in
    let hj' : j < n = omega (arith, c, hj) in
    let one : signature_of now (get_or ss i d) ≡ Some (signature y i) = so.linked i d hi' in
    let two : signature_of now (get_or ss i d) ≡ Some (signature y j) = ap (signature_of now) e ∙ so.linked j d hj' in
    symbols_differ y kept i j (omega (arith, w, hi')) (omega (arith, w, hj')) (ap name_or (sym one ∙ two))
  where
    name_or : Option Signature → List ℕ
    name_or (Some s) = s.name
    name_or None = []

-- one more symbol, which is none of the others, has the next number
numbers-push : (ss ss' : List bank.Symbol) (numbers numbers' : ℕ → Option ℕ) (n : ℕ) (s : bank.Symbol) → length ss ≡ n → NumbersOf ss numbers
    → ((k : ℕ) → k < n → get_or ss k s ≡ s → ⊥) → ss' ≡ ss ++ s ∷ []
    → numbers' s.0 ≡ Some n → ((q : ℕ) → nat_eq s.0 q ≡ false → numbers' q ≡ numbers q) → NumbersOf ss' numbers'
numbers-push ss ss' numbers numbers' n s counted numbered fresh split here others t = by_symbol t (cases_eq s.0 t.0)
  where
    long : length ss' ≡ n + 1
    long = one_longer ss ss' n s counted split

    by_symbol : (t : bank.Symbol) → (s.0 ≡ t.0) ⊎ (s.0 ≢ t.0) → NumberOf ss' t (numbers' t.0)
    by_symbol t (inl e) =
        let same : s ≡ t = ap (λ (j : ℕ). (let r : bank.Symbol = record { 0 = j } in r)) e in
        subst (λ (u : bank.Symbol). NumberOf ss' u (numbers' u.0)) same (record {
          found = λ k h. (let q : n ≡ k = ap some_or (sym here ∙ h) in (omega (arith, q, long), last ss ss' n s counted split k s (sym q)));
          each = λ k h f. at_last k (cases_eq k n) h f;
        })
      where
        some_or : Option ℕ → ℕ
        some_or (Some k) = k
        some_or None = 0

        at_last : (k : ℕ) → (k ≡ n) ⊎ (k ≢ n) → k < length ss' → get_or ss' k s ≡ s → numbers' s.0 ≡ Some k
        at_last k (inl e) h f = here ∙ ap Some (sym e)
        at_last k (inr ne) h f = let below : k < n = omega (arith, h, ne, long) in absurd (fresh k below (sym (front ss ss' n s counted split k s below) ∙ f))
    by_symbol t (inr ne) =
        let o : numbers' t.0 ≡ numbers t.0 = others t.0 (no s.0 t.0 ne) in
        record {
          found = λ k h. (
              let f = (numbered t).found k (sym o ∙ h) in
              let below = f.0 in
              (omega (arith, below, counted, long), front ss ss' n s counted split k t (omega (arith, below, counted)) ∙ f.1)
              );
          each = λ k h f. at_front k (cases_eq k n) h f o;
        }
      where
        no : (i j : ℕ) → i ≢ j → nat_eq i j ≡ false
        no i j ne = by (nat_eq i j) refl
          where
            by : (b : Bool) → nat_eq i j ≡ b → b ≡ false
            by false e = refl
            by true e = absurd (ne (eqb-true i j e))

        at_front : (k : ℕ) → (k ≡ n) ⊎ (k ≢ n) → k < length ss' → get_or ss' k t ≡ t → numbers' t.0 ≡ numbers t.0 → numbers' t.0 ≡ Some k
        at_front k (inl e) h f o = absurd (ne (ap (λ (x : bank.Symbol). x.0) (sym (last ss ss' n s counted split k t e) ∙ f)))
        at_front k (inr d) h f o =
            let below : k < n = omega (arith, h, d, long) in
            o ∙ (numbered t).each k (omega (arith, below, counted)) (sym (front ss ss' n s counted split k t below) ∙ f)

-- the symbol at the next place gets this as its number
pub numbers-next : (ss : List bank.Symbol) (numbers numbers' : ℕ → Option ℕ) (i : ℕ) (s : bank.Symbol) → AllDiffer ss → i < length ss
    → s ≡ get_or ss i s → NumbersOf (take i ss) numbers
    → numbers' s.0 ≡ Some i → ((q : ℕ) → nat_eq s.0 q ≡ false → numbers' q ≡ numbers q) → NumbersOf (take (i + 1) ss) numbers'
numbers-next ss numbers numbers' i s differ lt is numbered here others =
    numbers-push (take i ss) (take (i + 1) ss) numbers numbers' i s (length-take-le i ss (omega (arith, lt))) numbered fresh
    (take_more ss i s lt ∙ ap (λ x. take i ss ++ x ∷ []) (sym is)) here others
  where
    fresh : (k : ℕ) → k < i → get_or (take i ss) k s ≡ s → ⊥
    fresh k h e =
        let equal : k ≡ i = differ k i s (omega (arith, h, lt)) lt (sym (get_or-take i ss k s h) ∙ e ∙ is) in
        omega (arith, h, equal)

-- symbols that have numbers differ
pub all_differ : (ss : List bank.Symbol) (numbers : ℕ → Option ℕ) → NumbersOf ss numbers → AllDiffer ss
all_differ ss numbers of i j d hi hj e =
    let s = get_or ss i d in
    let one = (of s).each i hi (get_or_default ss i s d hi) in
    let two = (of s).each j hj (get_or_default ss j s d hj ∙ sym e) in
    let both : ◌≡◌ {A = Option ℕ} (Some i) (Some j) = sym one ∙ two in
    cc both
