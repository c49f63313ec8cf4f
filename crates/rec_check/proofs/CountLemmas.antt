-- Lists with the same things, each as often: the nodes of a term are those of its subterms.
use Rattle.std.proofs.Common.{refl, sym, ap, ◌∙◌, arith, cond, zero-add}
use Rattle.std.proofs.lemmas.List.Sums.{sum_by-append, sum_by-cons}
use Rattle.std.proofs.lemmas.List.Sorted.{sum_by-IsPermutation}
use Rattle.std.specs.Prelude.{ℕ, ◌≡◌, ◌+◌, Bool, true, false, List, [], ◌∷◌, ◌++◌, count_by, map, flat_map, filter, IsPermutation}
use Rattle.rec_syntax.specs.Syntax.{Term, Terms, Apply, none, more, head, arguments, subterms, subterms_all}
use Rattle.rec_syntax.specs.Nodes.{Node, flat, flat_all, term_count}
use Rattle.rec_sorts.specs.Lookup.{count}
use Rattle.rec_sorts.specs.SpecRules.{everywhere}
use Rattle.rec_sorts.proofs.StackLemmas.{map-append}
use Rattle.rec_sorts.proofs.SubtermLemmas.{term_count-count}
use Rattle.rec_check.specs.Findings.{HasSame}
use Rattle.rec_check.specs.Walks.{flat_terms}

module _ {X : Type 0} where
  pub count-cons : (p : X → Bool) (x : X) (xs : List X) → count_by p (x ∷ xs) ≡ cond (p x) 1 0 + count_by p xs
  count-cons p x xs = sum_by-cons (λ y. cond (p y) 1 0) x xs

  pub count-append : (p : X → Bool) (xs ys : List X) → count_by p (xs ++ ys) ≡ count_by p xs + count_by p ys
  count-append p xs ys = sum_by-append (λ x. cond (p x) 1 0) xs ys

  pub same-permutation : (xs ys : List X) → IsPermutation xs ys → HasSame xs ys
  same-permutation xs ys h p = sym (sum_by-IsPermutation (λ x. cond (p x) 1 0) xs ys h)

  pub same-append : (xs ys us vs : List X) → HasSame xs us → HasSame ys vs → HasSame (xs ++ ys) (us ++ vs)
  same-append xs ys us vs h k p = omega (arith, count-append p xs ys, count-append p us vs, h p, k p)

  pub same-swap : (xs ys : List X) → HasSame (xs ++ ys) (ys ++ xs)
  same-swap xs ys p = omega (arith, count-append p xs ys, count-append p ys xs)

  pub same-trans : (xs ys zs : List X) → HasSame xs ys → HasSame ys zs → HasSame xs zs
  same-trans xs ys zs h k p = h p ∙ k p

  pub same-of : (xs ys : List X) → xs ≡ ys → HasSame xs ys
  same-of xs ys e p = ap (count_by p) e

  -- what passes both tests
  count-filter : (p q : X → Bool) (xs : List X) → count_by p (filter q xs) ≡ count_by (λ x. cond (q x) (p x) false) xs
  count-filter p q [] = refl
  count-filter p q (x ∷ xs) = by_test (q x) (count-filter p q xs) ∙ sym (count-cons (λ y. cond (q y) (p y) false) x xs)
    where
      by_test : (b : Bool) → count_by p (filter q xs) ≡ count_by (λ x. cond (q x) (p x) false) xs
          → count_by p (cond b (x ∷ filter q xs) (filter q xs)) ≡ cond (cond b (p x) false) 1 0 + count_by (λ x. cond (q x) (p x) false) xs
      by_test true h = count-cons p x (filter q xs) ∙ ap (λ (n : ℕ). cond (p x) 1 0 + n) h
      by_test false h = h ∙ sym (zero-add (count_by (λ x. cond (q x) (p x) false) xs))

  pub same-filter : (q : X → Bool) (xs ys : List X) → HasSame xs ys → HasSame (filter q xs) (filter q ys)
  same-filter q xs ys h p = count-filter p q xs ∙ h (λ x. cond (q x) (p x) false) ∙ sym (count-filter p q ys)

module _ {X Y : Type 0} where
  pub count-map : (p : Y → Bool) (f : X → Y) (xs : List X) → count_by p (map f xs) ≡ count_by (λ x. p (f x)) xs
  count-map p f [] = refl
  count-map p f (x ∷ xs) = count-cons p (f x) (map f xs) ∙ ap (λ (n : ℕ). cond (p (f x)) 1 0 + n) (count-map p f xs) ∙ sym (count-cons (λ y. p (f y)) x xs)

  pub same-map : (f : X → Y) (xs ys : List X) → HasSame xs ys → HasSame (map f xs) (map f ys)
  same-map f xs ys h p = count-map p f xs ∙ h (λ x. p (f x)) ∙ sym (count-map p f ys)

  pub same-flat_map : (f g : X → List Y) (xs : List X) → ((x : X) → HasSame (f x) (g x)) → HasSame (flat_map f xs) (flat_map g xs)
  same-flat_map f g [] h p = refl
  same-flat_map f g (x ∷ xs) h p = same-append (f x) (flat_map f xs) (g x) (flat_map g xs) (h x) (same-flat_map f g xs h) p

-- a term's word and the number of its arguments
abbrev pub node_at : Term → Node
node_at t = record { word = head t; count = count (arguments t) }

mutual
  -- the nodes of a term are those of its subterms
  pub same-flat : (t : Term) → HasSame (map node_at (subterms t)) (flat t)
  same-flat (Apply w ts) p =
      let own : Node = record { word = w; count = term_count ts } in
      let one : ℕ → ℕ = λ n. cond (p (record { word = w; count = n })) 1 0 in
      let first : count_by p (map node_at (subterms (Apply w ts))) ≡ one (count ts) + count_by p (map node_at (subterms_all ts)) =
      count-cons p (record { word = w; count = count ts }) (map node_at (subterms_all ts)) in
      let last : count_by p (own ∷ []) ≡ one (term_count ts) + count_by p [] = count-cons p own [] in
      let none_left : count_by p [] ≡ 0 = refl in
      let all : count_by p (flat_all ts ++ own ∷ []) ≡ count_by p (flat_all ts) + count_by p (own ∷ []) = count-append p (flat_all ts) (own ∷ []) in
      let inner : count_by p (map node_at (subterms_all ts)) ≡ count_by p (flat_all ts) = same-flat_all ts p in
      let counts : one (term_count ts) ≡ one (count ts) = ap one (term_count-count ts) in
      omega (arith, first, last, none_left, all, inner, counts)

  pub same-flat_all : (ts : Terms) → HasSame (map node_at (subterms_all ts)) (flat_all ts)
  same-flat_all none p = refl
  same-flat_all (more t ts) p =
      ap (count_by p) (map-append node_at (subterms t) (subterms_all ts))
      ∙ same-append (map node_at (subterms t)) (map node_at (subterms_all ts)) (flat t) (flat_all ts) (same-flat t) (same-flat_all ts) p

-- the same of some terms
pub same-flat_terms : (ts : List Term) → HasSame (map node_at (everywhere ts)) (flat_terms ts)
same-flat_terms [] p = refl
same-flat_terms (t ∷ ts) p =
    ap (count_by p) (map-append node_at (subterms t) (everywhere ts))
    ∙ same-append (map node_at (subterms t)) (map node_at (everywhere ts)) (flat t) (flat_terms ts) (same-flat t) (same-flat_terms ts) p
