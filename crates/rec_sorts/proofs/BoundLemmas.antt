-- Which variables a left-hand side binds, by the items and by the rules.
use Rattle.std.proofs.Common.{refl, sym, ap, ◌∙◌}
use Rattle.std.proofs.lemmas.Bool.{false≢true}
use Rattle.std.specs.Prelude.{ℕ, ◌≡◌, Bool, true, false, not, cond, ◌&&◌, ◌||◌, List, [], ◌∷◌, ◌++◌, Option, Some, None, map, filter, bytes_eq}
use Rattle.std.specs.List.{list_any}
use Rattle.rec_syntax.specs.Tokens.{Word}
use Rattle.rec_syntax.specs.Syntax.{Term, Terms, Apply, none, more, Spec, head, subterms, subterms_all}
use Rattle.rec_syntax.specs.Nodes.{Node, flat, flat_all, term_count}
use Rattle.rec_sorts.specs.Lookup.{mentions, is_variable}
use Rattle.rec_sorts.specs.SpecRules.{heads, everywhere, missing, variables_among, taken_variables}
use Rattle.rec_sorts.specs.Least.{least_of, least_place, place_where}
use Rattle.rec_sorts.specs.Scope.{meaning_of}
use Rattle.rec_sorts.specs.Letters.{placed_by}
use Rattle.rec_sorts.specs.Reading.{letters_of, is_the_variable, binds_variable, is_unbound, unbound_among}
use Rattle.rec_sorts.specs.Agreeing.{IsScope}
use Rattle.rec_sorts.specs.declared.letters.Meaning.{Meaning}
use Rattle.rec_sorts.specs.declared.letters.Meaning.TheVariants.{Symbol, Variable}
use Rattle.rec_sorts.specs.declared.scope.Scope.{Scope}
use Rattle.rec_sorts.proofs.TableLemmas.{same_function}
use Rattle.rec_sorts.proofs.SubtermLemmas.{least_place-heads, least_of-flat_map, least_of-same}
use Rattle.rec_sorts.proofs.KeptNameLemmas.{is_unbound-name}
use Rattle.rec_sorts.proofs.AgreementLemmas.{unbound-term, variable-name, same_variable}

or_comm : (a b : Bool) → a || b ≡ b || a
or_comm true true = refl
or_comm true false = refl
or_comm false true = refl
or_comm false false = refl

or_assoc : (a b c : Bool) → (a || b) || c ≡ a || (b || c)
or_assoc true b c = refl
or_assoc false b c = refl

or_false : (a : Bool) → a || false ≡ a
or_false true = refl
or_false false = refl

any-append : {X : Type 0} (q : X → Bool) (xs ys : List X) → list_any q (xs ++ ys) ≡ list_any q xs || list_any q ys
any-append q [] ys = refl
any-append q (x ∷ xs) ys = ap (λ b. q x || b) (any-append q xs ys) ∙ sym (or_assoc (q x) (list_any q xs) (list_any q ys))

any-map : {X Y : Type 0} (q : Y → Bool) (f : X → Y) (xs : List X) → list_any q (map f xs) ≡ list_any (λ x. q (f x)) xs
any-map q f [] = refl
any-map q f (x ∷ xs) = ap (λ b. q (f x) || b) (any-map q f xs)

mutual
  any-flat : (q : Word → Bool) (t : Term) → list_any (λ n. q n.word) (flat t) ≡ list_any (λ u. q (head u)) (subterms t)
  any-flat q (Apply w ts) =
      any-append (λ n. q n.word) (flat_all ts) (record { word = w; count = term_count ts } ∷ [])
      ∙ or_comm (list_any (λ n. q n.word) (flat_all ts)) (q w || false)
      ∙ ap (λ b. b || list_any (λ n. q n.word) (flat_all ts)) (or_false (q w))
      ∙ ap (λ b. q w || b) (any-flat_all q ts)

  any-flat_all : (q : Word → Bool) (ts : Terms) → list_any (λ n. q n.word) (flat_all ts) ≡ list_any (λ u. q (head u)) (subterms_all ts)
  any-flat_all q none = refl
  any-flat_all q (more t ts) =
      any-append (λ n. q n.word) (flat t) (flat_all ts)
      ∙ ap (λ b. b || list_any (λ n. q n.word) (flat_all ts)) (any-flat q t)
      ∙ ap (λ b. list_any (λ u. q (head u)) (subterms t) || b) (any-flat_all q ts)
      ∙ sym (any-append (λ u. q (head u)) (subterms t) (subterms_all ts))

any-heads : (us : List Term) (name : List ℕ) → list_any (λ u. bytes_eq (head u).bytes name) us ≡ mentions (heads us) name
any-heads [] name = refl
any-heads (u ∷ us) name = ap (λ b. bytes_eq (head u).bytes name || b) (any-heads us name)

-- two filters are one
filter-filter : {X : Type 0} (p q : X → Bool) (xs : List X) → filter p (filter q xs) ≡ filter (λ x. q x && p x) xs
filter-filter p q [] = refl
filter-filter p q (x ∷ xs) = by_test (q x) (filter-filter p q xs)
  where
    by_test : (b : Bool) → filter p (filter q xs) ≡ filter (λ z. q z && p z) xs
        → filter p (cond b (x ∷ filter q xs) (filter q xs)) ≡ cond (b && p x) (x ∷ filter (λ z. q z && p z) xs) (filter (λ z. q z && p z) xs)
    by_test true e = ap (λ zs. cond (p x) (x ∷ zs) zs) e
    by_test false e = e

module _ (y : Spec) (s : Scope) (h : IsScope y s) (kept : taken_variables y ≡ []) where
  binds-name : (left : Term) (name : List ℕ) (k : ℕ) → meaning_of s name ≡ Some (Variable k)
      → binds_variable (letters_of s left) k ≡ mentions (heads (subterms left)) name
  binds-name left name k e =
      any-map (λ p. is_the_variable k p.meaning) (placed_by s) (flat left)
      ∙ ap (λ q. list_any q (flat left)) (same_function (λ (n : Node). same_variable y s h name k e n.word.bytes))
      ∙ any-flat (λ w. bytes_eq w.bytes name) left
      ∙ any-heads (subterms left) name

  -- a name represents a variable that is not bound
  unbound-name : (left : Term) (name : List ℕ) → is_unbound (binds_variable (letters_of s left)) (meaning_of s name) ≡ is_variable y name && not
      (mentions (heads (subterms left)) name)
  unbound-name left name =
      is_unbound-name y s h kept (binds_variable (letters_of s left)) name
      ∙ by_test (is_variable y name) (variable-name y s h kept name)
    where
      by_meaning : (m : Option Meaning) → meaning_of s name ≡ m → is_unbound (λ _. false) m ≡ true
          → is_unbound (binds_variable (letters_of s left)) m ≡ not (mentions (heads (subterms left)) name)
      by_meaning None is e = absurd (false≢true e)
      by_meaning (Some (Symbol k)) is e = absurd (false≢true e)
      by_meaning (Some (Variable k)) is e = ap not (binds-name left name k is)

      by_test : (b : Bool) → is_unbound (λ _. false) (meaning_of s name) ≡ b
          → b && is_unbound (binds_variable (letters_of s left)) (meaning_of s name) ≡ b && not (mentions (heads (subterms left)) name)
      by_test true e = by_meaning (meaning_of s name) refl e
      by_test false e = refl

  -- the unbound variables of some terms
  pub unbound-terms : (left : Term) (ts : List Term)
      → least_of (λ t. unbound_among (binds_variable (letters_of s left)) (letters_of s t)) ts ≡ least_place
      (missing (heads (subterms left)) (variables_among y (heads (everywhere ts))))
  unbound-terms left ts =
      least_of-same ts (λ t. unbound-term y s h (binds_variable (letters_of s left)) t
      ∙ least_of-same (subterms t) (λ u. ap (λ b. place_where b (head u).at) (unbound-name left (head u).bytes)))
      ∙ sym (least_of-flat_map (λ u. place_where (is_variable y (head u).bytes && not (mentions (heads (subterms left)) (head u).bytes)) (head u).at)
      subterms ts)
      ∙ sym (least_place-heads (λ w. is_variable y w.bytes && not (mentions (heads (subterms left)) w.bytes)) (everywhere ts))
      ∙ ap least_place (sym (filter-filter (λ w. not (mentions (heads (subterms left)) w.bytes)) (λ w. is_variable y w.bytes) (heads (everywhere ts))))

  -- the variables of some terms
  pub open-terms : (ts : List Term) → least_of (λ t. unbound_among (λ _. false) (letters_of s t)) ts ≡ least_place (variables_among y (heads (everywhere ts)))
  open-terms ts =
      least_of-same ts (λ t. unbound-term y s h (λ _. false) t ∙ least_of-same (subterms t) (λ u.
      ap (λ b. place_where b (head u).at) (variable-name y s h kept (head u).bytes)))
      ∙ sym (least_of-flat_map (λ u. place_where (is_variable y (head u).bytes) (head u).at) subterms ts)
      ∙ sym (least_place-heads (λ w. is_variable y w.bytes) (everywhere ts))
