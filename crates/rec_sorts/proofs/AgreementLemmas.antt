-- What the items of a term show is what the rules ask of its subterms.
use Rattle.std.proofs.Common.{refl, sym, ap, ◌∙◌, arith}
use Rattle.std.proofs.lemmas.Bool.{false≢true, eq-eqb, eqb-true}
use Rattle.std.proofs.lemmas.List.{length-map, length-append}
use Rattle.std.proofs.lemmas.Option.{slice_get-get_or}
use Rattle.std.proofs.lemmas.Slice.Eq.{bytes_eq-Decides}
use Rattle.std.proofs.Math.Seq.{get_or-append_seam}
use Rattle.std.specs.Prelude.{ℕ, ◌≡◌, ◌-◌, Bool, true, false, not, List, [], ◌∷◌, ◌++◌, Option, Some}
use Rattle.std.specs.Prelude.{None, length, map, slice_get, nat_eq, bytes_eq, is_some, is_none}
use Rattle.std.specs.Option.{option_eq, option_map, option_and_then}
use Rattle.rec_syntax.specs.Tokens.{Word}
use Rattle.rec_syntax.specs.Syntax.{Term, Terms, Apply, none, more, Declaration, Spec, head, arguments, subterms}
use Rattle.rec_syntax.specs.Nodes.{flat, flat_all, term_count}
use Rattle.rec_sorts.specs.Lookup.{mentions, symbols, names, variable_words, symbol, is_variable, sort_of, same_sort, count}
use Rattle.rec_sorts.specs.SpecRules.{heads, is_filled, ill_placed, ill_sorted_in, unlike, repeated_symbols, taken_variables, unknown_sorts}
use Rattle.rec_sorts.specs.Least.{earlier, least_of, least_place, place_where}
use Rattle.rec_sorts.specs.Names.{first_at}
use Rattle.rec_sorts.specs.Declaring.{sort_numbers}
use Rattle.rec_sorts.specs.Scope.{meaning_of, sort_at, arguments_at, is_operator}
use Rattle.rec_sorts.specs.Letters.{placed_by, unknown_among, ill_filled_among, misplaced, ill_sorted_among}
use Rattle.rec_sorts.specs.Reading.{letters_of, last_letter, ill_headed_at, unlike_at, is_the_variable, is_unbound, unbound_among}
use Rattle.rec_sorts.specs.Agreeing.{IsScope}
use Rattle.rec_sorts.specs.declared.letters.Meaning.{Meaning}
use Rattle.rec_sorts.specs.declared.letters.Meaning.TheVariants.{Symbol, Variable}
use Rattle.rec_sorts.specs.declared.scope.Scope.{Scope}
use Rattle.rec_sorts.specs.declared.terms.Placed.{Placed}
use Rattle.rec_sorts.proofs.KeptLemmas.{bytes_eq-eq}
use Rattle.rec_sorts.proofs.TableLemmas.{is_some-first_at}
use Rattle.rec_sorts.proofs.TurnLemmas.{misplaced-nothing}
use Rattle.rec_sorts.proofs.SubtermLemmas.{least_of-map, least_of-flat, least_of-same}
use Rattle.rec_sorts.proofs.StackLemmas.{map-append, head_placed, heads_of, misplaced_in, ill_sorted_among-term}
use Rattle.rec_sorts.proofs.MeaningLemmas.{meaning-symbol, meaning-variable, arguments_by, sort_at-name, arguments_at-name, is_none-name, first_at-one}
use Rattle.rec_sorts.proofs.KeptNameLemmas.{is_operator-name, no_variable, IsKnown, AreKnown, option_eq-numbers, arguments_known, sort_known}

-- the last of a list that ends with an item
last-push : (ps : List Placed) (p : Placed) → last_letter (ps ++ p ∷ []) ≡ Some p
last-push ps p =
    let last : length (ps ++ p ∷ []) - 1 ≡ length ps = omega (arith, length-append ps (p ∷ [])) in
    ap (slice_get (ps ++ p ∷ [])) last
    ∙ slice_get-get_or (ps ++ p ∷ []) (length ps) p (omega (arith, length-append ps (p ∷ [])))
    ∙ ap (λ (q : Placed). Some q) (get_or-append_seam ps p [] p)

-- a term's own item is its last
pub last_letter-letters : (s : Scope) (t : Term) → last_letter (letters_of s t) ≡ Some (head_placed s t)
last_letter-letters s (Apply w ts) =
    ap last_letter (map-append (placed_by s) (flat_all ts) (record { word = w; count = term_count ts } ∷ []))
    ∙ last-push (map (placed_by s) (flat_all ts)) (head_placed s (Apply w ts))

head_placed-at : (s : Scope) (t : Term) → (head_placed s t).at ≡ (head t).at
head_placed-at s (Apply w ts) = refl

head_placed-meaning : (s : Scope) (t : Term) → (head_placed s t).meaning ≡ meaning_of s (head t).bytes
head_placed-meaning s (Apply w ts) = refl

module _ (y : Spec) (s : Scope) (h : IsScope y s) where
  -- the words that are not declared
  pub unknown-term : (t : Term) → unknown_among (letters_of s t) ≡ least_of (λ u.
      place_where (not (mentions (names (symbols y) ++ variable_words y.variables) (head u).bytes)) (head u).at) (subterms t)
  unknown-term t =
      least_of-map (λ p. place_where (is_none p.meaning) p.at) (placed_by s) (flat t)
      ∙ least_of-flat (λ w n. place_where (is_none (meaning_of s w.bytes)) w.at) t
      ∙ least_of-same (subterms t) (λ u. ap (λ b. place_where b (head u).at) (is_none-name y s h (head u).bytes))

  filled-by : (n : ℕ) (o : Option Declaration) → nat_eq n (length (arguments_by y s h o)) ≡ elim o as (λ _. Bool)
      [ Some d ↦ nat_eq n (length d.arguments) | None ↦ nat_eq n 0 ]
  filled-by n (Some d) = ap (nat_eq n) (length-map d.arguments (λ w. first_at y.sorts w.bytes))
  filled-by n None = refl

  filled-at : (u : Term) → place_where (not (nat_eq (count (arguments u)) (length (arguments_at s (meaning_of s (head u).bytes)))))
      (head u).at ≡ place_where (not (is_filled y u)) (head u).at
  filled-at (Apply w ts) =
      ap (λ b. place_where (not b) w.at) (ap (λ (xs : List (Option ℕ)). nat_eq (count ts) (length xs)) (arguments_at-name y s h w.bytes)
      ∙ filled-by (count ts) (symbol y w.bytes))

  -- the words with another number of arguments than declared
  pub filled-term : (t : Term) → ill_filled_among s (letters_of s t) ≡ least_of (λ u. place_where (not (is_filled y u)) (head u).at) (subterms t)
  filled-term t =
      least_of-map (λ p. place_where (not (nat_eq p.count (length (arguments_at s p.meaning)))) p.at) (placed_by s) (flat t)
      ∙ least_of-flat (λ w n. place_where (not (nat_eq n (length (arguments_at s (meaning_of s w.bytes))))) w.at) t
      ∙ least_of-same (subterms t) filled-at

  -- the sort of a term's head, by its number
  head-sort : (t : Term) → sort_at s (head_placed s t).meaning ≡ option_and_then (first_at y.sorts) (sort_of y t)
  head-sort t = ap (sort_at s) (head_placed-meaning s t) ∙ sort_at-name y s h (head t).bytes

  module _ (sorts_kept : unknown_sorts y ≡ []) where
    sort_of-known : (t : Term) → IsKnown y.sorts (sort_of y t)
    sort_of-known t = sort_known y sorts_kept (head t).bytes

    placed-at : (ss : List Word) (ts : Terms) → AreKnown y.sorts ss
        → misplaced s (heads_of s ts) (sort_numbers (first_at y.sorts) ss) ≡ least_place (heads (ill_placed y ss ts))
    placed-at [] ts k = misplaced-nothing s (heads_of s ts)
    placed-at (v ∷ ss) none k = refl
    placed-at (v ∷ ss) (more t ts) k =
        ap (λ b. earlier (place_where (not b) (head_placed s t).at) (misplaced s (heads_of s ts) (sort_numbers (first_at y.sorts) ss)))
        (ap (λ (o : Option ℕ). option_eq nat_eq o (first_at y.sorts v.bytes)) (head-sort t)
        ∙ option_eq-numbers y.sorts (sort_of y t) (Some v.bytes) (sort_of-known t) k.0)
        ∙ ap (λ (n : ℕ). earlier (place_where (not (same_sort (sort_of y t) (Some v.bytes))) n)
        (misplaced s (heads_of s ts) (sort_numbers (first_at y.sorts) ss))) (head_placed-at s t)
        ∙ ap (earlier (place_where (not (same_sort (sort_of y t) (Some v.bytes))) (head t).at)) (placed-at ss ts k.1)
        ∙ by_test (same_sort (sort_of y t) (Some v.bytes)) (ill_placed y ss ts)
      where
        by_test : (b : Bool) (us : List Term) → earlier (place_where (not b) (head t).at) (least_place (heads us)) ≡ least_place
            (heads (elim b as (λ _. List Term) [ true ↦ us | false ↦ t ∷ us ]))
        by_test true us = refl
        by_test false us = refl

    sorted-at : (u : Term) → misplaced_in s u ≡ least_place (heads (ill_sorted_in y u))
    sorted-at (Apply w ts) = ap (misplaced s (heads_of s ts)) (arguments_at-name y s h w.bytes) ∙ by_symbol (symbol y w.bytes) refl
      where
        by_symbol : (o : Option Declaration) → symbol y w.bytes ≡ o → misplaced s (heads_of s ts) (arguments_by y s h o) ≡ least_place
            (heads (elim o as (λ _. List Term) [ Some d ↦ ill_placed y d.arguments ts | None ↦ [] ]))
        by_symbol (Some d) e = placed-at d.arguments ts (arguments_known y sorts_kept w.bytes d e)
        by_symbol None e = misplaced-nothing s (heads_of s ts)

    -- the arguments of another sort than declared
    pub sorted-term : (t : Term) → ill_sorted_among s [] (letters_of s t) ≡ least_of (λ u. least_place (heads (ill_sorted_in y u))) (subterms t)
    sorted-term t = ill_sorted_among-term s t ∙ least_of-same (subterms t) sorted-at

    -- two terms of different sorts
    pub unlike-terms : (l r : Term) → unlike_at s (letters_of s l) (letters_of s r) ≡ least_place (heads (unlike y l r))
    unlike-terms l r =
        ap (λ o. by_left o (last_letter (letters_of s r))) (last_letter-letters s l)
        ∙ ap (by_left (Some (head_placed s l))) (last_letter-letters s r)
        ∙ ap (λ b. place_where (not b) (head_placed s l).at)
        (ap (λ (o : Option ℕ). option_eq nat_eq o (sort_at s (head_placed s r).meaning)) (head-sort l)
        ∙ ap (option_eq nat_eq (option_and_then (first_at y.sorts) (sort_of y l))) (head-sort r)
        ∙ option_eq-numbers y.sorts (sort_of y l) (sort_of y r) (sort_of-known l) (sort_of-known r))
        ∙ ap (place_where (not (same_sort (sort_of y l) (sort_of y r)))) (head_placed-at s l)
        ∙ by_test (same_sort (sort_of y l) (sort_of y r))
      where
        by_right : Placed → Option Placed → Option ℕ
        by_right p o = elim o [ None ↦ None | Some q ↦ place_where (not (option_eq nat_eq (sort_at s p.meaning) (sort_at s q.meaning))) p.at ]

        by_left : Option Placed → Option Placed → Option ℕ
        by_left o q = elim o [ None ↦ None | Some p ↦ by_right p q ]

        by_test : (b : Bool) → place_where (not b) (head l).at ≡ least_place (heads (elim b as (λ _. List Term) [ true ↦ [] | false ↦ l ∷ [] ]))
        by_test true = refl
        by_test false = refl

  -- a left-hand side whose head is no operator
  pub headed-term : repeated_symbols y ≡ [] → (t : Term) → ill_headed_at s (letters_of s t) ≡ place_where
      (not (mentions (names y.operators) (head t).bytes)) (head t).at
  headed-term kept t =
      ap by_last (last_letter-letters s t)
      ∙ ap (λ b. place_where (not b) (head_placed s t).at) (ap (is_operator s) (head_placed-meaning s t) ∙ is_operator-name y s h kept (head t).bytes)
      ∙ ap (place_where (not (mentions (names y.operators) (head t).bytes))) (head_placed-at s t)
    where
      by_last : Option Placed → Option ℕ
      by_last o = elim o [ None ↦ None | Some p ↦ place_where (not (is_operator s p.meaning)) p.at ]

  -- the variables of a term that are not bound
  pub unbound-term : (bound : ℕ → Bool) (t : Term) → unbound_among bound (letters_of s t) ≡ least_of (λ u.
      place_where (is_unbound bound (meaning_of s (head u).bytes)) (head u).at) (subterms t)
  unbound-term bound t =
      least_of-map (λ p. place_where (is_unbound bound p.meaning) p.at) (placed_by s) (flat t)
      ∙ least_of-flat (λ w n. place_where (is_unbound bound (meaning_of s w.bytes)) w.at) t

  -- a name that represents a variable is one
  pub variable-name : taken_variables y ≡ [] → (name : List ℕ) → is_unbound (λ _. false) (meaning_of s name) ≡ is_variable y name
  variable-name kept name = by_symbol (symbol y name) refl
    where
      by_number : (o : Option ℕ) → is_unbound (λ _. false) (option_map (λ k. Variable k) o) ≡ is_some o
      by_number None = refl
      by_number (Some k) = refl

      by_symbol : (o : Option Declaration) → symbol y name ≡ o → is_unbound (λ _. false) (meaning_of s name) ≡ is_variable y name
      by_symbol (Some d) e =
          let f = meaning-symbol y s h name d e in
          ap (is_unbound (λ _. false)) f.4 ∙ sym (no_variable y s h kept name d e)
      by_symbol None e =
          ap (is_unbound (λ _. false)) (meaning-variable y s h name e)
          ∙ by_number (first_at (variable_words y.variables) name)
          ∙ is_some-first_at (variable_words y.variables) name

  -- a variable has its number
  variable_number : (name : List ℕ) (k : ℕ) → meaning_of s name ≡ Some (Variable k) → first_at (variable_words y.variables) name ≡ Some k
  variable_number name k e = by_symbol (symbol y name) refl
    where
      by_number : (o : Option ℕ) → option_map (λ j. Variable j) o ≡ Some (Variable k) → o ≡ Some k
      by_number None n = absurd (cc n)
      by_number (Some j) n = cc n

      by_symbol : (o : Option Declaration) → symbol y name ≡ o → first_at (variable_words y.variables) name ≡ Some k
      by_symbol (Some d) f =
          let m = meaning-symbol y s h name d f in
          absurd (cc (sym m.4 ∙ e))
      by_symbol None f = by_number (first_at (variable_words y.variables) name) (sym (meaning-variable y s h name f) ∙ e)

  -- the words for a variable are those with its name
  pub same_variable : (name : List ℕ) (k : ℕ) → meaning_of s name ≡ Some (Variable k) → (other : List ℕ)
      → is_the_variable k (meaning_of s other) ≡ bytes_eq other name
  same_variable name k e other = by_bytes (bytes_eq other name) refl
    where
      by_meaning : (m : Option Meaning) → meaning_of s other ≡ m → bytes_eq other name ≡ false → is_the_variable k m ≡ false
      by_meaning None is differ = refl
      by_meaning (Some (Symbol j)) is differ = refl
      by_meaning (Some (Variable j)) is differ = by_number (nat_eq k j) refl
        where
          by_number : (b : Bool) → nat_eq k j ≡ b → nat_eq k j ≡ false
          by_number true n =
              let same : k ≡ j = eqb-true k j n in
              let one : other ≡ name = first_at-one (variable_words y.variables) other name j (variable_number other j is)
              (variable_number name k e ∙ ap (λ (i : ℕ). Some i) same) in
              absurd (false≢true (sym differ ∙ ap (λ (b : List ℕ). bytes_eq b name) one ∙ (bytes_eq-Decides name name).1 refl))
          by_number false n = n

      by_bytes : (b : Bool) → bytes_eq other name ≡ b → is_the_variable k (meaning_of s other) ≡ b
      by_bytes true is = ap (is_the_variable k) (ap (meaning_of s) (bytes_eq-eq other name is) ∙ e) ∙ eq-eqb k k refl
      by_bytes false is = by_meaning (meaning_of s other) refl is
