-- The places that are found are those of the rules, in their order.
use Rattle.std.proofs.Common.{refl, sym, ap, ◌∙◌}
use Rattle.std.specs.Prelude.{ℕ, ◌≡◌, Bool, not, cond, List, [], ◌∷◌, ◌++◌, Option, Some, None, map, flat_map}
use Rattle.rec_syntax.specs.Syntax.{Term, Condition, Rule, Spec, head, subterms}
use Rattle.rec_sorts.specs.Lookup.{mentions, symbols, names, variable_words, rule_terms, condition_terms}
use Rattle.rec_sorts.specs.SpecRules.{heads, everywhere, all_terms, is_filled, ill_sorted_in, unlike}
use Rattle.rec_sorts.specs.SpecRules.{missing, variables_among, fault, all_rules, repeated_sorts}
use Rattle.rec_sorts.specs.SpecRules.{repeated_symbols, taken_variables, unknown_sorts, unknown_words}
use Rattle.rec_sorts.specs.SpecRules.{ill_filled, ill_sorted, ill_headed, unlike_sides, unbound, open_terms}
use Rattle.rec_sorts.specs.Least.{earlier, least_of, least_place, place_where, joined}
use Rattle.rec_sorts.specs.Letters.{unknown_among, ill_filled_among, ill_sorted_among}
use Rattle.rec_sorts.specs.Reading.{letters_of, nowhere, places_over, ill_headed_at, unlike_at, binds_variable, unbound_among}
use Rattle.rec_sorts.specs.Reading.{condition_places, conditions_places, rule_places, rules_places, open_term_places, open_terms_places}
use Rattle.rec_sorts.specs.SortFaults.{first_place}
use Rattle.rec_sorts.specs.Agreeing.{IsScope}
use Rattle.rec_sorts.specs.declared.places.TermPlaces.{TermPlaces}
use Rattle.rec_sorts.specs.declared.scope.Scope.{Scope}
use Rattle.rec_sorts.proofs.LeastPlaceLemmas.{earlier_none, earlier_assoc, first_place-Agree}
use Rattle.rec_sorts.proofs.SubtermLemmas.{least_of-append, least_of-map, least_of-flat_map, least_of-filter, least_of-same}
use Rattle.rec_sorts.proofs.SubtermLemmas.{place_where-cond, least_place-heads, least_place-heads_of, least_of-conditions, least_of-rules}
use Rattle.rec_sorts.proofs.AgreementLemmas.{unknown-term, filled-term, sorted-term, unlike-terms, headed-term}
use Rattle.rec_sorts.proofs.BoundLemmas.{unbound-terms, open-terms}

nothing-found : {X : Type 0} (xs : List X) → least_of (λ _. None) xs ≡ None
nothing-found [] = refl
nothing-found (x ∷ xs) = nothing-found xs

-- the place for one rule
module _ (π : TermPlaces → Option ℕ) (joins : (p q : TermPlaces) → π (joined p q) ≡ earlier (π p) (π q)) (starts : π nowhere ≡ None) where
  -- over some items it is the least of theirs
  pub field-over : {X : Type 0} (places_of : X → TermPlaces) (xs : List X) → π (places_over places_of xs) ≡ least_of (λ x. π (places_of x)) xs
  field-over places_of [] = starts
  field-over places_of (x ∷ xs) = joins (places_of x) (places_over places_of xs) ∙ ap (earlier (π (places_of x))) (field-over places_of xs)

  -- a rule that is asked of each term by itself
  each_term : (s : Scope) (F : Term → Option ℕ) → ((bound : ℕ → Bool) (c : Condition)
      → π (condition_places s bound c) ≡ earlier (earlier (F c.left) (F c.right)) None)
      → ((r : Rule) → π (rule_places s r) ≡ earlier (earlier (earlier (F r.left) (F r.right)) None)
      (π (conditions_places s (binds_variable (letters_of s r.left)) r.conditions)))
      → ((t : Term) → π (open_term_places s t) ≡ earlier (F t) None)
      → (rs : List Rule) (ts : List Term) → earlier (π (rules_places s rs)) (π (open_terms_places s ts)) ≡ least_of F (rule_terms rs ++ ts)
  each_term s F at_condition at_rule at_term rs ts =
      ap (earlier (π (rules_places s rs))) (field-over (open_term_places s) ts ∙ least_of-same ts (λ t. at_term t ∙ earlier_none (F t)))
      ∙ ap (λ p. earlier p (least_of F ts)) (field-over (rule_places s) rs ∙ least_of-same rs by_rule ∙ sym (least_of-rules F rs))
      ∙ sym (least_of-append F (rule_terms rs) ts)
    where
      by_rule : (r : Rule) → π (rule_places s r) ≡ earlier (F r.left) (earlier (F r.right) (least_of (λ c. earlier (F c.left) (F c.right)) r.conditions))
      by_rule r =
          at_rule r
          ∙ ap (earlier (earlier (earlier (F r.left) (F r.right)) None))
          (field-over (condition_places s (binds_variable (letters_of s r.left))) r.conditions
          ∙ least_of-same r.conditions (λ c. at_condition (binds_variable (letters_of s r.left)) c ∙ earlier_none (earlier (F c.left) (F c.right))))
          ∙ ap (λ p. earlier p (least_of (λ c. earlier (F c.left) (F c.right)) r.conditions)) (earlier_none (earlier (F r.left) (F r.right)))
          ∙ earlier_assoc (F r.left) (F r.right) (least_of (λ c. earlier (F c.left) (F c.right)) r.conditions)

  -- a rule that is asked of rules alone
  each_rule : (s : Scope) (F : Rule → Option ℕ) → ((r : Rule) → π (rule_places s r) ≡ F r) → ((t : Term) → π (open_term_places s t) ≡ None)
      → (rs : List Rule) (ts : List Term) → earlier (π (rules_places s rs)) (π (open_terms_places s ts)) ≡ least_of F rs
  each_rule s F at_rule at_term rs ts =
      ap (earlier (π (rules_places s rs))) (field-over (open_term_places s) ts ∙ least_of-same ts at_term ∙ nothing-found ts)
      ∙ earlier_none (π (rules_places s rs))
      ∙ field-over (rule_places s) rs
      ∙ least_of-same rs at_rule

-- the places of the first words of some terms
heads-least : (ts : List Term) → least_place (heads ts) ≡ least_of (λ t. Some (head t).at) ts
heads-least ts = least_of-map (λ w. Some w.at) head ts

heads-flat_map : {X : Type 0} (g : X → List Term) (xs : List X) → least_place (heads (flat_map g xs)) ≡ least_of (λ x. least_place (heads (g x))) xs
heads-flat_map g xs = heads-least (flat_map g xs) ∙ least_of-flat_map (λ t. Some (head t).at) g xs ∙ sym (least_of-same xs (λ x. heads-least (g x)))

heads-append : (ts us : List Term) → least_place (heads (ts ++ us)) ≡ earlier (least_place (heads ts)) (least_place (heads us))
heads-append ts us =
    heads-least (ts ++ us)
    ∙ least_of-append (λ t. Some (head t).at) ts us
    ∙ ap (λ p. earlier p (least_of (λ t. Some (head t).at) us)) (sym (heads-least ts))
    ∙ ap (earlier (least_place (heads ts))) (sym (heads-least us))

module _ (y : Spec) (s : Scope) (h : IsScope y s) where
  -- the places found in rules and terms
  abbrev pub found : TermPlaces
  found = joined (rules_places s y.rules) (open_terms_places s y.terms)

  pub unknown-found : found.unknown ≡ least_place (unknown_words y)
  unknown-found =
      each_term (λ p. p.unknown) (λ p q. refl) refl s (λ t. unknown_among (letters_of s t)) (λ bound c. refl) (λ r. refl) (λ t. refl) y.rules y.terms
      ∙ least_of-same (rule_terms y.rules ++ y.terms) (unknown-term y s h)
      ∙ sym (least_of-flat_map (λ u. place_where (not (mentions (names (symbols y) ++ variable_words y.variables) (head u).bytes)) (head u).at)
      subterms (rule_terms y.rules ++ y.terms))
      ∙ sym (least_place-heads (λ w. not (mentions (names (symbols y) ++ variable_words y.variables) w.bytes)) (all_terms y))

  filled-found : found.ill_filled ≡ least_place (ill_filled y)
  filled-found =
      each_term (λ p. p.ill_filled) (λ p q. refl) refl s (λ t. ill_filled_among s (letters_of s t)) (λ bound c. refl) (λ r. refl) (λ t. refl) y.rules y.terms
      ∙ least_of-same (rule_terms y.rules ++ y.terms) (filled-term y s h)
      ∙ sym (least_of-flat_map (λ u. place_where (not (is_filled y u)) (head u).at) subterms (rule_terms y.rules ++ y.terms))
      ∙ sym (least_place-heads_of (λ u. not (is_filled y u)) (all_terms y))

  sorted-found : unknown_sorts y ≡ [] → found.ill_sorted ≡ least_place (ill_sorted y)
  sorted-found kept =
      each_term (λ p. p.ill_sorted) (λ p q. refl) refl s (λ t. ill_sorted_among s [] (letters_of s t)) (λ bound c. refl) (λ r. refl) (λ t. refl) y.rules y.terms
      ∙ least_of-same (rule_terms y.rules ++ y.terms) (sorted-term y s h kept)
      ∙ sym (least_of-flat_map (λ u. least_place (heads (ill_sorted_in y u))) subterms (rule_terms y.rules ++ y.terms))
      ∙ sym (heads-flat_map (ill_sorted_in y) (all_terms y))

  headed-found : repeated_symbols y ≡ [] → found.ill_headed ≡ least_place (ill_headed y)
  headed-found kept =
      each_rule (λ p. p.ill_headed) (λ p q. refl) refl s _ by_rule (λ t. refl) y.rules y.terms
      ∙ sym (least_of-map (λ w. cond (not (mentions (names y.operators) w.bytes)) (Some w.at) None) (λ r. head r.left) y.rules)
      ∙ sym (least_of-filter (λ w. Some w.at) (λ w. not (mentions (names y.operators) w.bytes)) (map (λ r. head r.left) y.rules))
    where
      by_rule : (r : Rule) → (rule_places s r).ill_headed ≡ cond (not (mentions (names y.operators) (head r.left).bytes)) (Some (head r.left).at) None
      by_rule r =
          ap (earlier (ill_headed_at s (letters_of s r.left))) (field-over (λ p. p.ill_headed) (λ p q. refl) refl
          (condition_places s (binds_variable (letters_of s r.left))) r.conditions ∙ nothing-found r.conditions)
          ∙ earlier_none (ill_headed_at s (letters_of s r.left))
          ∙ headed-term y s h kept r.left
          ∙ sym (place_where-cond (not (mentions (names y.operators) (head r.left).bytes)) (head r.left).at)

  unlike-found : unknown_sorts y ≡ [] → found.unlike ≡ least_place (unlike_sides y)
  unlike-found kept =
      each_rule (λ p. p.unlike) (λ p q. refl) refl s _ by_rule (λ t. refl) y.rules y.terms
      ∙ sym (heads-flat_map (λ r. unlike y r.left r.right ++ flat_map (λ c. unlike y c.left c.right) r.conditions) y.rules)
    where
      by_rule : (r : Rule) → (rule_places s r).unlike ≡ least_place (heads (unlike y r.left r.right ++ flat_map (λ c. unlike y c.left c.right) r.conditions))
      by_rule r =
          ap (earlier (unlike_at s (letters_of s r.left) (letters_of s r.right)))
          (field-over (λ p. p.unlike) (λ p q. refl) refl (condition_places s (binds_variable (letters_of s r.left))) r.conditions
          ∙ least_of-same r.conditions (λ c. unlike-terms y s h kept c.left c.right)
          ∙ sym (heads-flat_map (λ c. unlike y c.left c.right) r.conditions))
          ∙ ap (λ p. earlier p (least_place (heads (flat_map (λ c. unlike y c.left c.right) r.conditions)))) (unlike-terms y s h kept r.left r.right)
          ∙ sym (heads-append (unlike y r.left r.right) (flat_map (λ c. unlike y c.left c.right) r.conditions))

  unbound-found : taken_variables y ≡ [] → found.unbound ≡ least_place (unbound y)
  unbound-found kept =
      each_rule (λ p. p.unbound) (λ p q. refl) refl s _ by_rule (λ t. refl) y.rules y.terms
      ∙ sym (least_of-flat_map (λ w. Some w.at) (λ r. missing (heads (subterms r.left))
      (variables_among y (heads (everywhere (r.right ∷ condition_terms r.conditions))))) y.rules)
    where
      by_rule : (r : Rule) → (rule_places s r).unbound ≡ least_place
          (missing (heads (subterms r.left)) (variables_among y (heads (everywhere (r.right ∷ condition_terms r.conditions)))))
      by_rule r =
          let B = λ (t : Term). unbound_among (binds_variable (letters_of s r.left)) (letters_of s t) in
          ap (earlier (B r.right))
          (field-over (λ p. p.unbound) (λ p q. refl) refl (condition_places s (binds_variable (letters_of s r.left))) r.conditions
          ∙ sym (least_of-conditions B r.conditions))
          ∙ unbound-terms y s h kept r.left (r.right ∷ condition_terms r.conditions)

  free-found : taken_variables y ≡ [] → found.free ≡ least_place (open_terms y)
  free-found kept =
      ap (λ p. earlier p (open_terms_places s y.terms).free) (field-over (λ p. p.free) (λ p q. refl) refl (rule_places s) y.rules
      ∙ least_of-same y.rules by_rule ∙ nothing-found y.rules)
      ∙ field-over (λ p. p.free) (λ p q. refl) refl (open_term_places s) y.terms
      ∙ open-terms y s h kept y.terms
    where
      by_rule : (r : Rule) → (rule_places s r).free ≡ None
      by_rule r = field-over (λ p. p.free) (λ p q. refl) refl (condition_places s (binds_variable (letters_of s r.left))) r.conditions
          ∙ nothing-found r.conditions

  -- the first place found is the specification's fault
  pub first_place-found : (p₁ p₂ p₃ p₄ : Option ℕ) → p₁ ≡ least_place (repeated_sorts y) → p₂ ≡ least_place (repeated_symbols y)
      → p₃ ≡ least_place (taken_variables y) → p₄ ≡ least_place (unknown_sorts y)
      → first_place 1 (p₁ ∷ p₂ ∷ p₃ ∷ p₄ ∷ found.unknown ∷ found.ill_filled ∷ found.ill_sorted ∷ found.ill_headed ∷ found.unlike ∷ found.unbound
      ∷ found.free ∷ []) ≡ fault y
  first_place-found p₁ p₂ p₃ p₄ e₁ e₂ e₃ e₄ =
      first_place-Agree 1 (all_rules y) (p₁ ∷ p₂ ∷ p₃ ∷ p₄ ∷ found.unknown ∷ found.ill_filled ∷ found.ill_sorted ∷ found.ill_headed ∷ found.unlike
      ∷ found.unbound ∷ found.free ∷ [])
      (refl, (refl, (refl, (refl, (refl, (refl, (refl, (refl, (refl, (refl, (refl, tt))))))))))) (
        e₁,
        λ k₁. (
          e₂,
          λ k₂. (
            e₃,
            λ k₃. (
              e₄,
              λ k₄. (
                unknown-found,
                λ k₅. (
                  filled-found,
                  λ k₆. (
                    sorted-found k₄,
                    λ k₇. (
                      headed-found k₂,
                      λ k₈.
                          (unlike-found k₄, λ k₉. (unbound-found k₃, λ k₁₀. (free-found k₃, λ k₁₁. tt))),
                    ),
                  ),
                ),
              ),
            ),
          ),
        ),
      )
