-- The places of a rule, as they are found.
use Rattle.std.proofs.Common.{refl, sym, ap, ◌∙◌}
use Rattle.std.specs.Prelude.{ℕ, ◌≡◌, Bool, true, false, cond, List, Option, Some, None, bytes_eq}
use Rattle.rec_syntax.specs.Syntax.{Term, Rule}
use Rattle.rec_sorts.specs.Least.{joined}
use Rattle.rec_sorts.specs.Names.{Numbers, given_first}
use Rattle.rec_sorts.specs.Reading.{letters_of, nowhere, term_places, binds_variable, unbound_among}
use Rattle.rec_sorts.specs.Reading.{conditions_places, both_places, bound_places, rule_places, open_term_places}
use Rattle.rec_sorts.specs.declared.places.TermPlaces.{TermPlaces}
use Rattle.rec_sorts.specs.declared.scope.Scope.{Scope}
use Rattle.rec_sorts.specs.declared.terms.Placed.{Placed}
use Rattle.rec_sorts.proofs.KeptLemmas.{bytes_eq-eq}
use Rattle.rec_sorts.proofs.LeastPlaceLemmas.{joined_assoc}

-- the parts of a rule make its places
pub rule_places-parts : (s : Scope) (r : Rule) (ls rs : List Placed) (sides rest : TermPlaces) → ls ≡ letters_of s r.left → rs ≡ letters_of s r.right
    → sides ≡ joined (term_places s r.left) (term_places s r.right) → rest ≡ bound_places s ls rs r.conditions → joined sides rest ≡ rule_places s r
rule_places-parts s r ls rs sides rest el er es eb =
    ap (joined sides) (eb ∙ ap (λ xs. bound_places s xs rs r.conditions) el ∙ ap (λ xs. bound_places s (letters_of s r.left) xs r.conditions) er)
    ∙ ap (λ p. joined p (bound_places s (letters_of s r.left) (letters_of s r.right) r.conditions)) es
    ∙ sym (joined_assoc (joined (term_places s r.left) (term_places s r.right)) (both_places s (letters_of s r.left) (letters_of s r.right))
    (conditions_places s (binds_variable (letters_of s r.left)) r.conditions))

-- a name that had no number gets one
pub given_first-new : (g : Numbers) (name : List ℕ) (number : ℕ) (other : List ℕ) → g name ≡ None
    → cond (bytes_eq name other) (Some number) (g other) ≡ given_first g name number other
given_first-new g name number other e = by_bytes (bytes_eq name other) refl (g other) refl
  where
    by_bytes : (b : Bool) → bytes_eq name other ≡ b → (o : Option ℕ) → g other ≡ o
        → ◌≡◌ {A = Option ℕ} (cond b (Some number) o) (elim o [ Some k ↦ Some k | None ↦ elim b [ true ↦ Some number | false ↦ None ] ])
    by_bytes true is (Some k) at = absurd (cc (sym at ∙ ap g (sym (bytes_eq-eq name other is)) ∙ e))
    by_bytes true is None at = refl
    by_bytes false is (Some k) at = refl
    by_bytes false is None at = refl

-- a name that had a number keeps it, where a map puts another one in its place and then its own
pub given_first-again : (g : Numbers) (name : List ℕ) (number first : ℕ) (other : List ℕ) → g name ≡ Some first
    → cond (bytes_eq name other) (Some first) (cond (bytes_eq name other) (Some number) (g other)) ≡ given_first g name number other
given_first-again g name number first other e = by_bytes (bytes_eq name other) refl (g other) refl
  where
    by_bytes : (b : Bool) → bytes_eq name other ≡ b → (o : Option ℕ) → g other ≡ o
        → ◌≡◌ {A = Option ℕ} (cond b (Some first) (cond b (Some number) o)) (elim o [ Some k ↦ Some k | None ↦ elim b [ true ↦ Some number | false ↦ None ] ])
    by_bytes true is (Some k) at = sym e ∙ ap g (bytes_eq-eq name other is) ∙ at
    by_bytes true is None at = absurd (cc (sym at ∙ ap g (sym (bytes_eq-eq name other is)) ∙ e))
    by_bytes false is (Some k) at = refl
    by_bytes false is None at = refl

-- the parts of a term to evaluate make its places
pub open_term_places-parts : (s : Scope) (t : Term) (p : TermPlaces) (free : Option ℕ) → p ≡ term_places s t
    → free ≡ unbound_among (λ _. false) (letters_of s t) → joined p (record nowhere { free = free }) ≡ open_term_places s t
open_term_places-parts s t p free ep ef = λ i. joined (ep i) (record nowhere { free = ef i })
