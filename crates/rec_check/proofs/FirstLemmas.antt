-- The first error is the one that evaluation reports.
use Rattle.std.proofs.Common.{refl, sym, ap, subst, ◌∙◌, arith, cond, eq-eqb, inl, inr}
use Rattle.std.proofs.lemmas.Bool.{cases_lt, eqb-true}
use Rattle.std.specs.Prelude.{ℕ, zero, suc, ◌≡◌, ◌+◌, ◌<◌, ◌≤◌, ◌⊎◌, Bool, true, false, ◌&&◌, List, [], ◌∷◌, Option, Some}
use Rattle.std.specs.Prelude.{None, count_by, drop, flat_map, length, get_or, min, nat_eq}
use Rattle.std.specs.List.Sorted.{IsNonDecreasingBy}
use Rattle.rec_syntax.specs.Tokens.{Word}
use Rattle.rec_syntax.specs.Syntax.{Spec}
use Rattle.rec_sorts.specs.Lookup.{places}
use Rattle.rec_sorts.specs.SpecRules.{Fault, Broken, fault, first_broken, least, unknown_sorts, unknown_words, ill_filled}
use Rattle.rec_sorts.specs.SpecRules as rules
use Rattle.rec_sorts.proofs.TableLemmas.{same_function}
use Rattle.rec_check.specs.Errors.{all_rules, errors, errors_of, is_reported, judged_words, rank, rule_number}
use Rattle.rec_check.specs.Findings.{Found, found_at, found_on, number_of}
use Rattle.rec_check.specs.Laws.{FirstPlace}
use Rattle.rec_check.specs.declared.finding.Kind.TheVariants as kind
use Rattle.rec_check.specs.declared.finding.Rule.{Rule}
use Rattle.rec_check.specs.declared.finding.Rule.TheVariants as rule
use Rattle.rec_check.proofs.CountLemmas.{count-append, count-cons, count-map}
use Rattle.rec_check.proofs.ErrorLemmas.{judged-filled, judged-headed, judged-sides, judged-sorted}

-- ---- the least of some numbers is one of them

abbrev one_at : ℕ → ℕ → ℕ
one_at a p = cond (nat_eq p a) 1 0

counted : (a p : ℕ) (ps : List ℕ) → count_by (λ x. nat_eq x a) (p ∷ ps) ≡ one_at a p + count_by (λ x. nat_eq x a) ps
counted a p ps = count-cons (λ x. nat_eq x a) p ps

some_least : (p : ℕ) (ps : List ℕ) → 0 < count_by (λ x. nat_eq x (least p ps)) (p ∷ ps)
some_least p [] =
    let one : one_at p p ≡ 1 = ap (λ (b : Bool). cond b 1 0) (eq-eqb p p refl) in
    omega (arith, counted p p [], one)
some_least p (q ∷ ps) = by_order (cases_lt p q) (some_least (min p q) ps)
  where
    a : ℕ
    a = least (min p q) ps

    by_order : (p < q) ⊎ (q ≤ p) → 0 < count_by (λ x. nat_eq x a) (min p q ∷ ps) → 0 < count_by (λ x. nat_eq x a) (p ∷ q ∷ ps)
    by_order (inl h) some =
        let e : min p q ≡ p = omega arith in
        let same : one_at a (min p q) ≡ one_at a p = ap (one_at a) e in
        omega (arith, some, counted a (min p q) ps, counted a p (q ∷ ps), counted a q ps, same)
    by_order (inr h) some =
        let e : min p q ≡ q = omega arith in
        let same : one_at a (min p q) ≡ one_at a q = ap (one_at a) e in
        omega (arith, some, counted a (min p q) ps, counted a p (q ∷ ps), counted a q ps, same)

-- ---- the lowest-numbered rule that is violated

abbrev count_at : ℕ → List Word → ℕ
count_at a ws = count_by (λ w. nat_eq w.at a) ws

number_in : Option Fault → ℕ
number_in (Some f) = f.number
number_in None = 0

place_in : Option Fault → ℕ
place_in (Some f) = f.at
place_in None = 0

no_places : (ws : List Word) → places ws ≡ [] → ws ≡ []
no_places [] e = refl
no_places (w ∷ ws) e = absurd (cc e)

-- a rule is the one that is reported, or it has no words
abbrev Step : Broken → List Broken → Fault → Type 0
Step b bs f = ((b.number ≡ f.number) × (0 < count_at f.at b.words)) ⊎ ((b.words ≡ []) × (first_broken bs ≡ Some f))

step : (b : Broken) (bs : List Broken) (f : Fault) → first_broken (b ∷ bs) ≡ Some f → Step b bs f
unfolding number_in place_in
step b bs f e = by_places (places b.words) refl e
  where
    by_places : (ps : List ℕ) → places b.words ≡ ps
        → (elim ps as (λ _. Option Fault) [ [] ↦ first_broken bs | q ∷ qs ↦ Some (record { number = b.number; at = least q qs }) ]) ≡ Some f
        → Step b bs f
    by_places [] is h = inr (no_places b.words is, h)
    by_places (q ∷ qs) is h =
        let at : least q qs ≡ f.at = ap place_in h in
        let same : count_at (least q qs) b.words ≡ count_by (λ x. nat_eq x (least q qs)) (q ∷ qs) =
        sym (count-map (λ x. nat_eq x (least q qs)) (λ (w : Word). w.at) b.words) ∙ ap (count_by (λ x. nat_eq x (least q qs))) is in
        let some : 0 < count_by (λ x. nat_eq x (least q qs)) (q ∷ qs) = some_least q qs in
        let moved : count_at (least q qs) b.words ≡ count_at f.at b.words = ap (λ (a : ℕ). count_at a b.words) at in
        inl (ap number_in h, omega (arith, same, some, moved))

-- the rule that is reported, with its judged words
record Judged (y : Spec) (f : Fault) : Type 0 where
  its : Rule
  number : number_of its ≡ f.number
  some : 0 < count_at f.at (judged_words y its)

module _ (y : Spec) (f : Fault) where
  found : (r : Rule) → (number_of r ≡ f.number) × (0 < count_at f.at (judged_words y r)) → Judged y f
  found r h = record { its = r; number = h.0; some = h.1 }

  found_by : (r : Rule) (ws : List Word) → judged_words y r ≡ ws → (number_of r ≡ f.number) × (0 < count_at f.at ws) → Judged y f
  found_by r ws e h = found r (h.0, subst (λ us. 0 < count_at f.at us) (sym e) h.1)

  abbrev Rest : ℕ → Type 0
  Rest n = first_broken (drop n (rules.all_rules y)) ≡ Some f

  last : Rest 10 → Judged y f
  last e = by (step (record { number = 11; words = rules.open_terms y }) [] f e)
    where
      by : Step (record { number = 11; words = rules.open_terms y }) [] f → Judged y f
      by (inl h) = found rule.OpenTerm h
      by (inr h) = absurd (cc h.1)

  tenth : Rest 9 → Judged y f
  tenth e = by (step (record { number = 10; words = rules.unbound y }) (drop 10 (rules.all_rules y)) f e)
    where
      by : Step (record { number = 10; words = rules.unbound y }) (drop 10 (rules.all_rules y)) f → Judged y f
      by (inl h) = found rule.Unbound h
      by (inr h) = last h.1

  ninth : unknown_sorts y ≡ [] → unknown_words y ≡ [] → Rest 8 → Judged y f
  ninth s u e = by (step (record { number = 9; words = rules.unlike_sides y }) (drop 9 (rules.all_rules y)) f e)
    where
      by : Step (record { number = 9; words = rules.unlike_sides y }) (drop 9 (rules.all_rules y)) f → Judged y f
      by (inl h) = found_by rule.UnlikeSides (rules.unlike_sides y) (judged-sides y s u) h
      by (inr h) = tenth h.1

  eighth : unknown_sorts y ≡ [] → unknown_words y ≡ [] → Rest 7 → Judged y f
  eighth s u e = by (step (record { number = 8; words = rules.ill_headed y }) (drop 8 (rules.all_rules y)) f e)
    where
      by : Step (record { number = 8; words = rules.ill_headed y }) (drop 8 (rules.all_rules y)) f → Judged y f
      by (inl h) = found_by rule.IllHeaded (rules.ill_headed y) (judged-headed y u) h
      by (inr h) = ninth s u h.1

  seventh : unknown_sorts y ≡ [] → unknown_words y ≡ [] → ill_filled y ≡ [] → Rest 6 → Judged y f
  seventh s u i e = by (step (record { number = 7; words = rules.ill_sorted y }) (drop 7 (rules.all_rules y)) f e)
    where
      by : Step (record { number = 7; words = rules.ill_sorted y }) (drop 7 (rules.all_rules y)) f → Judged y f
      by (inl h) = found_by rule.IllSorted (rules.ill_sorted y) (judged-sorted y s u i) h
      by (inr h) = eighth s u h.1

  sixth : unknown_sorts y ≡ [] → unknown_words y ≡ [] → Rest 5 → Judged y f
  sixth s u e = by (step (record { number = 6; words = ill_filled y }) (drop 6 (rules.all_rules y)) f e)
    where
      by : Step (record { number = 6; words = ill_filled y }) (drop 6 (rules.all_rules y)) f → Judged y f
      by (inl h) = found_by rule.IllFilled (ill_filled y) (judged-filled y u) h
      by (inr h) = seventh s u h.0 h.1

  fifth : unknown_sorts y ≡ [] → Rest 4 → Judged y f
  fifth s e = by (step (record { number = 5; words = unknown_words y }) (drop 5 (rules.all_rules y)) f e)
    where
      by : Step (record { number = 5; words = unknown_words y }) (drop 5 (rules.all_rules y)) f → Judged y f
      by (inl h) = found rule.WordUnknown h
      by (inr h) = sixth s h.0 h.1

  fourth : Rest 3 → Judged y f
  fourth e = by (step (record { number = 4; words = unknown_sorts y }) (drop 4 (rules.all_rules y)) f e)
    where
      by : Step (record { number = 4; words = unknown_sorts y }) (drop 4 (rules.all_rules y)) f → Judged y f
      by (inl h) = found rule.SortUnknown h
      by (inr h) = fifth h.0 h.1

  third : Rest 2 → Judged y f
  third e = by (step (record { number = 3; words = rules.taken_variables y }) (drop 3 (rules.all_rules y)) f e)
    where
      by : Step (record { number = 3; words = rules.taken_variables y }) (drop 3 (rules.all_rules y)) f → Judged y f
      by (inl h) = found rule.VariableTaken h
      by (inr h) = fourth h.1

  second : Rest 1 → Judged y f
  second e = by (step (record { number = 2; words = rules.repeated_symbols y }) (drop 2 (rules.all_rules y)) f e)
    where
      by : Step (record { number = 2; words = rules.repeated_symbols y }) (drop 2 (rules.all_rules y)) f → Judged y f
      by (inl h) = found rule.SymbolTwice h
      by (inr h) = third h.1

  judged : Rest 0 → Judged y f
  judged e = by (step (record { number = 1; words = rules.repeated_sorts y }) (drop 1 (rules.all_rules y)) f e)
    where
      by : Step (record { number = 1; words = rules.repeated_sorts y }) (drop 1 (rules.all_rules y)) f → Judged y f
      by (inl h) = found rule.SortTwice h
      by (inr h) = second h.1

  -- ---- the reported error is one of all

  and_true : (b : Bool) → b && true ≡ b
  and_true true = refl
  and_true false = refl

  reported_words : (r : Rule) (ws : List Word) → number_of r ≡ f.number → count_by (is_reported f) (found_at (kind.Broken r) ws) ≡ count_at f.at ws
  reported_words r ws e =
      count-map (is_reported f) (λ (w : Word). found_on (kind.Broken r) w w.bytes) ws
      ∙ ap (λ (p : Word → Bool). count_by p ws) (same_function (λ w.
      ap (λ (b : Bool). nat_eq w.at f.at && b) (eq-eqb (number_of r) f.number e) ∙ and_true (nat_eq w.at f.at)))

  abbrev by_rule : Rule → ℕ
  by_rule r = count_by (is_reported f) (errors_of y r)

  abbrev sum_of : List Rule → ℕ
  sum_of [] = 0
  sum_of (r ∷ rs) = by_rule r + sum_of rs

  summed : (rs : List Rule) → count_by (is_reported f) (flat_map (errors_of y) rs) ≡ sum_of rs
  summed [] = refl
  summed (r ∷ rs) = count-append (is_reported f) (errors_of y r) (flat_map (errors_of y) rs) ∙ ap (λ (n : ℕ). by_rule r + n) (summed rs)

  among_all : (r : Rule) → 0 < by_rule r → 0 < count_by (is_reported f) (errors y)
  among_all rule.SortTwice h = omega (arith, h, summed all_rules)
  among_all rule.SymbolTwice h = omega (arith, h, summed all_rules)
  among_all rule.VariableTaken h = omega (arith, h, summed all_rules)
  among_all rule.SortUnknown h = omega (arith, h, summed all_rules)
  among_all rule.WordUnknown h = omega (arith, h, summed all_rules)
  among_all rule.IllFilled h = omega (arith, h, summed all_rules)
  among_all rule.IllSorted h = omega (arith, h, summed all_rules)
  among_all rule.IllHeaded h = omega (arith, h, summed all_rules)
  among_all rule.UnlikeSides h = omega (arith, h, summed all_rules)
  among_all rule.Unbound h = omega (arith, h, summed all_rules)
  among_all rule.OpenTerm h = omega (arith, h, summed all_rules)

  -- ---- it is first

  abbrev one : Bool → ℕ
  one b = cond b 1 0

  abbrev placed : Bool → ℕ → ℕ
  placed b a = cond b 0 (1 + a)

  none_reported : (fs : List Found) → ((i : ℕ) (d : Found) → i < length fs → 1 ≤ rank f (get_or fs i d)) → count_by (is_reported f) fs ≡ 0
  none_reported [] h = refl
  none_reported (g ∷ fs) h =
      let first : one (is_reported f g) ≡ 0 = by (is_reported f g) (h zero g (omega arith)) in
      let rest : count_by (is_reported f) fs ≡ 0 = none_reported fs (λ i d within. h (suc i) d (omega (arith, within))) in
      omega (arith, first, rest, count-cons (is_reported f) g fs)
    where
      by : (b : Bool) → 1 ≤ placed b g.at → one b ≡ 0
      by true k = absurd (omega (arith, k))
      by false k = refl

  both_true : (a b : Bool) → a && b ≡ true → (a ≡ true) × (b ≡ true)
  both_true true b e = (refl, e)
  both_true false b e = absurd (cc e)

  first_reported : (fs : List Found) → IsNonDecreasingBy (rank f) fs → 0 < count_by (is_reported f) fs
      → (first : Found) × (rest : List Found) × (fs ≡ first ∷ rest) × (first.at ≡ f.at) × (rule_number first.kind ≡ f.number)
  first_reported [] ordered some = absurd (omega (arith, some, empty))
    where
      empty : count_by (is_reported f) [] ≡ 0
      empty = refl
  first_reported (g ∷ fs) ordered some = by (is_reported f g) refl
    where
      by : (b : Bool) → is_reported f g ≡ b
          → (first : Found) × (rest : List Found) × (g ∷ fs ≡ first ∷ rest) × (first.at ≡ f.at) × (rule_number first.kind ≡ f.number)
      by true is =
          let k = both_true (nat_eq g.at f.at) (nat_eq (rule_number g.kind) f.number) is in
          (g, fs, refl, eqb-true g.at f.at k.0, eqb-true (rule_number g.kind) f.number k.1)
      by false is =
          let low : rank f g ≡ 1 + g.at = ap (λ (b : Bool). placed b g.at) is in
          let nothing : count_by (is_reported f) (g ∷ fs) ≡ 0 =
          none_reported (g ∷ fs) (λ i d within. above i d within low) in
          absurd (omega (arith, some, nothing))
        where
          above : (i : ℕ) (d : Found) → i < length (g ∷ fs) → rank f g ≡ 1 + g.at → 1 ≤ rank f (get_or (g ∷ fs) i d)
          above zero d within low = omega (arith, low)
          above (suc i) d within low = omega (arith, low, ordered zero (suc i) d (omega arith) within)

pub first_place_law : FirstPlace
first_place_law y f fs e o =
    let its = judged y f e in
    let own : 0 < by_rule y f its.its = let k = reported_words y f its.its (judged_words y its.its) its.number in let s = its.some in omega (arith, k, s) in
    let all : 0 < count_by (is_reported f) (errors y) = among_all y f its.its own in
    let same : count_by (is_reported f) (errors y) ≡ count_by (is_reported f) fs = o.same (is_reported f) in
    first_reported y f fs o.ordered (omega (arith, all, same))
