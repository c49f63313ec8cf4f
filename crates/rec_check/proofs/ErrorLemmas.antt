-- The lowest-numbered rule that is violated is judged at each of its words.
use Rattle.std.proofs.Common.{refl, sym, ap, ◌∙◌}
use Rattle.std.specs.Prelude.{ℕ, ◌≡◌, Bool, true, false, ◌&&◌, ◌||◌, not, List, [], ◌∷◌, ◌++◌, Option, Some, None}
use Rattle.std.specs.Prelude.{flat_map, map, filter, cond, length, nat_eq, is_some, bytes_eq}
use Rattle.rec_syntax.specs.Tokens.{Word}
use Rattle.rec_syntax.specs.Syntax.{Term, Terms, Apply, none, more, Declaration, Variables, Condition, Rule, Spec, head, subterms, subterms_all}
use Rattle.rec_sorts.specs.Laws.{Every}
use Rattle.rec_sorts.specs.Lookup.{mentions, symbols, symbol, names, variable_words, variable_sort, sort_of, same_sort, count, condition_terms, rule_terms}
use Rattle.rec_sorts.specs.SpecRules.{heads, everywhere, all_terms, missing, is_filled, ill_placed, ill_sorted_in, unlike}
use Rattle.rec_sorts.specs.SpecRules.{unknown_sorts, unknown_words, ill_filled, ill_sorted, ill_headed, unlike_sides}
use Rattle.rec_sorts.proofs.KeptLemmas.{missing_none}
use Rattle.rec_sorts.proofs.KeptNameLemmas.{AreKnown, IsKnown, arguments_known, mentions-append, sort_known}
use Rattle.rec_sorts.proofs.MeaningLemmas.{mentions-declared}
use Rattle.rec_match.proofs.FactLemmas.{every_append, every_joined, every_map, filter_none}
use Rattle.rec_check.specs.Errors.{clash, clashing, clashing_in, clashing_sides, declared_names, judged_words}
use Rattle.rec_check.specs.Lookups.{present}
use Rattle.rec_check.specs.declared.finding.Rule.TheVariants as rule

-- ---- lists

every_both : {X : Type 0} (P Q R : X → Type 0) → ((x : X) → P x → Q x → R x) → (xs : List X) → Every P xs → Every Q xs → Every R xs
every_both P Q R f [] h k = tt
every_both P Q R f (x ∷ xs) h k = (f x h.0 k.0, every_both P Q R f xs h.1 k.1)

every_filter : {X : Type 0} (P : X → Type 0) (q : X → Bool) (xs : List X) → Every P xs → Every P (filter q xs)
every_filter P q [] h = tt
every_filter {X} P q (x ∷ xs) h = by (q x) (every_filter P q xs h.1)
  where
    by : (b : Bool) → Every P (filter q xs) → Every P (cond b (x ∷ filter q xs) (filter q xs))
    by true k = (h.0, k)
    by false k = k

flat_map_same : {X Y : Type 0} (f g : X → List Y) (xs : List X) → Every (λ x. f x ≡ g x) xs → flat_map f xs ≡ flat_map g xs
flat_map_same f g [] h = refl
flat_map_same f g (x ∷ xs) h = ap (λ ys. ys ++ flat_map f xs) h.0 ∙ ap (λ ys. g x ++ ys) (flat_map_same f g xs h.1)

heads_none : (ts : List Term) → heads ts ≡ [] → ts ≡ []
heads_none [] e = refl
heads_none (t ∷ ts) e = absurd (cc e)

is_true : (b : Bool) → not b ≡ false → b ≡ true
is_true true e = refl
is_true false e = absurd (cc e)

-- ---- terms and those inside them

roots : (P : Term → Type 0) (us : List Term) → Every P (everywhere us) → Every P us
roots P [] h = tt
roots P (u ∷ us) h = let k = every_append P (subterms u) (everywhere us) h in (root u k.0, roots P us k.1)
  where
    root : (t : Term) → Every P (subterms t) → P t
    root (Apply w ts) h = h.0

abbrev Inside : (Term → Type 0) → Term → Type 0
Inside P t = Every P (subterms t)

mutual
  closed_term : (P : Term → Type 0) (t : Term) → Every P (subterms t) → Every (Inside P) (subterms t)
  closed_term P (Apply w ts) h = (h, closed_terms P ts h.1)

  closed_terms : (P : Term → Type 0) (ts : Terms) → Every P (subterms_all ts) → Every (Inside P) (subterms_all ts)
  closed_terms P none h = tt
  closed_terms P (more t ts) h =
      let k = every_append P (subterms t) (subterms_all ts) h in
      every_joined (Inside P) (subterms t) (subterms_all ts) (closed_term P t k.0) (closed_terms P ts k.1)

closed : (P : Term → Type 0) (us : List Term) → Every P (everywhere us) → Every (Inside P) (everywhere us)
closed P [] h = tt
closed P (u ∷ us) h =
    let k = every_append P (subterms u) (everywhere us) h in
    every_joined (Inside P) (subterms u) (everywhere us) (closed_term P u k.0) (closed P us k.1)

abbrev EveryOf : (Term → Type 0) → Terms → Type 0
EveryOf P none = Unit {0}
EveryOf P (more t ts) = P t × EveryOf P ts

arguments_of : (P : Term → Type 0) (ts : Terms) → Every P (subterms_all ts) → EveryOf P ts
arguments_of P none h = tt
arguments_of P (more (Apply w us) ts) h = let k = every_append P (subterms (Apply w us)) (subterms_all ts) h in (k.0.0, arguments_of P ts k.1)

-- the sides of conditions and of rules
abbrev Sides : (Term → Type 0) → Rule → Type 0
Sides P r = P r.left × (P r.right × Every (λ c. P c.left × P c.right) r.conditions)

condition_sides : (P : Term → Type 0) (cs : List Condition) → Every P (condition_terms cs) → Every (λ c. P c.left × P c.right) cs
condition_sides P [] h = tt
condition_sides P (c ∷ cs) h = ((h.0, h.1.0), condition_sides P cs h.1.1)

rule_sides : (P : Term → Type 0) (rs : List Rule) → Every P (rule_terms rs) → Every (Sides P) rs
rule_sides P [] h = tt
rule_sides P (r ∷ rs) h =
    let k = every_append P (r.left ∷ r.right ∷ condition_terms r.conditions) (rule_terms rs) h in
    ((k.0.0, (k.0.1.0, condition_sides P r.conditions k.0.1.1)), rule_sides P rs k.1)

-- ---- words

present_all : (ks ws : List Word) → AreKnown ks ws → present ks ws ≡ ws
present_all ks [] h = refl
present_all ks (w ∷ ws) h = ap (λ (b : Bool). cond b (w ∷ present ks ws) (present ks ws)) h.0 ∙ ap (λ us. w ∷ us) (present_all ks ws h.1)

every_heads : (ks : List Word) (ts : List Term) → AreKnown ks (heads ts) → Every (λ t. mentions ks (head t).bytes ≡ true) ts
every_heads ks [] h = tt
every_heads ks (t ∷ ts) h = (h.0, every_heads ks ts h.1)

heads_every : (ks : List Word) (ts : List Term) → Every (λ t. mentions ks (head t).bytes ≡ true) ts → AreKnown ks (heads ts)
heads_every ks [] h = tt
heads_every ks (t ∷ ts) h = (h.0, heads_every ks ts h.1)

filter_words : (ks us : List Word) → AreKnown ks us → (q : Word → Bool) → AreKnown ks (filter q us)
filter_words ks us h q = every_filter (λ w. mentions ks w.bytes ≡ true) q us h

left_words : (ks : List Word) (rs : List Rule) → Every (Sides (λ t. mentions ks (head t).bytes ≡ true)) rs → AreKnown ks (map (λ r. head r.left) rs)
left_words ks [] h = tt
left_words ks (r ∷ rs) h = (h.0.0, left_words ks rs h.1)

some_variable : (vs : List Variables) (name : List ℕ) → mentions (variable_words vs) name ≡ true → is_some (variable_sort vs name) ≡ true
some_variable [] name h = absurd (cc h)
some_variable (v ∷ vs) name h = by (mentions (v.first ∷ v.others) name) (sym (mentions-append (v.first ∷ v.others) (variable_words vs) name) ∙ h)
    (some_variable vs name)
  where
    by : (b : Bool) → b || mentions (variable_words vs) name ≡ true → (mentions (variable_words vs) name ≡ true → is_some (variable_sort vs name) ≡ true)
        → is_some (elim b as (λ _. Option (List ℕ)) [ true ↦ Some v.sort.bytes | false ↦ variable_sort vs name ]) ≡ true
    by true e later = refl
    by false e later = later e

module _ (y : Spec) where
  -- the head of a term is declared
  abbrev IsHead : Term → Type 0
  IsHead t = mentions (declared_names y) (head t).bytes ≡ true

  all_heads : unknown_words y ≡ [] → Every IsHead (all_terms y)
  all_heads e = every_heads (declared_names y) (all_terms y) (missing_none (declared_names y) (heads (all_terms y)) e)

  rule_heads : unknown_words y ≡ [] → Every (Sides IsHead) y.rules
  rule_heads e = rule_sides IsHead y.rules (every_append IsHead (rule_terms y.rules) y.terms
      (roots IsHead (rule_terms y.rules ++ y.terms) (all_heads e))).0

  pub judged-filled : unknown_words y ≡ [] → judged_words y rule.IllFilled ≡ ill_filled y
  judged-filled e =
      let found = filter (λ t. not (is_filled y t)) (all_terms y) in
      present_all (declared_names y) (heads found)
      (heads_every (declared_names y) found (every_filter IsHead (λ t. not (is_filled y t)) (all_terms y) (all_heads e)))

  pub judged-headed : unknown_words y ≡ [] → judged_words y rule.IllHeaded ≡ ill_headed y
  judged-headed e =
      let lefts = map (λ r. head r.left) y.rules in
      present_all (declared_names y) (missing (names y.operators) lefts)
      (filter_words (declared_names y) lefts (left_words (declared_names y) y.rules (rule_heads e)) (λ w. not (mentions (names y.operators) w.bytes)))

  -- a declared head has a sort
  head_sorted : (t : Term) → IsHead t → is_some (sort_of y t) ≡ true
  head_sorted t h = by (symbol y (head t).bytes) (mentions-declared (symbols y) (head t).bytes)
      (sym (mentions-append (names (symbols y)) (variable_words y.variables) (head t).bytes) ∙ h)
    where
      by : (o : Option Declaration) → mentions (names (symbols y)) (head t).bytes ≡ is_some o
          → mentions (names (symbols y)) (head t).bytes || mentions (variable_words y.variables) (head t).bytes ≡ true
          → is_some (elim o as (λ _. Option (List ℕ)) [ Some d ↦ Some d.sort.bytes | None ↦ variable_sort y.variables (head t).bytes ]) ≡ true
      by (Some d) e k = refl
      by None e k = some_variable y.variables (head t).bytes (sym (ap (λ (b : Bool). b || mentions (variable_words y.variables) (head t).bytes) e) ∙ k)

  -- declared sorts clash where they differ
  clash_differs : (o p : Option (List ℕ)) → is_some o ≡ true → is_some p ≡ true → IsKnown y.sorts o → IsKnown y.sorts p → clash y o p ≡ not (same_sort o p)
  clash_differs None p a b h k = absurd (cc a)
  clash_differs (Some s) None a b h k = absurd (cc b)
  clash_differs (Some s) (Some t) a b h k =
      ap (λ (c : Bool). c && mentions y.sorts t && not (bytes_eq s t)) h ∙ ap (λ (c : Bool). c && not (bytes_eq s t)) k

  module _ (sorts : unknown_sorts y ≡ []) where
    clashing-placed : (ss : List Word) (ts : Terms) → AreKnown y.sorts ss → EveryOf IsHead ts → clashing y ss ts ≡ ill_placed y ss ts
    clashing-placed [] ts h k = refl
    clashing-placed (s ∷ ss) none h k = refl
    clashing-placed (s ∷ ss) (more t ts) h k =
        ap (λ (b : Bool). elim b as (λ _. List Term) [ true ↦ t ∷ clashing y ss ts | false ↦ clashing y ss ts ])
        (clash_differs (sort_of y t) (Some s.bytes) (head_sorted t k.0) refl (sort_known y sorts (head t).bytes) h.0)
        ∙ by (same_sort (sort_of y t) (Some s.bytes)) (clashing-placed ss ts h.1 k.1)
      where
        by : (b : Bool) → clashing y ss ts ≡ ill_placed y ss ts
            → (elim (not b) as (λ _. List Term) [ true ↦ t ∷ clashing y ss ts | false ↦ clashing y ss ts ])
            ≡ (elim b as (λ _. List Term) [ true ↦ ill_placed y ss ts | false ↦ t ∷ ill_placed y ss ts ])
        by true e = e
        by false e = ap (λ us. t ∷ us) e

    clashing_in-sorted : (t : Term) → Inside IsHead t → not (is_filled y t) ≡ false → clashing_in y t ≡ ill_sorted_in y t
    clashing_in-sorted (Apply w ts) h f = by (symbol y w.bytes) refl (is_true (is_filled y (Apply w ts)) f)
      where
        by : (o : Option Declaration) → symbol y w.bytes ≡ o
            → (elim o as (λ _. Bool) [ Some d ↦ nat_eq (count ts) (length d.arguments) | None ↦ nat_eq (count ts) 0 ]) ≡ true
            → (elim o as (λ _. List Term) [
              | Some d ↦ elim (nat_eq (count ts) (length d.arguments)) as (λ _. List Term) [ true ↦ clashing y d.arguments ts | false ↦ [] ]
              | None ↦ []
            ]) ≡ (elim o as (λ _. List Term) [ Some d ↦ ill_placed y d.arguments ts | None ↦ [] ])
        by None is e = refl
        by (Some d) is e =
            ap (λ (b : Bool). elim b as (λ _. List Term) [ true ↦ clashing y d.arguments ts | false ↦ [] ]) e
            ∙ clashing-placed d.arguments ts (arguments_known y sorts w.bytes d is) (arguments_of IsHead ts h.1)

    pub judged-sorted : unknown_words y ≡ [] → ill_filled y ≡ [] → judged_words y rule.IllSorted ≡ ill_sorted y
    judged-sorted e f =
        ap heads (flat_map_same (clashing_in y) (ill_sorted_in y) (all_terms y)
        (every_both (Inside IsHead) (λ t. not (is_filled y t) ≡ false) (λ t. clashing_in y t ≡ ill_sorted_in y t) clashing_in-sorted (all_terms y)
        (closed IsHead (rule_terms y.rules ++ y.terms) (all_heads e))
        (filter_none (λ t. not (is_filled y t)) (all_terms y) (heads_none (filter (λ t. not (is_filled y t)) (all_terms y)) f))))

    sides_same : (l r : Term) → IsHead l → IsHead r → clashing_sides y l r ≡ unlike y l r
    sides_same l r h k =
        ap (λ (b : Bool). elim b as (λ _. List Term) [ true ↦ l ∷ [] | false ↦ [] ])
        (clash_differs (sort_of y l) (sort_of y r) (head_sorted l h) (head_sorted r k) (sort_known y sorts (head l).bytes) (sort_known y sorts (head r).bytes))
        ∙ by (same_sort (sort_of y l) (sort_of y r))
      where
        by : (b : Bool) → (elim (not b) as (λ _. List Term) [ true ↦ l ∷ [] | false ↦ [] ]) ≡ (elim b as (λ _. List Term) [ true ↦ [] | false ↦ l ∷ [] ])
        by true = refl
        by false = refl

    rule_same : (r : Rule) → Sides IsHead r
        → clashing_sides y r.left r.right ++ flat_map (λ c. clashing_sides y c.left c.right) r.conditions
        ≡ unlike y r.left r.right ++ flat_map (λ c. unlike y c.left c.right) r.conditions
    rule_same r h =
        ap (λ us. us ++ flat_map (λ c. clashing_sides y c.left c.right) r.conditions) (sides_same r.left r.right h.0 h.1.0)
        ∙ ap (λ us. unlike y r.left r.right ++ us)
        (flat_map_same (λ c. clashing_sides y c.left c.right) (λ c. unlike y c.left c.right) r.conditions
        (every_map (λ c. IsHead c.left × IsHead c.right) (λ c. clashing_sides y c.left c.right ≡ unlike y c.left c.right)
        (λ c k. sides_same c.left c.right k.0 k.1) r.conditions h.1.1))

    pub judged-sides : unknown_words y ≡ [] → judged_words y rule.UnlikeSides ≡ unlike_sides y
    judged-sides e =
        ap heads (flat_map_same (λ r. clashing_sides y r.left r.right ++ flat_map (λ c. clashing_sides y c.left c.right) r.conditions)
        (λ r. unlike y r.left r.right ++ flat_map (λ c. unlike y c.left c.right) r.conditions) y.rules
        (every_map (Sides IsHead)
        (λ r. clashing_sides y r.left r.right ++ flat_map (λ c. clashing_sides y c.left c.right) r.conditions
        ≡ unlike y r.left r.right ++ flat_map (λ c. unlike y c.left c.right) r.conditions) rule_same y.rules (rule_heads e)))
