-- What holds of the names and the terms of a specification that keeps its rules.
use Rattle.std.proofs.Common.{refl, sym, ap, subst, ◌∙◌}
use Rattle.std.proofs.lemmas.List.{length-map}
use Rattle.std.proofs.lemmas.Bool.{eqb-true}
use Rattle.std.specs.Prelude.{ℕ, ◌≡◌, ◌<◌, Bool, true, false, ◌||◌, not, cond, List, [], ◌∷◌, ◌++◌}
use Rattle.std.specs.Prelude.{Option, Some, None, filter, flat_map, length, nat_eq, MatchBool, bytes_eq}
use Rattle.rx_term.specs.Tree.{Tree}
use Rattle.rec_syntax.specs.Tokens.{Word}
use Rattle.rec_syntax.specs.Syntax.{Term, Terms, Apply, Declaration, Condition, Rule, Spec, head, subterms, subterms_all}
use Rattle.rec_sorts.specs.Lookup.{mentions, symbols, names, variable_words, declared, symbol, is_variable, count, condition_terms, rule_terms}
use Rattle.rec_sorts.specs.SpecRules.{heads, everywhere, all_terms, missing, variables_among, is_filled, repeated_symbols}
use Rattle.rec_sorts.specs.SpecRules.{taken_variables, ill_filled, unbound, open_terms, all_rules, fault}
use Rattle.rec_sorts.specs.Binding.{Substitution, value_of}
use Rattle.rec_sorts.specs.Laws.{Every, BindsVariables, BindsVariablesAll}
use Rattle.rec_sorts.specs.Numbering.{Named, named, named_all, bytes_at}
use Rattle.rec_sorts.proofs.KeptLemmas.{all_kept, bytes_eq-eq, repeated_none, not_before}
use Rattle.rec_sorts.proofs.DifferingLemmas.{mentions_at, differ}

-- variables have no arguments
abbrev pub AreBare : Spec → List Named → Type 0
AreBare y ms = Every (λ (m : Named). is_variable y m.name ≡ true → m.arguments ≡ 0) ms

pub filter_none : {X : Type 0} (p : X → Bool) (xs : List X) → filter p xs ≡ [] → Every (λ x. p x ≡ false) xs
filter_none p [] e = tt
filter_none {X} p (x ∷ xs) e = by (p x) refl e (λ h. filter_none p xs h)
  where
    by : (b : Bool) → p x ≡ b → cond b (x ∷ filter p xs) (filter p xs) ≡ [] → (filter p xs ≡ [] → Every (λ x. p x ≡ false) xs)
        → (p x ≡ false) × Every (λ x. p x ≡ false) xs
    by true h e later = absurd (cc e)
    by false h e later = (h, later e)

heads_none : (ts : List Term) → heads ts ≡ [] → ts ≡ []
heads_none [] e = refl
heads_none (t ∷ ts) e = absurd (cc e)

pub every_append : {X : Type 0} (P : X → Type 0) (xs ys : List X) → Every P (xs ++ ys) → Every P xs × Every P ys
every_append P [] ys h = (tt, h)
every_append P (x ∷ xs) ys h = let k = every_append P xs ys h.1 in ((h.0, k.0), k.1)

pub every_joined : {X : Type 0} (P : X → Type 0) (xs ys : List X) → Every P xs → Every P ys → Every P (xs ++ ys)
every_joined P [] ys h k = k
every_joined P (x ∷ xs) ys h k = (h.0, every_joined P xs ys h.1 k)

pub every_flat : {X Y : Type 0} (P : Y → Type 0) (f : X → List Y) (xs : List X) → Every P (flat_map f xs) → Every (λ x. Every P (f x)) xs
every_flat P f [] h = tt
every_flat P f (x ∷ xs) h = let k = every_append P (f x) (flat_map f xs) h in (k.0, every_flat P f xs k.1)

pub every_map : {X : Type 0} (P Q : X → Type 0) → ((x : X) → P x → Q x) → (xs : List X) → Every P xs → Every Q xs
every_map P Q f [] h = tt
every_map P Q f (x ∷ xs) h = (f x h.0, every_map P Q f xs h.1)

both_none : {X : Type 0} (xs ys : List X) → xs ++ ys ≡ [] → (xs ≡ []) × (ys ≡ [])
both_none [] ys e = (refl, e)
both_none (x ∷ xs) ys e = absurd (cc e)

flat_none : {X Y : Type 0} (f : X → List Y) (xs : List X) → flat_map f xs ≡ [] → Every (λ x. f x ≡ []) xs
flat_none f [] e = tt
flat_none f (x ∷ xs) e = let k = both_none (f x) (flat_map f xs) e in (k.0, flat_none f xs k.1)

every_heads : (P : List ℕ → Type 0) (ts : List Term) → Every (λ (w : Word). P w.bytes) (heads ts) → Every (λ t. P (head t).bytes) ts
every_heads P [] h = tt
every_heads P (t ∷ ts) h = (h.0, every_heads P ts h.1)

mutual
  -- what holds of each term inside a term holds of each of its names
  pub every_named : (P : Term → Type 0) (Q : Named → Type 0) → ((w : Word) (ts : Terms) → P (Apply w ts)
      → Q (record { name = w.bytes; arguments = count ts })) → (t : Term) → Every P (subterms t) → Every Q (named t)
  every_named P Q f (Apply w ts) h = every_joined Q (named_all ts) (record { name = w.bytes; arguments = count ts } ∷ [])
      (every_named_all P Q f ts h.1) (f w ts h.0, tt)

  every_named_all : (P : Term → Type 0) (Q : Named → Type 0) → ((w : Word) (ts : Terms) → P (Apply w ts)
      → Q (record { name = w.bytes; arguments = count ts })) → (ts : Terms) → Every P (subterms_all ts) → Every Q (named_all ts)
  every_named_all P Q f Terms.none h = tt
  every_named_all P Q f (Terms.more t ts) h =
      let k = every_append P (subterms t) (subterms_all ts) h in
      every_joined Q (named t) (named_all ts) (every_named P Q f t k.0) (every_named_all P Q f ts k.1)

-- a name that no declaration has is not declared
undeclared : (ds : List Declaration) (name : List ℕ) → mentions (names ds) name ≡ false → declared ds name ≡ None
undeclared [] name e = refl
undeclared (d ∷ ds) name e = by (bytes_eq d.name.bytes name) e (λ h. undeclared ds name h)
  where
    by : (b : Bool) → b || mentions (names ds) name ≡ false → (mentions (names ds) name ≡ false → declared ds name ≡ None)
        → ◌≡◌ {A = Option Declaration} (elim b [ true ↦ Some d | false ↦ declared ds name ]) None
    by true e later = absurd (cc e)
    by false e later = later e

-- a variable's name is no symbol's
apart : (y : Spec) → taken_variables y ≡ [] → (name : List ℕ) → is_variable y name ≡ true → mentions (names (symbols y)) name ≡ false
apart y e name variable = not_before (names (symbols y)) (variable_words y.variables) name
    (repeated_none (names (symbols y)) (variable_words y.variables) e) variable

bare_at : (y : Spec) → taken_variables y ≡ [] → (w : Word) (ts : Terms) → not (is_filled y (Apply w ts)) ≡ false → is_variable y w.bytes ≡ true → count ts ≡ 0
bare_at y taken w ts filled variable = by (symbol y w.bytes) (undeclared (symbols y) w.bytes (apart y taken w.bytes variable)) filled
  where
    by : (o : Option Declaration) → o ≡ None → not (elim o [ Some d ↦ nat_eq (count ts) (length d.arguments) | None ↦ nat_eq (count ts) 0 ]) ≡ false
        → count ts ≡ 0
    by (Some d) e h = absurd (cc e)
    by None e h = eqb-true (count ts) 0 (is_true (nat_eq (count ts) 0) h)
      where
        is_true : (b : Bool) → not b ≡ false → b ≡ true
        is_true true e = refl
        is_true false e = absurd (cc e)

-- the variables of a term occur in a left-hand side
abbrev pub OccursIn : Spec → Term → Term → Type 0
OccursIn y l t = Every (λ (m : Named). is_variable y m.name ≡ true → mentions (heads (subterms l)) m.name ≡ true) (named t)

-- a term has no variables
abbrev pub HasNoVariables : Spec → Term → Type 0
HasNoVariables y t = Every (λ (m : Named). is_variable y m.name ≡ false) (named t)

-- the variables of a term have no arguments, and occur in a left-hand side
pub record IsRead (y : Spec) (l t : Term) : Type 0 where
  pub bare : AreBare y (named t)
  pub occurs : OccursIn y l t

pub record RuleFacts (y : Spec) (r : Rule) : Type 0 where
  pub left : AreBare y (named r.left)
  pub right : IsRead y r.left r.right
  pub conditions : Every (λ c. IsRead y r.left c.left × IsRead y r.left c.right) r.conditions

-- what holds if all rules are kept
pub record Facts (y : Spec) : Type 0 where
  pub symbols_differ : (k j : ℕ) → k < length (symbols y) → j < length (symbols y) → bytes_at (names (symbols y)) k ≡ bytes_at (names (symbols y)) j → k ≡ j
  pub variables_differ : (k j : ℕ) → k < length (variable_words y.variables) → j < length (variable_words y.variables)
      → bytes_at (variable_words y.variables) k ≡ bytes_at (variable_words y.variables) j → k ≡ j
  pub symbol_is_none : (k : ℕ) → k < length (symbols y) → is_variable y (bytes_at (names (symbols y)) k) ≡ false
  pub rules : Every (RuleFacts y) y.rules
  pub terms : Every (λ t. AreBare y (named t) × HasNoVariables y t) y.terms

pub variable_is_one : (y : Spec) (k : ℕ) → k < length (variable_words y.variables) → is_variable y (bytes_at (variable_words y.variables) k) ≡ true
variable_is_one y k h = mentions_at (variable_words y.variables) k h

-- words that are missing nowhere: each variable among them occurs
occurring : (y : Spec) (known ws : List Word) → missing known (variables_among y ws) ≡ []
    → Every (λ (w : Word). is_variable y w.bytes ≡ true → mentions known w.bytes ≡ true) ws
occurring y known [] e = tt
occurring y known (w ∷ ws) e = by (is_variable y w.bytes) refl e (λ h. occurring y known ws h)
  where
    known_all : missing known (w ∷ variables_among y ws) ≡ [] → (mentions known w.bytes ≡ true) × (missing known (variables_among y ws) ≡ [])
    known_all e = by_test (mentions known w.bytes) refl e
      where
        by_test : (b : Bool) → mentions known w.bytes ≡ b → cond (not b) (w ∷ missing known (variables_among y ws))
            (missing known (variables_among y ws)) ≡ [] → (mentions known w.bytes ≡ true) × (missing known (variables_among y ws) ≡ [])
        by_test true h e = (h, e)
        by_test false h e = absurd (cc e)

    by : (b : Bool) → is_variable y w.bytes ≡ b → missing known (cond b (w ∷ variables_among y ws) (variables_among y ws)) ≡ []
        → (missing known (variables_among y ws) ≡ [] → Every (λ (w : Word). is_variable y w.bytes ≡ true → mentions known w.bytes ≡ true) ws)
        → (is_variable y w.bytes ≡ true → mentions known w.bytes ≡ true) × Every (λ (w : Word). is_variable y w.bytes ≡ true → mentions known w.bytes ≡ true) ws
    by true h e later = let k = known_all e in ((λ _. k.0), later k.1)
    by false h e later = ((λ g. absurd (cc (sym h ∙ g))), later e)

-- each term of a rule: as it is filled, and as its variables occur
rule_facts : (y : Spec) → taken_variables y ≡ [] → (r : Rule)
    → Every (λ t. Every (λ u. not (is_filled y u) ≡ false) (subterms t)) (r.left ∷ r.right ∷ condition_terms r.conditions)
    → missing (heads (subterms r.left)) (variables_among y (heads (everywhere (r.right ∷ condition_terms r.conditions)))) ≡ [] → RuleFacts y r
rule_facts y taken r filled bound = record {
  left = bare r.left filled.0;
  right = both r.right filled.1.0 occurs.0;
  conditions =
      of_conditions r.conditions filled.1.1 occurs.1;
}
  where
    bare : (t : Term) → Every (λ u. not (is_filled y u) ≡ false) (subterms t) → AreBare y (named t)
    bare t h = every_named (λ u. not (is_filled y u) ≡ false) (λ m. is_variable y m.name ≡ true → m.arguments ≡ 0) (λ w ts. bare_at y taken w ts) t h

    Occurs : Term → Type 0
    Occurs t = Every (λ u. is_variable y (head u).bytes ≡ true → mentions (heads (subterms r.left)) (head u).bytes ≡ true) (subterms t)

    occurs : Every (λ t. Every (λ u. is_variable y (head u).bytes ≡ true → mentions (heads (subterms r.left)) (head u).bytes ≡ true) (subterms t))
        (r.right ∷ condition_terms r.conditions)
    occurs = every_flat (λ u. is_variable y (head u).bytes ≡ true → mentions (heads (subterms r.left)) (head u).bytes ≡ true) subterms
        (r.right ∷ condition_terms r.conditions)
        (every_heads (λ n. is_variable y n ≡ true → mentions (heads (subterms r.left)) n ≡ true) (everywhere (r.right ∷ condition_terms r.conditions))
        (occurring y (heads (subterms r.left)) (heads (everywhere (r.right ∷ condition_terms r.conditions))) bound))

    both : (t : Term) → Every (λ u. not (is_filled y u) ≡ false) (subterms t)
        → Every (λ u. is_variable y (head u).bytes ≡ true → mentions (heads (subterms r.left)) (head u).bytes ≡ true) (subterms t) → IsRead y r.left t
    both t h k = record {
      bare = bare t h;
      occurs = every_named (λ u. is_variable y (head u).bytes ≡ true → mentions (heads (subterms r.left)) (head u).bytes ≡ true) (λ m.
          is_variable y m.name ≡ true → mentions (heads (subterms r.left)) m.name ≡ true) (λ w ts h. h) t k;
    }

    of_conditions : (cs : List Condition) → Every (λ t. Every (λ u. not (is_filled y u) ≡ false) (subterms t)) (condition_terms cs)
        → Every (λ t. Every (λ u. is_variable y (head u).bytes ≡ true → mentions (heads (subterms r.left)) (head u).bytes ≡ true) (subterms t))
        (condition_terms cs)
        → Every (λ c. IsRead y r.left c.left × IsRead y r.left c.right) cs
    of_conditions [] h k = tt
    of_conditions (c ∷ cs) h k = ((both c.left h.0 k.0, both c.right h.1.0 k.1.0), of_conditions cs h.1.1 k.1.1)

each_rule : (y : Spec) → taken_variables y ≡ [] → (rs : List Rule)
    → Every (λ r. Every (λ t. Every (λ u. not (is_filled y u) ≡ false) (subterms t)) (r.left ∷ r.right ∷ condition_terms r.conditions)) rs
    → Every (λ r. missing (heads (subterms r.left)) (variables_among y (heads (everywhere (r.right ∷ condition_terms r.conditions)))) ≡ []) rs
    → Every (RuleFacts y) rs
each_rule y taken [] h k = tt
each_rule y taken (r ∷ rs) h k = (rule_facts y taken r h.0 k.0, each_rule y taken rs h.1 k.1)

each_term : (y : Spec) → taken_variables y ≡ [] → (ts : List Term) → Every (λ t. Every (λ u. not (is_filled y u) ≡ false) (subterms t)) ts
    → Every (λ t. Every (λ u. is_variable y (head u).bytes ≡ false) (subterms t)) ts → Every (λ t. AreBare y (named t) × HasNoVariables y t) ts
each_term y taken [] h k = tt
each_term y taken (t ∷ ts) h k = (
  (
    every_named (λ u. not (is_filled y u) ≡ false) (λ m. is_variable y m.name ≡ true → m.arguments ≡ 0) (λ w us. bare_at y taken w us) t h.0,
    every_named (λ u. is_variable y (head u).bytes ≡ false) (λ m. is_variable y m.name ≡ false) (λ w us e. e) t k.0,
  ),
  each_term y taken ts h.1 k.1,
)

pub facts : (y : Spec) → fault y ≡ None → Facts y
facts y e =
    let kept = all_kept (all_rules y) e in
    let repeated : repeated_symbols y ≡ [] = kept.1.0 in
    let taken : taken_variables y ≡ [] = kept.1.1.0 in
    let filled : ill_filled y ≡ [] = kept.1.1.1.1.1.0 in
    let bound : unbound y ≡ [] = kept.1.1.1.1.1.1.1.1.1.0 in
    let open_ones : open_terms y ≡ [] = kept.1.1.1.1.1.1.1.1.1.1.0 in
    let all_filled = filter_none (λ t. not (is_filled y t)) (all_terms y) (heads_none (filter (λ t. not (is_filled y t)) (all_terms y)) filled) in
    let split = every_append (λ t. Every (λ u. not (is_filled y u) ≡ false) (subterms t)) (rule_terms y.rules) y.terms
    (every_flat (λ u. not (is_filled y u) ≡ false) subterms (rule_terms y.rules ++ y.terms) all_filled) in
    record {
      symbols_differ = λ k j hk hj same. differ [] (names (symbols y)) repeated k j (rw length-map hk) (rw length-map hj) same;
      variables_differ = differ (names (symbols y)) (variable_words y.variables) taken;
      symbol_is_none = λ k h. no_variable k (rw length-map h) taken;
      rules = each_rule y taken y.rules
          (every_flat (λ t. Every (λ u. not (is_filled y u) ≡ false) (subterms t)) (λ r. r.left ∷ r.right ∷ condition_terms r.conditions) y.rules split.0)
          (flat_none (λ r. missing (heads (subterms r.left)) (variables_among y (heads (everywhere (r.right ∷ condition_terms r.conditions))))) y.rules bound);
      terms = each_term y taken y.terms split.1
          (every_flat (λ u. is_variable y (head u).bytes ≡ false) subterms y.terms
          (every_heads (λ n. is_variable y n ≡ false) (everywhere y.terms)
          (filter_none (λ (w : Word). is_variable y w.bytes) (heads (everywhere y.terms)) open_ones)));
    }
  where
    no_variable : (k : ℕ) → k < length (names (symbols y)) → taken_variables y ≡ [] → is_variable y (bytes_at (names (symbols y)) k) ≡ false
    no_variable k h taken = by (is_variable y (bytes_at (names (symbols y)) k)) refl
      where
        by : (b : Bool) → is_variable y (bytes_at (names (symbols y)) k) ≡ b → is_variable y (bytes_at (names (symbols y)) k) ≡ false
        by false e = e
        by true e = absurd (cc (sym (mentions_at (names (symbols y)) k h) ∙ apart y taken (bytes_at (names (symbols y)) k) e))

-- the words of a term's subterms
heads_append : (ts us : List Term) → heads (ts ++ us) ≡ heads ts ++ heads us
heads_append [] us = refl
heads_append (t ∷ ts) us = ap (λ ws. head t ∷ ws) (heads_append ts us)

mentions_append : (ws vs : List Word) (name : List ℕ) → mentions (ws ++ vs) name ≡ true → (P : Type 0) → (mentions ws name ≡ true → P)
    → (mentions vs name ≡ true → P) → P
mentions_append [] vs name e P one other = other e
mentions_append (w ∷ ws) vs name e P one other = by (bytes_eq w.bytes name) e one (λ h Q f g. mentions_append ws vs name h Q f g)
  where
    by : (b : Bool) → b || mentions (ws ++ vs) name ≡ true → (b || mentions ws name ≡ true → P)
        → (mentions (ws ++ vs) name ≡ true → (Q : Type 0) → (mentions ws name ≡ true → Q) → (mentions vs name ≡ true → Q) → Q) → P
    by true e one later = one refl
    by false e one later = later e P one other

mutual
  -- a variable that occurs in a left-hand side is bound
  pub occurring_bound : (y : Spec) (s : Substitution) (l : Term) → AreBare y (named l) → BindsVariables y s l → (name : List ℕ)
      → is_variable y name ≡ true → mentions (heads (subterms l)) name ≡ true → (v : Tree) × (value_of s name ≡ Some v)
  occurring_bound y s (Apply w ts) bare binding name variable e =
      let split = every_append (λ (m : Named). is_variable y m.name ≡ true → m.arguments ≡ 0) (named_all ts)
      (record { name = w.bytes; arguments = count ts } ∷ []) bare in
      by_name (bytes_eq w.bytes name) refl e (λ b f. occurring_bound_all y s ts split.0 b name variable f) split.1.0
    where
      at_variable : (b : Bool) → is_variable y w.bytes ≡ b → b ≡ true
          → MatchBool b ((v : Tree) × (value_of s w.bytes ≡ Some v)) ((value_of s w.bytes ≡ None) × BindsVariablesAll y s ts)
          → (v : Tree) × (value_of s w.bytes ≡ Some v)
      at_variable true h e binding = binding
      at_variable false h e binding = absurd (cc e)

      no_more : (zs : Terms) → count zs ≡ 0 → mentions (heads (subterms_all zs)) name ≡ true → ⊥
      no_more Terms.none h e = cc e
      no_more (Terms.more t zs) h e = cc h

      at_symbol : (b : Bool) → is_variable y w.bytes ≡ b → MatchBool b ((v : Tree) × (value_of s w.bytes ≡ Some v))
          ((value_of s w.bytes ≡ None) × BindsVariablesAll y s ts)
          → (is_variable y w.bytes ≡ true → count ts ≡ 0) → (BindsVariablesAll y s ts → mentions (heads (subterms_all ts)) name ≡ true
          → (v : Tree) × (value_of s name ≡ Some v)) → mentions (heads (subterms_all ts)) name ≡ true → (v : Tree) × (value_of s name ≡ Some v)
      at_symbol true h binding none_of later e = absurd (no_more ts (none_of h) e)
      at_symbol false h binding none_of later e = later binding.1 e

      by_name : (b : Bool) → bytes_eq w.bytes name ≡ b → b || mentions (heads (subterms_all ts)) name ≡ true
          → (BindsVariablesAll y s ts → mentions (heads (subterms_all ts)) name ≡ true → (v : Tree) × (value_of s name ≡ Some v))
          → (is_variable y w.bytes ≡ true → count ts ≡ 0) → (v : Tree) × (value_of s name ≡ Some v)
      by_name true h e later none_of =
          let same : w.bytes ≡ name = bytes_eq-eq w.bytes name h in
          subst (λ n. (v : Tree) × (value_of s n ≡ Some v)) same (at_variable (is_variable y w.bytes) refl (ap (is_variable y) same ∙ variable) binding)
      by_name false h e later none_of = at_symbol (is_variable y w.bytes) refl binding none_of later e

  pub occurring_bound_all : (y : Spec) (s : Substitution) (ts : Terms) → AreBare y (named_all ts) → BindsVariablesAll y s ts → (name : List ℕ)
      → is_variable y name ≡ true → mentions (heads (subterms_all ts)) name ≡ true → (v : Tree) × (value_of s name ≡ Some v)
  occurring_bound_all y s Terms.none bare binding name variable e = absurd (cc e)
  occurring_bound_all y s (Terms.more t ts) bare binding name variable e =
      let split = every_append (λ (m : Named). is_variable y m.name ≡ true → m.arguments ≡ 0) (named t) (named_all ts) bare in
      mentions_append (heads (subterms t)) (heads (subterms_all ts)) name
      (ap (λ ws. mentions ws name) (sym (heads_append (subterms t) (subterms_all ts))) ∙ e) ((v : Tree) × (value_of s name ≡ Some v))
      (λ f. occurring_bound y s t split.0 binding.0 name variable f)
      (λ f. occurring_bound_all y s ts split.1 binding.1 name variable f)
