-- What a specification that keeps its rules has: each rule's list is empty, and so no left side is a variable.
use Rattle.std.proofs.Common.{refl, sym, ap, subst, ◌∙◌, arith}
use Rattle.std.proofs.lemmas.List.{length-map}
use Rattle.std.proofs.lemmas.Slice.Eq.{bytes_eq-Decides}
use Rattle.std.specs.Prelude.{ℕ, ◌≡◌, ◌<◌, zero, suc, length, filter, flat_map, Bool, true, false, ◌||◌}
use Rattle.std.specs.Prelude.{not, cond, List, [], ◌∷◌, ◌++◌, Option, Some, None, map, bytes_eq}
use Rattle.rec_syntax.specs.Tokens.{Word}
use Rattle.rec_syntax.specs.Syntax.{Term, Declaration, Rule, Spec, head, subterms}
use Rattle.rec_sorts.specs.Lookup.{mentions, repeated, names, symbols, variable_words, is_variable, places, condition_terms}
use Rattle.rec_sorts.specs.Numbering.{bytes_at, name_of}
use Rattle.rec_sorts.specs.declared.letters.Meaning.TheVariants.{Symbol, Variable}
use Rattle.rec_sorts.specs.SpecRules.{Broken, Fault, first_broken, all_rules, fault, least, missing, heads, everywhere, all_terms, variables_among, is_filled}
use Rattle.rec_sorts.specs.Laws.{Every}

abbrev by_places : ℕ → List Broken → List ℕ → Option Fault
by_places number bs ps = elim ps [ [] ↦ first_broken bs | p ∷ ps ↦ Some (record { number = number; at = least p ps }) ]

-- no rule is broken: each list is empty
pub all_kept : (bs : List Broken) → first_broken bs ≡ None → Every (λ b. b.words ≡ []) bs
all_kept [] e = tt
all_kept (b ∷ bs) e = by_words b.words refl (λ h. all_kept bs h)
  where
    by_words : (ws : List Word) → b.words ≡ ws → (first_broken bs ≡ None → Every (λ b. b.words ≡ []) bs) → Every (λ b. b.words ≡ []) (b ∷ bs)
    by_words [] h later = (h, later (ap (λ ws. by_places b.number bs (places ws)) (sym h) ∙ e))
    by_words (w ∷ ws) h later = absurd (cc (ap (λ ws. by_places b.number bs (places ws)) (sym h) ∙ e))

pub bytes_eq-eq : (xs ns : List ℕ) → bytes_eq xs ns ≡ true → xs ≡ ns
bytes_eq-eq xs ns e = (bytes_eq-Decides xs ns).0 e

pub missing_none : (known ws : List Word) → missing known ws ≡ [] → Every (λ w. mentions known w.bytes ≡ true) ws
missing_none known [] e = tt
missing_none known (w ∷ ws) e = by_test (mentions known w.bytes) refl e (λ h. missing_none known ws h)
  where
    by_test : (b : Bool) → mentions known w.bytes ≡ b → cond (not b) (w ∷ missing known ws) (missing known ws) ≡ []
        → (missing known ws ≡ [] → Every (λ w. mentions known w.bytes ≡ true) ws) → Every (λ w. mentions known w.bytes ≡ true) (w ∷ ws)
    by_test true h e later = (h, later e)
    by_test false h e later = absurd (cc e)

or_false : (a b : Bool) → a || b ≡ false → b ≡ false
or_false true b e = absurd (cc e)
or_false false b e = e

pub repeated_none : (before ws : List Word) → repeated before ws ≡ [] → Every (λ w. mentions before w.bytes ≡ false) ws
repeated_none before [] e = tt
repeated_none before (w ∷ ws) e = by_test (mentions before w.bytes) refl e (λ h. repeated_none (w ∷ before) ws h)
  where
    widen : (zs : List Word) → Every (λ x. mentions (w ∷ before) x.bytes ≡ false) zs → Every (λ x. mentions before x.bytes ≡ false) zs
    widen [] h = tt
    widen (z ∷ zs) h = (or_false (bytes_eq w.bytes z.bytes) (mentions before z.bytes) h.0, widen zs h.1)

    by_test : (b : Bool) → mentions before w.bytes ≡ b → ◌≡◌ {A = List Word}
        (elim b [ true ↦ w ∷ repeated before ws | false ↦ repeated (w ∷ before) ws ]) []
        → (repeated (w ∷ before) ws ≡ [] → Every (λ x. mentions (w ∷ before) x.bytes ≡ false) ws) → Every (λ x. mentions before x.bytes ≡ false) (w ∷ ws)
    by_test true h e later = absurd (cc e)
    by_test false h e later = (h, widen ws (later e))

-- a name that is not among those before, and is one of these, is not among those before
pub not_before : (before ws : List Word) (name : List ℕ) → Every (λ w. mentions before w.bytes ≡ false) ws → mentions ws name ≡ true
    → mentions before name ≡ false
not_before before [] name h e = absurd (cc e)
not_before before (w ∷ ws) name h e = by_test (bytes_eq w.bytes name) refl e (λ k. not_before before ws name h.1 k)
  where
    by_test : (b : Bool) → bytes_eq w.bytes name ≡ b → b || mentions ws name ≡ true → (mentions ws name ≡ true → mentions before name ≡ false)
        → mentions before name ≡ false
    by_test true is e later = subst (λ n. mentions before n ≡ false) (bytes_eq-eq w.bytes name is) h.0
    by_test false is e later = later e

or_right : (a b : Bool) → b ≡ true → a || b ≡ true
or_right true b e = refl
or_right false b e = e

mentions_more : (ds es : List Declaration) (name : List ℕ) → mentions (names es) name ≡ true → mentions (names (ds ++ es)) name ≡ true
mentions_more [] es name e = e
mentions_more (d ∷ ds) es name e = or_right (bytes_eq d.name.bytes name) (mentions (names (ds ++ es)) name) (mentions_more ds es name e)

no_variable : (y : Spec) → Every (λ w. mentions (names (symbols y)) w.bytes ≡ false) (variable_words y.variables) → (name : List ℕ)
    → mentions (names y.operators) name ≡ true → is_variable y name ≡ false
no_variable y h name e = by_test (is_variable y name) refl
  where
    by_test : (b : Bool) → is_variable y name ≡ b → is_variable y name ≡ false
    by_test false k = k
    by_test true k = absurd (cc (sym (mentions_more y.constructors y.operators name e) ∙ not_before (names (symbols y)) (variable_words y.variables) name h k))

heads_apply : (y : Spec) (rs : List Rule) → Every (λ w. mentions (names (symbols y)) w.bytes ≡ false) (variable_words y.variables)
    → Every (λ w. mentions (names y.operators) w.bytes ≡ true) (map (λ r. head r.left) rs) → Every (λ r. is_variable y (head r.left).bytes ≡ false) rs
heads_apply y [] h k = tt
heads_apply y (r ∷ rs) h k = (no_variable y h (head r.left).bytes k.0, heads_apply y rs h k.1)

-- no left-hand side is a variable
abbrev pub LeftSidesApply : Spec → Type 0
LeftSidesApply y = Every (λ r. is_variable y (head r.left).bytes ≡ false) y.rules

-- if all rules are kept, no left-hand side is a variable
pub left_sides_apply : (y : Spec) → fault y ≡ None → LeftSidesApply y
left_sides_apply y e =
    let kept : Every (λ b. b.words ≡ []) (all_rules y) = all_kept (all_rules y) e in
    heads_apply y y.rules
    (repeated_none (names (symbols y)) (variable_words y.variables) (kept.1.1.0))
    (missing_none (names y.operators) (map (λ r. head r.left) y.rules) (kept.1.1.1.1.1.1.1.0))

bytes_eq-self : (a : List ℕ) → bytes_eq a a ≡ true
bytes_eq-self a = (bytes_eq-Decides a a).1 refl

-- the word at a number is mentioned
pub mentions-at : (ws : List Word) (k : ℕ) → k < length ws → mentions ws (bytes_at ws k) ≡ true
mentions-at [] k h = absurd (omega arith)
mentions-at (w ∷ ws) zero h = ap (λ b. b || mentions ws w.bytes) (bytes_eq-self w.bytes)
mentions-at (w ∷ ws) (suc k) h = or_right (bytes_eq w.bytes (bytes_at ws k)) (mentions ws (bytes_at ws k)) (mentions-at ws k (omega arith))

first_kept : (before ws : List Word) (w : Word) → repeated before (w ∷ ws) ≡ [] → repeated (w ∷ before) ws ≡ []
first_kept before ws w e = by_test (mentions before w.bytes) e
  where
    by_test : (b : Bool) → ◌≡◌ {A = List Word} (elim b [ true ↦ w ∷ repeated before ws | false ↦ repeated (w ∷ before) ws ]) [] → repeated (w ∷ before) ws ≡ []
    by_test true k = absurd (cc k)
    by_test false k = k

no_later : (before ws : List Word) (w : Word) (k : ℕ) → repeated (w ∷ before) ws ≡ [] → k < length ws → w.bytes ≡ bytes_at ws k → ⊥
no_later before ws w k e h same =
    cc (sym (ap (λ b. b || mentions before w.bytes) (bytes_eq-self w.bytes))
    ∙ not_before (w ∷ before) ws w.bytes (repeated_none (w ∷ before) ws e) (ap (mentions ws) same ∙ mentions-at ws k h))

-- if no word repeats, words with one name have one number
pub one_number : (before ws : List Word) (j k : ℕ) → repeated before ws ≡ [] → j < length ws → k < length ws → bytes_at ws j ≡ bytes_at ws k → j ≡ k
one_number before [] j k e g h same = absurd (omega arith)
one_number before (w ∷ ws) zero zero e g h same = refl
one_number before (w ∷ ws) zero (suc k) e g h same = absurd (no_later before ws w k (first_kept before ws w e) (omega arith) same)
one_number before (w ∷ ws) (suc j) zero e g h same = absurd (no_later before ws w j (first_kept before ws w e) (omega arith) (sym same))
one_number before (w ∷ ws) (suc j) (suc k) e g h same = ap (λ (n : ℕ). suc n)
    (one_number (w ∷ before) ws j k (first_kept before ws w e) (omega arith) (omega arith) same)

module _ (y : Spec) (kept : fault y ≡ None) where
  kept_lists : Every (λ b. b.words ≡ []) (all_rules y)
  kept_lists = all_kept (all_rules y) kept

  -- distinct symbols have distinct names
  pub symbols_differ : (j k : ℕ) → j < length (symbols y) → k < length (symbols y) → name_of y (Symbol j) ≡ name_of y (Symbol k) → j ≡ k
  symbols_differ j k g h same =
      let long : length (names (symbols y)) ≡ length (symbols y) = length-map (symbols y) (λ d. d.name) in
      one_number [] (names (symbols y)) j k kept_lists.1.0 (omega arith) (omega arith) same

  -- distinct variables have distinct names
  pub variables_differ : (j k : ℕ) → j < length (variable_words y.variables) → k < length (variable_words y.variables)
      → name_of y (Variable j) ≡ name_of y (Variable k) → j ≡ k
  variables_differ j k g h same = one_number (names (symbols y)) (variable_words y.variables) j k kept_lists.1.1.0 g h same

  -- no variable has a symbol's name
  pub no_shared_name : (j k : ℕ) → j < length (symbols y) → k < length (variable_words y.variables) → name_of y (Symbol j) ≡ name_of y (Variable k) → ⊥
  no_shared_name j k g h same =
      let long : length (names (symbols y)) ≡ length (symbols y) = length-map (symbols y) (λ d. d.name) in
      cc (sym (mentions-at (names (symbols y)) j (omega arith))
      ∙ ap (mentions (names (symbols y))) same
      ∙ not_before (names (symbols y)) (variable_words y.variables) (name_of y (Variable k))
      (repeated_none (names (symbols y)) (variable_words y.variables) kept_lists.1.1.0) (mentions-at (variable_words y.variables) k h))

  -- each word of a term has the number of arguments that it is declared with
  pub all_filled : Every (λ t. is_filled y t ≡ true) (all_terms y)
  all_filled = filled_each (all_terms y) kept_lists.1.1.1.1.1.0
    where
      filled_each : (ts : List Term) → heads (filter (λ t. not (is_filled y t)) ts) ≡ [] → Every (λ t. is_filled y t ≡ true) ts
      filled_each [] e = tt
      filled_each (t ∷ ts) e = by_test (is_filled y t) refl e (λ h. filled_each ts h)
        where
          by_test : (b : Bool) → is_filled y t ≡ b
              → heads (cond (not b) (t ∷ filter (λ u. not (is_filled y u)) ts) (filter (λ u. not (is_filled y u)) ts)) ≡ []
              → (heads (filter (λ u. not (is_filled y u)) ts) ≡ [] → Every (λ u. is_filled y u ≡ true) ts)
              → Every (λ u. is_filled y u ≡ true) (t ∷ ts)
          by_test true h e later = (h, later e)
          by_test false h e later = absurd (cc e)

  -- the head of each left-hand side is an operator
  pub operators_head : Every (λ w. mentions (names y.operators) w.bytes ≡ true) (map (λ r. head r.left) y.rules)
  operators_head = missing_none (names y.operators) (map (λ r. head r.left) y.rules) kept_lists.1.1.1.1.1.1.1.0

  -- the variables of a right-hand side and of conditions occur in the left-hand side
  pub variables_bound : Every (λ r. Every (λ w. mentions (heads (subterms r.left)) w.bytes ≡ true)
      (variables_among y (heads (everywhere (r.right ∷ condition_terms r.conditions))))) y.rules
  variables_bound = bound_each y.rules kept_lists.1.1.1.1.1.1.1.1.1.0
    where
      nothing_left : (xs zs : List Word) → xs ++ zs ≡ [] → xs ≡ []
      nothing_left [] zs e = refl
      nothing_left (x ∷ xs) zs e = absurd (cc e)

      nothing_right : (xs zs : List Word) → xs ++ zs ≡ [] → zs ≡ []
      nothing_right [] zs e = e
      nothing_right (x ∷ xs) zs e = absurd (cc e)

      bound_each : (rs : List Rule) → flat_map (λ r. missing (heads (subterms r.left))
          (variables_among y (heads (everywhere (r.right ∷ condition_terms r.conditions))))) rs ≡ []
          → Every (λ r. Every (λ w. mentions (heads (subterms r.left)) w.bytes ≡ true)
          (variables_among y (heads (everywhere (r.right ∷ condition_terms r.conditions))))) rs
      bound_each [] e = tt
      bound_each (r ∷ rs) e = (
        missing_none (heads (subterms r.left)) (variables_among y (heads (everywhere (r.right ∷ condition_terms r.conditions))))
            (nothing_left _ _ e),
        bound_each rs (nothing_right _ _ e),
      )

  -- no variable occurs in the terms to evaluate
  pub no_free_variable : variables_among y (heads (everywhere y.terms)) ≡ []
  no_free_variable = kept_lists.1.1.1.1.1.1.1.1.1.1.0
