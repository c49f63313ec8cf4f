-- Trees built of constructors are their own values.
use Rattle.std.proofs.Common.{refl, sym, ap, subst, ◌∙◌}
use Rattle.std.specs.Prelude.{ℕ, ◌≡◌, Bool, true, false, ◌||◌, not, List, [], ◌∷◌, ◌++◌, Option, Some, None, map, bytes_eq}
use Rattle.rx_term.specs.Tree.{Tree, Trees, Int, Appl, Items, Hole, none, more, tree_eq}
use Rattle.rx_term.specs.Name.{plain_name}
use Rattle.rec_syntax.specs.Tokens.{Word}
use Rattle.rec_syntax.specs.Syntax.{Term, Terms, Apply, Declaration, Rule, Spec, head}
use Rattle.rec_sorts.specs.Lookup.{mentions, repeated, names, is_variable}
use Rattle.rec_sorts.specs.SpecRules.{all_rules, fault}
use Rattle.rec_sorts.specs.TermRules.{arguments}
use Rattle.rec_sorts.specs.Binding.{Substitution, value_of, application, instance, instances, binds, bind_first, parts_at_variables, parts_at_variables_all}
use Rattle.rec_sorts.specs.Evaluation.{Done, Eval, EvalAll, Try, term_of, terms_of}
use Rattle.rec_sorts.specs.Laws.{Every, IsBuilt, AreBuilt, BuiltLaw}
use Rattle.rec_sorts.proofs.KeptLemmas.{all_kept, repeated_none, missing_none, not_before, left_sides_apply}
use Rattle.rec_sorts.proofs.BindingLemmas.{append_is, binding_law}
use Rattle.rec_sorts.proofs.RuleLemmas as R

or_left : (a b : Bool) → a || b ≡ false → a ≡ false
or_left true b e = absurd (cc e)
or_left false b e = refl

or_right : (a b : Bool) → a || b ≡ false → b ≡ false
or_right true b e = absurd (cc e)
or_right false b e = e

-- no word of the second list repeats one of the first
apart : (before cs os : List Word) → repeated before (cs ++ os) ≡ [] → Every (λ w. mentions cs w.bytes ≡ false) os
apart before cs os e = only os (walk before cs e)
  where
    only : (ws : List Word) → Every (λ w. (mentions before w.bytes ≡ false) × (mentions cs w.bytes ≡ false)) ws → Every (λ w. mentions cs w.bytes ≡ false) ws
    only [] h = tt
    only (w ∷ ws) h = (h.0.1, only ws h.1)

    unseen : (before : List Word) (ws : List Word) → Every (λ w. mentions before w.bytes ≡ false) ws
        → Every (λ w. (mentions before w.bytes ≡ false) × (mentions [] w.bytes ≡ false)) ws
    unseen before [] h = tt
    unseen before (w ∷ ws) h = ((h.0, refl), unseen before ws h.1)

    move : (before : List Word) (c : Word) (cs ws : List Word) → Every (λ w. (mentions (c ∷ before) w.bytes ≡ false) × (mentions cs w.bytes ≡ false))
        ws → Every (λ w. (mentions before w.bytes ≡ false) × (mentions (c ∷ cs) w.bytes ≡ false)) ws
    move before c cs [] h = tt
    move before c cs (w ∷ ws) h =
        let at : bytes_eq c.bytes w.bytes ≡ false = or_left (bytes_eq c.bytes w.bytes) (mentions before w.bytes) h.0.0 in
        ((or_right (bytes_eq c.bytes w.bytes) (mentions before w.bytes) h.0.0, ap (λ b. b || mentions cs w.bytes) at ∙ h.0.1), move before c cs ws h.1)

    by_test : (before : List Word) (c : Word) (cs : List Word) (b : Bool)
        → ◌≡◌ {A = List Word} (elim b [ true ↦ c ∷ repeated before (cs ++ os) | false ↦ repeated (c ∷ before) (cs ++ os) ]) []
        → (repeated (c ∷ before) (cs ++ os) ≡ [] → Every (λ w. (mentions (c ∷ before) w.bytes ≡ false) × (mentions cs w.bytes ≡ false)) os)
        → Every (λ w. (mentions before w.bytes ≡ false) × (mentions (c ∷ cs) w.bytes ≡ false)) os
    by_test before c cs true e later = absurd (cc e)
    by_test before c cs false e later = move before c cs os (later e)

    walk : (before cs : List Word) → repeated before (cs ++ os) ≡ [] → Every (λ w. (mentions before w.bytes ≡ false) × (mentions cs w.bytes ≡ false)) os
    walk before [] e = unseen before os (repeated_none before os e)
    walk before (c ∷ cs) e = by_test before c cs (mentions before c.bytes) e (walk (c ∷ before) cs)

names_append : (cs os : List Declaration) → names (cs ++ os) ≡ names cs ++ names os
names_append [] os = refl
names_append (c ∷ cs) os = ap (λ ws. c.name ∷ ws) (names_append cs os)

-- only variables are bound
Binds_only : Spec → Substitution → Type 0
Binds_only y s = (name : List ℕ) (v : Tree) → value_of s name ≡ Some v → is_variable y name ≡ true

bind_only : (y : Spec) (s : Substitution) (name : List ℕ) (u : Tree) → is_variable y name ≡ true → Binds_only y s → Binds_only y (bind_first s name u)
unfolding Binds_only
bind_only y s name u variable h = by_value (value_of s name)
  where
    by_value : (o : Option Tree) → (x : List ℕ) (v : Tree) → value_of (elim o [ Some w ↦ s | None ↦ s ++ (record { name = name; value = u } ∷ []) ])
        x ≡ Some v → is_variable y x ≡ true
    by_value (Some w) x v e = h x v e
    by_value None x v e = append_is s (record { name = name; value = u }) x v e (is_variable y x ≡ true) (λ g. h x v g) (λ is_x is_v.
        subst (λ n. is_variable y n ≡ true) is_x variable)

abbrev parts_by : Spec → Substitution → Word → Terms → Tree → Bool → Substitution
parts_by y s w ts u b = elim b [ true ↦ bind_first s w.bytes u | false ↦ parts_at_variables_all y s ts (arguments u) ]

only_at : (y : Spec) (s : Substitution) (w : Word) (ts : Terms) (u : Tree) (b : Bool) → is_variable y w.bytes ≡ b → Binds_only y s
    → Binds_only y (parts_at_variables_all y s ts (arguments u)) → Binds_only y (parts_by y s w ts u b)
only_at y s w ts u true e h later = bind_only y s w.bytes u e h
only_at y s w ts u false e h later = later

mutual
  parts_only : (y : Spec) (s : Substitution) (l : Term) (u : Tree) → Binds_only y s → Binds_only y (parts_at_variables y s l u)
  parts_only y s (Apply w ts) u h = only_at y s w ts u (is_variable y w.bytes) refl h (parts_all_only y s ts (arguments u) h)

  parts_all_only : (y : Spec) (s : Substitution) (ts : Terms) (us : Trees) → Binds_only y s → Binds_only y (parts_at_variables_all y s ts us)
  parts_all_only y s Terms.none us h = h
  parts_all_only y s (Terms.more t ts) none h = h
  parts_all_only y s (Terms.more t ts) (more u us) h = parts_all_only y (parts_at_variables y s t u) ts us (parts_only y s t u h)

abbrev bound_if : Substitution → Bool → Option Substitution
bound_if s b = elim b [ true ↦ Some s | false ↦ None ]

bound_is : (s s' : Substitution) (b : Bool) → bound_if s b ≡ Some s' → s ≡ s'
bound_is s s' true e = cc
bound_is s s' false e = absurd (cc e)

abbrev instance_by : Substitution → Word → Terms → Option Tree → Tree
instance_by s w ts o = elim o [ Some v ↦ v | None ↦ application w.bytes (instances s ts) ]

name_of : Tree → List ℕ
name_of (Appl name quoted args anns) = name
name_of t = []

-- a left-hand side that is no variable has the head of the trees that it matches
same_head : (y : Spec) (l : Term) (name : List ℕ) (us : Trees) (s : Substitution) → is_variable y (head l).bytes ≡ false
    → binds y l (application name us) ≡ Some s → (head l).bytes ≡ name
unfolding name_of Binds_only
same_head y (Apply w ts) name us s no_variable e = ap name_of
    (sym (ap (instance_by s w ts) (unbound (value_of s w.bytes) refl)) ∙ (binding_law y (Apply w ts) (application name us)).0 s e)
  where
    parts : Substitution
    parts = parts_at_variables y [] (Apply w ts) (application name us)

    only : Binds_only y s
    only = subst (Binds_only y) (bound_is parts s (tree_eq (instance parts (Apply w ts)) (application name us)) e)
        (parts_only y [] (Apply w ts) (application name us) (λ x v f. absurd (cc f)))

    unbound : (o : Option Tree) → value_of s w.bytes ≡ o → value_of s w.bytes ≡ None
    unbound None f = f
    unbound (Some v) f = absurd (cc (sym no_variable ∙ only w.bytes v f))

-- no rule matches a constructor
no_rule : (y : Spec) (rs : List Rule) (n : ℕ) (name : List ℕ) (us : Trees) → mentions (names y.constructors) name ≡ true
    → Every (λ w. mentions (names y.constructors) w.bytes ≡ false) (names y.operators)
    → Every (λ w. mentions (names y.operators) w.bytes ≡ true) (map (λ r. head r.left) rs)
    → Every (λ r. is_variable y (head r.left).bytes ≡ false) rs → Try y rs n (application name us) ≡ Done (application name us) n
no_rule y [] n name us constructor separate heads no_variables = R.try_none y n (application name us)
no_rule y (r ∷ rs) n name us constructor separate heads no_variables =
    R.try_no_match y r rs n (application name us) (unmatched (binds y r.left (application name us)) refl)
    ∙ no_rule y rs n name us constructor separate heads.1 no_variables.1
  where
    unmatched : (o : Option Substitution) → binds y r.left (application name us) ≡ o → binds y r.left (application name us) ≡ None
    unmatched None e = e
    unmatched (Some s) e =
        let is : (head r.left).bytes ≡ name = same_head y r.left name us s no_variables.0 e in
        let operator : mentions (names y.operators) name ≡ true = subst (λ x. mentions (names y.operators) x ≡ true) is heads.0 in
        absurd (cc (sym constructor ∙ not_before (names y.constructors) (names y.operators) name separate operator))

record Facts (y : Spec) : Type 0 where
  separate : Every (λ w. mentions (names y.constructors) w.bytes ≡ false) (names y.operators)
  heads : Every (λ w. mentions (names y.operators) w.bytes ≡ true) (map (λ r. head r.left) y.rules)
  no_variables : Every (λ r. is_variable y (head r.left).bytes ≡ false) y.rules

facts : (y : Spec) → fault y ≡ None → Facts y
facts y e =
    let kept : Every (λ b. b.words ≡ []) (all_rules y) = all_kept (all_rules y) e in
    record {
      separate = apart [] (names y.constructors) (names y.operators) (subst (λ ws. repeated [] ws ≡ []) (names_append y.constructors y.operators) kept.1.0);
      heads = missing_none (names y.operators) (map (λ r. head r.left) y.rules) kept.1.1.1.1.1.1.1.0;
      no_variables = left_sides_apply y e;
    }

same_tree : (name : List ℕ) (quoted : Bool) (args anns : Trees) → quoted ≡ not (plain_name name) → anns ≡ none
    → application name args ≡ Appl name quoted args anns
same_tree name quoted args anns e f = cc (e, f)

mutual
  built : (y : Spec) → Facts y → (n : ℕ) (v : Tree) → IsBuilt y v → Eval y n [] (term_of v) ≡ Done v n
  built y f n (Appl name quoted args anns) h =
      R.eval_application y n [] (record { at = 0; bytes = name }) (terms_of args) args n refl (all_built y f n args h.3)
      ∙ R.call_tries y n (application name args)
      ∙ no_rule y y.rules n name args h.0 f.separate f.heads f.no_variables
      ∙ ap (λ u. Done u n) (same_tree name quoted args anns h.1 h.2)
  built y f n (Int z anns) h = absurd h
  built y f n (Items items anns) h = absurd h
  built y f n (Hole inner anns) h = absurd h

  all_built : (y : Spec) → Facts y → (n : ℕ) (vs : Trees) → AreBuilt y vs → EvalAll y n [] (terms_of vs) ≡ Done vs n
  all_built y f n none h = R.all_none y n []
  all_built y f n (more v vs) h = R.all_more y n [] (term_of v) (terms_of vs) v n vs n (built y f n v h.0) (all_built y f n vs h.1)

pub built_law : BuiltLaw
built_law y e n v h = built y (facts y e) n v h
