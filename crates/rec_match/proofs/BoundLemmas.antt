-- What a left side's variables are bound to as its names meet the names of a tree, in whichever order its arguments are walked.
use Rattle.std.proofs.Common.{refl, sym, ap, subst, arith, ◌∙◌}
use Rattle.std.proofs.lemmas.Bool.{eqb-true, eq-eqb}
use Rattle.std.specs.Prelude.{ℕ, ◌≡◌, Bool, true, false, ◌&&◌, List, [], Option, Some, None, nat_eq, MatchBool}
use Rattle.rx_term.specs.Tree.{Tree, Trees, none, more, tree_eq, count_of}
use Rattle.rx_term.proofs.TreeLemmas.{same_tree, tree_eq_same}
use Rattle.rec_syntax.specs.Tokens.{Word}
use Rattle.rec_syntax.specs.Syntax.{Term, Terms, Apply, Spec}
use Rattle.rec_sorts.specs.Lookup.{is_variable, count}
use Rattle.rec_sorts.specs.TermRules.{arguments}
use Rattle.rec_sorts.specs.Binding.{Substitution, value_of, application, instance, instances, binds, bind_first, parts_at_variables, parts_at_variables_all}
use Rattle.rec_sorts.specs.Laws.{BindsVariables, BindsVariablesAll, IsPartOf}
use Rattle.rec_match.specs.Bound.{with_one, opened, bound}
use Rattle.rec_sorts.proofs.BindingLemmas.{append_keeps, append_finds, append_is, bind_first_binds, is_bound}

-- only variables are bound
abbrev pub BindsOnly : Spec → Substitution → Type 0
BindsOnly y s = (name : List ℕ) (v : Tree) → value_of s name ≡ Some v → is_variable y name ≡ true

pub with_one_only : (y : Spec) (s : Substitution) (name : List ℕ) (u : Tree) → is_variable y name ≡ true → BindsOnly y s → BindsOnly y (with_one s name u)
with_one_only y s name u variable h = λ x v e. append_is s (record { name = name; value = u }) x v e (is_variable y x ≡ true) (λ g. h x v g)
    (λ is_x is_v. subst (λ n. is_variable y n ≡ true) is_x variable)

pub with_one_part : (s t : Substitution) (name : List ℕ) (u : Tree) → IsPartOf s t → value_of t name ≡ Some u → IsPartOf (with_one s name u) t
with_one_part s t name u part e = λ x v g. append_is s (record { name = name; value = u }) x v g (value_of t x ≡ Some v) (λ h. part x v h)
    (λ is_x is_v. subst (λ n. value_of t n ≡ Some v) is_x (e ∙ ap Some is_v))

-- what a name is not bound to if it is no variable
pub unbound : (y : Spec) (s : Substitution) → BindsOnly y s → (name : List ℕ) → is_variable y name ≡ false → value_of s name ≡ None
unbound y s only name e = by (value_of s name) refl
  where
    by : (o : Option Tree) → value_of s name ≡ o → value_of s name ≡ None
    by None h = h
    by (Some v) h = absurd (cc (sym e ∙ only name v h))

pub and_parts : (a b : Bool) → a && b ≡ true → (a ≡ true) × (b ≡ true)
and_parts true b e = (refl, e)
and_parts false b e = absurd (cc e)

pub opened_is : (name : List ℕ) (k : ℕ) (u : Tree) (us : Trees) → opened name k u ≡ Some us → (application name us ≡ u) × (count_of us ≡ k)
opened_is name k u us e = by (tree_eq (application name (arguments u)) u && nat_eq (count_of (arguments u)) k) refl e
  where
    by : (b : Bool) → tree_eq (application name (arguments u)) u && nat_eq (count_of (arguments u)) k ≡ b
        → ◌≡◌ {A = Option Trees} (elim b [ true ↦ Some (arguments u) | false ↦ None ]) (Some us) → (application name us ≡ u) × (count_of us ≡ k)
    by false h e = absurd (cc e)
    by true h e =
        let is : arguments u ≡ us = cc e in
        let both = and_parts (tree_eq (application name (arguments u)) u) (nat_eq (count_of (arguments u)) k) h in (
          subst (λ x. application name x ≡ u) is (same_tree (application name (arguments u)) u both.0),
          subst (λ x. count_of x ≡ k) is (eqb-true (count_of (arguments u)) k both.1),
        )

pub opened_same : (name : List ℕ) (k : ℕ) (us : Trees) → count_of us ≡ k → opened name k (application name us) ≡ Some us
opened_same name k us e = by (tree_eq (application name us) (application name us)) (nat_eq (count_of us) k) (tree_eq_same (application name us))
    (eq-eqb (count_of us) k e)
  where
    by : (a b : Bool) → a ≡ true → b ≡ true → ◌≡◌ {A = Option Trees} (elim (a && b) [ true ↦ Some us | false ↦ None ]) (Some us)
    by a b e f = ap (λ c. by_test (c && b)) e ∙ ap by_test f
      where
        by_test : Bool → Option Trees
        by_test c = elim c [ true ↦ Some us | false ↦ None ]

abbrev pub instance_by : Substitution → Word → Terms → Option Tree → Tree
instance_by s w ts o = elim o [ Some v ↦ v | None ↦ application w.bytes (instances s ts) ]

mutual
  -- with more bound, a term still has its variables bound, and the same instance
  pub grown : (y : Spec) (s s' : Substitution) → IsPartOf s s' → BindsOnly y s' → (t : Term) → BindsVariables y s t
      → BindsVariables y s' t × (instance s' t ≡ instance s t)
  grown y s s' part only (Apply w ts) h = by (is_variable y w.bytes) refl h (λ k. grown_all y s s' part only ts k)
    where
      by : (b : Bool) → is_variable y w.bytes ≡ b → MatchBool b ((v : Tree) × (value_of s w.bytes ≡ Some v))
          ((value_of s w.bytes ≡ None) × BindsVariablesAll y s ts)
          → (BindsVariablesAll y s ts → BindsVariablesAll y s' ts × (instances s' ts ≡ instances s ts))
          → MatchBool b ((v : Tree) × (value_of s' w.bytes ≡ Some v)) ((value_of s' w.bytes ≡ None) × BindsVariablesAll y s' ts)
          × (instance s' (Apply w ts) ≡ instance s (Apply w ts))
      by true e h later = ((h.0, part w.bytes h.0 h.1), ap (instance_by s' w ts) (part w.bytes h.0 h.1) ∙ sym (ap (instance_by s w ts) h.1))
      by false e h later =
          let k : BindsVariablesAll y s' ts × (instances s' ts ≡ instances s ts) = later h.1 in
          let no : value_of s' w.bytes ≡ None = unbound y s' only w.bytes e in
          ((no, k.0), ap (instance_by s' w ts) no ∙ ap (application w.bytes) k.1 ∙ sym (ap (instance_by s w ts) h.0))

  pub grown_all : (y : Spec) (s s' : Substitution) → IsPartOf s s' → BindsOnly y s' → (ts : Terms) → BindsVariablesAll y s ts
      → BindsVariablesAll y s' ts × (instances s' ts ≡ instances s ts)
  grown_all y s s' part only Terms.none h = (tt, refl)
  grown_all y s s' part only (Terms.more t ts) h =
      let a = grown y s s' part only t h.0 in
      let b = grown_all y s s' part only ts h.1 in
      ((a.0, b.0), ap (λ x. more x (instances s' ts)) a.1 ∙ ap (more (instance s t)) b.1)

-- what a walk comes to: it binds more, and variables alone, and makes the term the tree
pub record Walked (y : Spec) (t : Term) (u : Tree) (s s' : Substitution) : Type 0 where
  pub part : IsPartOf s s'
  pub only : BindsOnly y s'
  pub binding : BindsVariables y s' t
  pub is : instance s' t ≡ u

pub record WalkedAll (y : Spec) (ts : Terms) (us : Trees) (s s' : Substitution) : Type 0 where
  pub part : IsPartOf s s'
  pub only : BindsOnly y s'
  pub binding : BindsVariablesAll y s' ts
  pub is : instances s' ts ≡ us

abbrev pub binding_at : Spec → Substitution → Word → Terms → Bool → Type 0
binding_at y s w ts b = MatchBool b ((v : Tree) × (value_of s w.bytes ≡ Some v)) ((value_of s w.bytes ≡ None) × BindsVariablesAll y s ts)

pub walked_bound : (y : Spec) (w : Word) (ts : Terms) (u : Tree) (s s' : Substitution) → is_variable y w.bytes ≡ true → BindsOnly y s
    → bound s w.bytes u ≡ Some s'
    → IsPartOf s s' × BindsOnly y s' × (value_of s' w.bytes ≡ Some u)
walked_bound y w ts u s s' variable only e = by (value_of s w.bytes) refl e
  where
    by_test : (v : Tree) (b : Bool) → tree_eq v u ≡ b → value_of s w.bytes ≡ Some v
        → ◌≡◌ {A = Option Substitution} (elim b [ true ↦ Some s | false ↦ None ]) (Some s') → IsPartOf s s' × BindsOnly y s' × (value_of s' w.bytes ≡ Some u)
    by_test v true h is e =
        let same : s ≡ s' = cc e in
        subst (λ r. IsPartOf s r × BindsOnly y r × (value_of r w.bytes ≡ Some u)) same ((λ x v g. g), only, is ∙ ap Some (same_tree v u h))
    by_test v false h is e = absurd (cc e)

    by : (o : Option Tree) → value_of s w.bytes ≡ o → ◌≡◌ {A = Option Substitution}
        (elim o [ None ↦ Some (with_one s w.bytes u) | Some v ↦ elim (tree_eq v u) [ true ↦ Some s | false ↦ None ] ]) (Some s')
        → IsPartOf s s' × BindsOnly y s' × (value_of s' w.bytes ≡ Some u)
    by None h e =
        let same : with_one s w.bytes u ≡ s' = cc e in
        subst (λ r. IsPartOf s r × BindsOnly y r × (value_of r w.bytes ≡ Some u)) same (
          (λ x v g. append_keeps s (record { name = w.bytes; value = u }) x v g),
          with_one_only y s w.bytes u variable only,
          append_finds s (record { name = w.bytes; value = u }) h,
        )
    by (Some v) h e = by_test v (tree_eq v u) refl h e

-- a walk comes to a substitution, a part of a given one
abbrev pub Comes : Option Substitution → Substitution → Type 0
Comes o t = (s' : Substitution) × (o ≡ Some s') × IsPartOf s' t

pub counted : (s : Substitution) (ts : Terms) → count_of (instances s ts) ≡ count ts
counted s Terms.none = refl
counted s (Terms.more t ts) = let e = counted s ts in omega arith

pub bound_comes : (s t : Substitution) (name : List ℕ) (u : Tree) → IsPartOf s t → value_of t name ≡ Some u → Comes (bound s name u) t
bound_comes s t name u part e = by (value_of s name) refl
  where
    by_test : (b : Bool) → b ≡ true → Comes (elim b [ true ↦ Some s | false ↦ None ]) t
    by_test true h = (s, refl, part)
    by_test false h = absurd (cc h)

    by : (o : Option Tree) → value_of s name ≡ o
        → Comes (elim o [ None ↦ Some (with_one s name u) | Some v ↦ elim (tree_eq v u) [ true ↦ Some s | false ↦ None ] ]) t
    by None h = (with_one s name u, refl, with_one_part s t name u part e)
    by (Some v) h =
        let same : v ≡ u = cc (sym (part name v h) ∙ e) in
        by_test (tree_eq v u) (ap (λ x. tree_eq x u) same ∙ tree_eq_same u)

-- a name is bound at the end, unless it is bound before: what was bound stays
pub bind_first_keeps : (s : Substitution) (name : List ℕ) (u : Tree) → IsPartOf s (bind_first s name u)
bind_first_keeps s name u = by (value_of s name)
  where
    by : (o : Option Tree) → IsPartOf s (elim o [ Some v ↦ s | None ↦ with_one s name u ])
    by None = λ x v f. append_keeps s (record { name = name; value = u }) x v f
    by (Some w) = λ x v f. f

pub bind_first_only : (y : Spec) (s : Substitution) (name : List ℕ) (u : Tree) → is_variable y name ≡ true → BindsOnly y s → BindsOnly y (bind_first s name u)
bind_first_only y s name u variable only = by (value_of s name)
  where
    by : (o : Option Tree) → BindsOnly y (elim o [ Some v ↦ s | None ↦ with_one s name u ])
    by None = with_one_only y s name u variable only
    by (Some w) = only

abbrev pub parts_at : Spec → Substitution → Word → Terms → Tree → Bool → Substitution
parts_at y s w ts u b = elim b [ true ↦ bind_first s w.bytes u | false ↦ parts_at_variables_all y s ts (arguments u) ]

mutual
  pub parts_keep : (y : Spec) (s : Substitution) (t : Term) (u : Tree) → IsPartOf s (parts_at_variables y s t u)
  parts_keep y s (Apply w ts) u = by (is_variable y w.bytes) (parts_keep_all y s ts (arguments u))
    where
      by : (b : Bool) → IsPartOf s (parts_at_variables_all y s ts (arguments u)) → IsPartOf s (parts_at y s w ts u b)
      by true later = bind_first_keeps s w.bytes u
      by false later = later

  pub parts_keep_all : (y : Spec) (s : Substitution) (ts : Terms) (us : Trees) → IsPartOf s (parts_at_variables_all y s ts us)
  parts_keep_all y s Terms.none us = λ x v f. f
  parts_keep_all y s (Terms.more t ts) none = λ x v f. f
  parts_keep_all y s (Terms.more t ts) (more u us) = λ x v f. parts_keep_all y (parts_at_variables y s t u) ts us x v (parts_keep y s t u x v f)

mutual
  pub parts_only : (y : Spec) (s : Substitution) (t : Term) (u : Tree) → BindsOnly y s → BindsOnly y (parts_at_variables y s t u)
  parts_only y s (Apply w ts) u only = by (is_variable y w.bytes) refl (parts_only_all y s ts (arguments u) only)
    where
      by : (b : Bool) → is_variable y w.bytes ≡ b → BindsOnly y (parts_at_variables_all y s ts (arguments u)) → BindsOnly y (parts_at y s w ts u b)
      by true variable later = bind_first_only y s w.bytes u variable only
      by false symbol later = later

  pub parts_only_all : (y : Spec) (s : Substitution) (ts : Terms) (us : Trees) → BindsOnly y s → BindsOnly y (parts_at_variables_all y s ts us)
  parts_only_all y s Terms.none us only = only
  parts_only_all y s (Terms.more t ts) none only = only
  parts_only_all y s (Terms.more t ts) (more u us) only = parts_only_all y (parts_at_variables y s t u) ts us (parts_only y s t u only)

mutual
  -- the parts of an instance bind all variables
  pub reach : (y : Spec) (g : Substitution) → BindsOnly y g → (t : Term) (s s' : Substitution) → BindsOnly y s'
      → IsPartOf (parts_at_variables y s t (instance g t)) s' → BindsVariables y s' t
  reach y g only_g (Apply w ts) s s' only part = by (is_variable y w.bytes) refl part (λ f. reach_all y g only_g ts s s' only f)
    where
      by : (b : Bool) → is_variable y w.bytes ≡ b → IsPartOf (parts_at y s w ts (instance g (Apply w ts)) b) s'
          → (IsPartOf (parts_at_variables_all y s ts (instances g ts)) s' → BindsVariablesAll y s' ts) → binding_at y s' w ts b
      by true variable part later =
          let k = bind_first_binds s w.bytes (instance g (Apply w ts)) in
          (k.0, part w.bytes k.0 k.1)
      by false symbol part later =
          let is : instance g (Apply w ts) ≡ application w.bytes (instances g ts) = ap (instance_by g w ts) (unbound y g only_g w.bytes symbol) in
          (unbound y s' only w.bytes symbol, later (subst (λ u. IsPartOf (parts_at_variables_all y s ts (arguments u)) s') is part))

  pub reach_all : (y : Spec) (g : Substitution) → BindsOnly y g → (ts : Terms) (s s' : Substitution) → BindsOnly y s'
      → IsPartOf (parts_at_variables_all y s ts (instances g ts)) s' → BindsVariablesAll y s' ts
  reach_all y g only_g Terms.none s s' only part = tt
  reach_all y g only_g (Terms.more t ts) s s' only part = (
    reach y g only_g t s s' only (λ x v f. part x v (parts_keep_all y (parts_at_variables y s t (instance g t)) ts (instances g ts) x v f)),
    reach_all y g only_g ts (parts_at_variables y s t (instance g t)) s' only part,
  )

-- what makes the left-hand side the tree binds its variables, and variables alone
pub binds_variables : (y : Spec) (l : Term) (u : Tree) (s : Substitution) → binds y l u ≡ Some s → BindsVariables y s l
binds_variables y l u s e =
    let parts : Substitution = parts_at_variables y [] l u in
    let known : (parts ≡ s) × (tree_eq (instance parts l) u ≡ true) = is_bound parts s (tree_eq (instance parts l) u) e in
    let is : instance parts l ≡ u = same_tree (instance parts l) u known.1 in
    let only : BindsOnly y parts = parts_only y [] l u (λ x v f. absurd (cc f)) in
    subst (λ r. BindsVariables y r l) known.0
    (reach y parts only l [] parts only (subst (λ x. IsPartOf (parts_at_variables y [] l x) parts) (sym is) (λ x v f. f)))
