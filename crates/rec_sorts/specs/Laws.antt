-- Properties of evaluation: its equations, its cost, and its agreement with rewriting.
use Rattle.std.specs.Prelude.{ℕ, zero, suc, ◌-◌, ◌≡◌, ◌≤◌, ◌<◌, List, [], ◌∷◌, Option, Some, None}
use Rattle.std.specs.Prelude.{IsSome, MatchBool, true, not}
use Rattle.rx_term.specs.Tree.{Tree, Trees, Appl, none, more}
use Rattle.rec_syntax.specs.Syntax.{Term, Terms, Apply, Spec}
use Rattle.rec_sorts.specs.Lookup.{is_variable, mentions, names}
use Rattle.rx_term.specs.Name.{plain_name}
use Rattle.rec_sorts.specs.SpecRules.{fault}
use Rattle.rec_sorts.specs.Binding.{Substitution, value_of, instance, binds, tree_of}
use Rattle.rec_sorts.specs.TermRules.{nodes, elements, broken_by_terms, broken_element}
use Rattle.rec_sorts.specs.Evaluation.{Done, Over, Evaluator, evaluate, call, first_rule, Eval}
use Rattle.rec_sorts.specs.Evaluation.{term_of}

-- MeetsEquations y eval: `eval` satisfies the equations of evaluation, in which calls are evaluated
-- by `eval` itself
abbrev pub MeetsEquations : Spec → Evaluator → Type 0
MeetsEquations y eval = (n : ℕ) (s : Substitution) (t : Term)
    → eval n s t ≡ evaluate (call y eval) n s t

-- evaluation satisfies its equations, and no other evaluator does
abbrev pub OneEvaluator : Type 0
OneEvaluator = (y : Spec) → MeetsEquations y (Eval y)
    × ((eval : Evaluator) → MeetsEquations y eval → (n : ℕ) (s : Substitution) (t : Term)
    → eval n s t ≡ Eval y n s t)

-- the cost of a value: with at least as many steps the same value is reached at the same cost, and
-- with fewer steps the limit is reached
abbrev pub CostLaw : Type 0
CostLaw = (y : Spec) (n : ℕ) (s : Substitution) (t : Term) (v : Tree) (left : ℕ)
    → Eval y n s t ≡ Done v left →
    (left ≤ n)
    × ((m : ℕ) → n - left ≤ m → Eval y m s t ≡ Done v (m - (n - left)))
    × ((m : ℕ) → m < n - left → Eval y m s t ≡ Over)

-- fired y n u: the instance of the right-hand side of the first rule that applies to `u`, if one
-- does within the step limit
abbrev pub fired : Spec → ℕ → Tree → Option Tree
fired y n u = elim (first_rule y (Eval y) y.rules n u) [
  | Done found left ↦ elim found [ Some m ↦ Some (instance m.values m.rule.right) | None ↦ None ]
  | Over ↦ None
]

-- step y n t: one rewrite, of the first redex in post-order
abbrev mutual
  pub step : Spec → ℕ → Tree → Option Tree
  step y n (Appl name quoted args anns) = elim (step_all y n args) [
    | Some changed ↦ Some (Appl name quoted changed anns)
    | None ↦ fired y n (Appl name quoted args anns)
  ]
  step y n t = None

  pub step_all : Spec → ℕ → Trees → Option Trees
  step_all y n none = None
  step_all y n (more t ts) = elim (step y n t) [
    | Some changed ↦ Some (more changed ts)
    | None ↦ elim (step_all y n ts) [ Some changed ↦ Some (more t changed) | None ↦ None ]
  ]

-- Steps y n k t v: `k` rewrites lead from `t` to `v`
abbrev pub Steps : Spec → ℕ → ℕ → Tree → Tree → Type 0
Steps y n zero t v = t ≡ v
Steps y n (suc k) t v = (u : Tree) × (step y n t ≡ Some u) × Steps y n k u v

-- Every P xs: `P` holds for each element
abbrev pub Every : {X : Type 0} → (X → Type 0) → List X → Type 0
Every P [] = Unit {0}
Every P (x ∷ xs) = P x × Every P xs

-- no rule has conditions
abbrev pub Unconditional : Spec → Type 0
Unconditional y = Every (λ r. r.conditions ≡ []) y.rules

-- in a specification that violates no rule, the result of an evaluation is reached by rewriting and
-- is a normal form
abbrev pub RewritingLaw : Type 0
RewritingLaw = (y : Spec) → fault y ≡ None → (n : ℕ) (t : Term) (v : Tree) (left : ℕ)
    → Eval y n [] t ≡ Done v left →
    ((k : ℕ) × (k ≤ n - left) × Steps y n k (tree_of t) v × (Unconditional y → k ≡ n - left))
    × ((m : ℕ) → Every (λ u. fired y m u ≡ None) (nodes v))
    × (Unconditional y → Every (λ u. Every (λ r. binds y r.left u ≡ None) y.rules) (nodes v))

-- BindsVariables y s t: the substitution binds each variable of the term, and no symbol of it
abbrev mutual
  pub BindsVariables : Spec → Substitution → Term → Type 0
  BindsVariables y s (Apply w ts) = MatchBool (is_variable y w.bytes)
      ((v : Tree) × (value_of s w.bytes ≡ Some v))
      ((value_of s w.bytes ≡ None) × BindsVariablesAll y s ts)

  pub BindsVariablesAll : Spec → Substitution → Terms → Type 0
  BindsVariablesAll y s Terms.none = Unit {0}
  BindsVariablesAll y s (Terms.more t ts) = BindsVariables y s t × BindsVariablesAll y s ts

-- IsPartOf s s': each binding of `s` is a binding of `s'`
abbrev pub IsPartOf : Substitution → Substitution → Type 0
IsPartOf s s' = (name : List ℕ) (v : Tree) → value_of s name ≡ Some v → value_of s' name ≡ Some v

-- the substitution that matching finds makes the left-hand side equal to the tree; if some
-- substitution does, matching finds one that is a part of it
abbrev pub BindingLaw : Type 0
BindingLaw = (y : Spec) (l : Term) (u : Tree) →
    ((s : Substitution) → binds y l u ≡ Some s → instance s l ≡ u)
    × ((s' : Substitution) → BindsVariables y s' l → instance s' l ≡ u
    → (s : Substitution) × (binds y l u ≡ Some s) × IsPartOf s s')

-- IsBuilt y t: the tree is a constructor term
abbrev mutual
  pub IsBuilt : Spec → Tree → Type 0
  IsBuilt y (Appl name quoted args anns) = (mentions (names y.constructors) name ≡ true)
      × (quoted ≡ not (plain_name name)) × (anns ≡ none) × AreBuilt y args
  IsBuilt y t = ⊥

  pub AreBuilt : Spec → Trees → Type 0
  AreBuilt y none = Unit {0}
  AreBuilt y (more t ts) = IsBuilt y t × AreBuilt y ts

-- in a specification that violates no rule, a constructor term evaluates to itself, in no steps
abbrev pub BuiltLaw : Type 0
BuiltLaw = (y : Spec) → fault y ≡ None → (n : ℕ) (v : Tree) → IsBuilt y v
    → Eval y n [] (term_of v) ≡ Done v n

-- if the elements of a text of terms violate a rule, one of them violates it on its own
abbrev pub ElementLaw : Type 0
ElementLaw = (y : Spec) (t : Tree) → IsSome (elements t) → IsSome (broken_by_terms y t)
    → IsSome (broken_element y t)
