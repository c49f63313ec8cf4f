-- What the words of the laws say of two worked specifications, and what the laws say at their edges.
use Rattle.std.proofs.Common.{refl, ap, subst, arith, ◌-◌}
use Rattle.std.specs.Prelude.{ℕ, suc, List, [], ◌∷◌, codes, ◌≡◌, true, false, Some, None}
use Rattle.rec_syntax.specs.Syntax.{Term, Spec}
use Rattle.rec_syntax.proofs.RowWords.{term}
use Rattle.rec_syntax.proofs.SpecRows.{add, conditional}
use Rattle.rx_term.specs.Tree.{Tree, Appl, none, more, tree_eq}
use Rattle.rec_sorts.specs.SpecRules.{fault}
use Rattle.rec_sorts.specs.Binding.{Substitution, tree_of}
use Rattle.rec_sorts.specs.Evaluation.{Done, Over, Eval}
use Rattle.rec_sorts.specs.Laws.{CostLaw, RewritingLaw, fired, step, Steps, Unconditional, BindsVariables, IsPartOf, IsBuilt}

abbrev z : Tree
z = Appl (codes "z") false none none

abbrev s : Tree → Tree
s t = Appl (codes "s") false (more t none) none

abbrev plus : Tree → Tree → Tree
plus t u = Appl (codes "plus") false (more t (more u none)) none

-- of two arguments that can be rewritten the left one is
left_argument_first : step add 1 (plus (plus z z) (plus z (s z))) ≡ Some (plus z (plus z (s z)))
unfolding Eval
left_argument_first = refl

-- an argument is rewritten before the head
argument_before_head : step add 1 (plus (s z) (plus z z)) ≡ Some (plus (s z) z)
unfolding Eval
argument_before_head = refl

right_argument : step add 1 (plus z (plus z (s z))) ≡ Some (plus z (s z))
unfolding Eval
right_argument = refl

-- below a constructor too
below_a_constructor : step add 1 (s (s (plus z z))) ≡ Some (s (s z))
unfolding Eval
below_a_constructor = refl

-- annotations stay
annotations_stay : step add 1 (Appl (codes "s") false (more (plus z z) none) (more z none)) ≡ Some (Appl (codes "s") false (more z none) (more z none))
unfolding Eval
annotations_stay = refl

no_step : step add 1 (s (s z)) ≡ None
unfolding Eval
no_step = refl

-- a rule that fires spends a step
no_budget : step add 0 (plus z z) ≡ None
unfolding Eval
no_budget = refl

-- the condition of the first rule fails, after one step for the rule and one within the condition
second_rule : fired conditional 3 (Appl (codes "f") false (more z none) none) ≡ Some (s z)
unfolding Eval
second_rule = refl

second_rule_over : fired conditional 2 (Appl (codes "f") false (more z none) none) ≡ None
unfolding Eval
second_rule_over = refl

three_steps : Steps add 1 3 (plus (s (s z)) (s z)) (s (s (s z)))
unfolding Eval
three_steps = (s (plus (s z) (s z)), refl, (s (s (plus z (s z))), refl, (s (s (s z)), refl, refl)))

-- without a step nothing changes
no_steps : Steps add 1 0 z (s z) → ⊥
no_steps e = let different : true ≡ false = ap (λ t. tree_eq t z) e in absurd (cc different)

no_conditions : Unconditional add
no_conditions = (refl, (refl, tt))

a_condition : Unconditional conditional → ⊥
a_condition h = absurd (cc h.0)

binds_a_variable : BindsVariables add (record { name = codes "X"; value = z } ∷ []) (term 0 "s" (term 2 "X" [] ∷ []))
binds_a_variable = (refl, ((z, refl), tt))

binds_no_variable : BindsVariables add [] (term 0 "s" (term 2 "X" [] ∷ [])) → ⊥
binds_no_variable h = absurd (cc h.1.0.1)

binds_a_symbol : BindsVariables add (record { name = codes "z"; value = z } ∷ []) (term 0 "z" []) → ⊥
binds_a_symbol h = absurd (cc h.0)

nothing_is_part : (t : Substitution) → IsPartOf [] t
nothing_is_part t name v e = absurd (cc e)

not_part_of_nothing : IsPartOf (record { name = codes "X"; value = z } ∷ []) [] → ⊥
not_part_of_nothing h = absurd (cc (h (codes "X") z refl))

built_of_constructors : IsBuilt add (s z)
built_of_constructors = (refl, refl, refl, ((refl, refl, refl, tt), tt))

not_of_operators : IsBuilt add (plus z z) → ⊥
not_of_operators h = absurd (cc h.0)

not_of_operators_below : IsBuilt add (s (plus z z)) → ⊥
not_of_operators_below h = absurd (cc h.3.0.0)

not_quoted : IsBuilt add (Appl (codes "z") true none none) → ⊥
not_quoted h = absurd (cc h.1)

not_annotated : IsBuilt add (Appl (codes "z") false none (more z none)) → ⊥
not_annotated h = absurd (cc h.2)

-- a budget of the cost is enough, and one less is not
with_the_cost : CostLaw → (y : Spec) (n : ℕ) (b : Substitution) (t : Term) (v : Tree) (left : ℕ) → Eval y n b t ≡ Done v left
    → Eval y (n - left) b t ≡ Done v ((n - left) - (n - left))
with_the_cost law y n b t v left e = (law y n b t v left e).1 (n - left) (omega arith)

with_one_less : CostLaw → (y : Spec) (n m : ℕ) (b : Substitution) (t : Term) (v : Tree) (left : ℕ) → Eval y n b t ≡ Done v left → suc m ≡ n - left
    → Eval y m b t ≡ Over
with_one_less law y n m b t v left e k = (law y n b t v left e).2 m (omega arith)

-- no rule fires below the head of a value
no_step_below : RewritingLaw → (y : Spec) → fault y ≡ None → (n m : ℕ) (t : Term) (name below : List ℕ) (left : ℕ)
    → Eval y n [] t ≡ Done (Appl name false (more (Appl below false none none) none) none) left → fired y m (Appl below false none none) ≡ None
no_step_below law y kept n m t name below left e = ((law y kept n t _ left e).1 m).1.0

-- if no rule has conditions, the value is as many steps away as were spent
each_step_counts : RewritingLaw → (y : Spec) → fault y ≡ None → Unconditional y → (n : ℕ) (t : Term) (v : Tree) (left : ℕ)
    → Eval y n [] t ≡ Done v left → Steps y n (n - left) (tree_of t) v
each_step_counts law y kept h n t v left e =
    let l = (law y kept n t v left e).0 in
    subst (λ k. Steps y n k (tree_of t) v) (l.3 h) l.2
