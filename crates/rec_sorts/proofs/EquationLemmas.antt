-- The depth is no limit: evaluation meets its equations, nothing else does, and each value has one cost.
use Rattle.std.proofs.Common.{refl, sym, ap, arith, ◌∙◌}
use Rattle.std.specs.Prelude.{ℕ, zero, suc, ◌+◌, ◌-◌, ◌≡◌, ◌≤◌, ◌<◌, Bool, true, false, List, [], ◌∷◌, Option, Some, None}
use Rattle.std.specs.Bool.{beq}
use Rattle.rx_term.specs.Tree.{Tree, more, tree_eq}
use Rattle.rec_syntax.specs.Syntax.{Term, Terms, Apply, Condition, Rule, Spec}
use Rattle.rec_sorts.specs.Binding.{Substitution, value_of, application, binds}
use Rattle.rec_sorts.specs.Evaluation.{Outcome, Done, Over, ◌then◌, Evaluator, Caller, evaluate, evaluate_all}
use Rattle.rec_sorts.specs.Evaluation.{holds, spend, Match, first_rule, call, evaluate_within, Eval}
use Rattle.rec_sorts.specs.Laws.{MeetsEquations, OneEvaluator, CostLaw}
use Rattle.rec_sorts.proofs.SteadyLemmas.{Steady, SteadyEvaluator, SteadyCaller, steady_holds, steady_call, steady_evaluate, steady_evaluate_all, steady_within}

-- what is left is no more than there was
pub left_le : {A : Type 0} (f : ℕ → Outcome A) → Steady f → (n : ℕ) (a : A) (left : ℕ) → f n ≡ Done a left → left ≤ n
left_le f sf n a left e = let (c, sum_c, costs_c) = sf n a left e in omega arith

-- two chains agree where their first parts do, and what follows agrees at their answer
pub then_agrees : {A B : Type 0} (o o' : Outcome A) (g g' : A → ℕ → Outcome B) → o ≡ o'
    → ((a : A) (left : ℕ) → o ≡ Done a left → g a left ≡ g' a left) → (o then g) ≡ (o' then g')
then_agrees {A} {B} o o' g g' same_first h = by_first o refl ∙ ap (λ x. x then g') same_first
  where
    by_first : (x : Outcome A) → o ≡ x → (x then g) ≡ (x then g')
    by_first (Done a left) e = h a left e
    by_first Over e = refl

-- two evaluators agree at all budgets below one
abbrev pub AgreeBelow : ℕ → Evaluator → Evaluator → Type 0
AgreeBelow n eval eval' = (m : ℕ) (s : Substitution) (t : Term) → m < n → eval m s t ≡ eval' m s t

pub fewer : (n m : ℕ) (eval eval' : Evaluator) → m ≤ n → AgreeBelow n eval eval' → AgreeBelow m eval eval'
fewer n m eval eval' le agree k s t h = agree k s t (omega arith)

pub if_agrees : {A : Type 0} (b : Bool) (x x' z z' : A) → x ≡ x' → z ≡ z' → ◌≡◌ {A = A} (elim b [ true ↦ x | false ↦ z ]) (elim b [ true ↦ x' | false ↦ z' ])
if_agrees true x x' z z' e e' = e
if_agrees false x x' z z' e e' = e'

pub holds_agrees : (eval eval' : Evaluator) → SteadyEvaluator eval → (n m : ℕ) → AgreeBelow n eval eval' → m < n
    → (s : Substitution) (cs : List Condition) → holds eval m s cs ≡ holds eval' m s cs
holds_agrees eval eval' se n m agree h s [] = refl
holds_agrees eval eval' se n m agree h s (c ∷ cs) =
    let later : (k : ℕ) → k ≤ m → holds eval k s cs ≡ holds eval' k s cs = λ k le. holds_agrees eval eval' se n k agree (omega arith) s cs in
    then_agrees (eval m s c.left) (eval' m s c.left)
    (λ u left. eval left s c.right then λ v rest. elim (beq (tree_eq u v) c.equal) [ true ↦ holds eval rest s cs | false ↦ Done false rest ])
    (λ u left. eval' left s c.right then λ v rest. elim (beq (tree_eq u v) c.equal) [ true ↦ holds eval' rest s cs | false ↦ Done false rest ])
    (agree m s c.left h)
    (λ u left e. let low : left ≤ m = left_le (λ n. eval n s c.left) (se s c.left) m u left e in
    then_agrees (eval left s c.right) (eval' left s c.right)
    (λ v rest. elim (beq (tree_eq u v) c.equal) [ true ↦ holds eval rest s cs | false ↦ Done false rest ])
    (λ v rest. elim (beq (tree_eq u v) c.equal) [ true ↦ holds eval' rest s cs | false ↦ Done false rest ])
    (agree left s c.right (omega arith))
    (λ v rest e2. let lower : rest ≤ left = left_le (λ n. eval n s c.right) (se s c.right) left v rest e2 in
    if_agrees (beq (tree_eq u v) c.equal) (holds eval rest s cs) (holds eval' rest s cs) (Done false rest) (Done false rest)
    (later rest (omega arith)) refl))

pub spend_agrees : {A : Type 0} (n : ℕ) (f f' : ℕ → Outcome A) → ((m : ℕ) → m < n → f m ≡ f' m) → spend n f ≡ spend n f'
spend_agrees zero f f' h = refl
spend_agrees (suc n) f f' h = h n (omega arith)

pub first_rule_agrees : (y : Spec) (eval eval' : Evaluator) → SteadyEvaluator eval → (rs : List Rule) (n : ℕ) (u : Tree) → AgreeBelow n eval eval'
    → first_rule y eval rs n u ≡ first_rule y eval' rs n u
first_rule_agrees y eval eval' se [] n u agree = refl
first_rule_agrees y eval eval' se (r ∷ rs) n u agree = by_match (binds y r.left u) (λ m le.
    first_rule_agrees y eval eval' se rs m u (fewer n m eval eval' le agree))
  where
    after : Evaluator → Substitution → Bool → ℕ → Outcome (Option Match)
    after eval s holding rest = elim holding [ true ↦ Done (Some (record { rule = r; values = s })) rest | false ↦ first_rule y eval rs rest u ]

    attempt : Evaluator → Option Substitution → Outcome (Option Match)
    attempt eval o = elim o [
      | None ↦ first_rule y eval rs n u
      | Some s ↦ spend n (λ left. holds eval left s r.conditions then after eval s)
    ]

    by_match : (o : Option Substitution) → ((m : ℕ) → m ≤ n → first_rule y eval rs m u ≡ first_rule y eval' rs m u) → attempt eval o ≡ attempt eval' o
    by_match None later = later n (omega arith)
    by_match (Some s) later = spend_agrees n (λ left. holds eval left s r.conditions then after eval s) (λ left.
        holds eval' left s r.conditions then after eval' s)
        (λ m h. then_agrees (holds eval m s r.conditions) (holds eval' m s r.conditions) (after eval s) (after eval' s)
        (holds_agrees eval eval' se n m agree h s r.conditions)
        (λ holding rest e. let low : rest ≤ m = left_le (λ n. holds eval n s r.conditions) (steady_holds eval se s r.conditions) m holding rest e in
        if_agrees holding (Done (Some (record { rule = r; values = s })) rest) (Done (Some (record { rule = r; values = s })) rest)
        (first_rule y eval rs rest u) (first_rule y eval' rs rest u) refl (later rest (omega arith))))

-- a match leaves less than there was, since it has spent a step
pub match_spends : (y : Spec) (eval : Evaluator) → SteadyEvaluator eval → (rs : List Rule) (n : ℕ) (u : Tree) (found : Match) (left : ℕ)
    → first_rule y eval rs n u ≡ Done (Some found) left → left < n
match_spends y eval se [] n u found left e = absurd (cc e)
match_spends y eval se (r ∷ rs) n u found left e = by_match (binds y r.left u) n e (λ m le h. let low : left < m =
    match_spends y eval se rs m u found left h in omega arith)
  where
    after : Substitution → Bool → ℕ → Outcome (Option Match)
    after s holding rest = elim holding [ true ↦ Done (Some (record { rule = r; values = s })) rest | false ↦ first_rule y eval rs rest u ]

    by_answer : (s : Substitution) (m : ℕ) (holding : Bool) (rest : ℕ) → rest ≤ m → after s holding rest ≡ Done (Some found) left
        → ((k : ℕ) → k ≤ suc m → first_rule y eval rs k u ≡ Done (Some found) left → left < suc m) → left < suc m
    by_answer s m true rest le e2 later = let same_left : rest ≡ left = cc e2 in omega arith
    by_answer s m false rest le e2 later = later rest (omega arith) e2

    by_held : (s : Substitution) (m : ℕ) (o : Outcome Bool) → holds eval m s r.conditions ≡ o → (o then after s) ≡ Done (Some found) left
        → ((k : ℕ) → k ≤ suc m → first_rule y eval rs k u ≡ Done (Some found) left → left < suc m) → left < suc m
    by_held s m Over e1 e2 later = absurd (cc e2)
    by_held s m (Done holding rest) e1 e2 later = by_answer s m holding rest
        (left_le (λ n. holds eval n s r.conditions) (steady_holds eval se s r.conditions) m holding rest e1) e2 later

    by_match : (o : Option Substitution) (n : ℕ) → ◌≡◌ {A = Outcome (Option Match)} (elim o [
      | None ↦ first_rule y eval rs n u
      | Some s ↦ spend n (λ left. holds eval left s r.conditions then after s)
    ]) (Done (Some found) left) → ((m : ℕ) → m ≤ n → first_rule y eval rs m u ≡ Done (Some found) left → left < n) → left < n
    by_match None n e later = later n (omega arith) e
    by_match (Some s) zero e later = absurd (cc e)
    by_match (Some s) (suc m) e later = by_held s m (holds eval m s r.conditions) refl e later

pub call_agrees : (y : Spec) (eval eval' : Evaluator) → SteadyEvaluator eval → (n : ℕ) (u : Tree) → AgreeBelow n eval eval' → call y eval n u ≡ call y eval' n u
call_agrees y eval eval' se n u agree = then_agrees (first_rule y eval y.rules n u) (first_rule y eval' y.rules n u) (after eval) (after eval')
    (first_rule_agrees y eval eval' se y.rules n u agree) by_found
  where
    after : Evaluator → Option Match → ℕ → Outcome Tree
    after eval found left = elim found [ Some m ↦ eval left m.values m.rule.right | None ↦ Done u left ]

    by_found : (found : Option Match) (left : ℕ) → first_rule y eval y.rules n u ≡ Done found left → after eval found left ≡ after eval' found left
    by_found (Some m) left e = agree left m.values m.rule.right (match_spends y eval se y.rules n u m left e)
    by_found None left e = refl

-- two callers agree at all budgets up to one
abbrev pub AgreeUpTo : ℕ → Caller → Caller → Type 0
AgreeUpTo n c c' = (m : ℕ) (u : Tree) → m ≤ n → c m u ≡ c' m u

pub head_agrees : (c c' : Caller) → SteadyCaller c → (n : ℕ) → AgreeUpTo n c c' → (s : Substitution) (name : List ℕ) (ts : Terms) (o : Option Tree)
    → evaluate_all c n s ts ≡ evaluate_all c' n s ts
    → ◌≡◌ {A = Outcome Tree} (elim o [ Some v ↦ Done v n | None ↦ evaluate_all c n s ts then λ vs left. c left (application name vs) ])
    (elim o [ Some v ↦ Done v n | None ↦ evaluate_all c' n s ts then λ vs left. c' left (application name vs) ])
head_agrees c c' sc n agree s name ts (Some v) all = refl
head_agrees c c' sc n agree s name ts None all = then_agrees (evaluate_all c n s ts) (evaluate_all c' n s ts) (λ vs left.
    c left (application name vs)) (λ vs left. c' left (application name vs)) all
    (λ vs left e. agree left (application name vs) (left_le (λ n. evaluate_all c n s ts) (steady_evaluate_all c sc s ts) n vs left e))

pub more_agrees : (c c' : Caller) → SteadyCaller c → (n : ℕ) (s : Substitution) (t : Term) (ts : Terms) → evaluate c n s t ≡ evaluate c' n s t
    → ((m : ℕ) → m ≤ n → evaluate_all c m s ts ≡ evaluate_all c' m s ts)
    → (evaluate c n s t then λ v left. evaluate_all c left s ts then λ vs rest. Done (more v vs) rest) ≡ (evaluate c' n s t then λ v left.
    evaluate_all c' left s ts then λ vs rest. Done (more v vs) rest)
more_agrees c c' sc n s t ts first all = then_agrees (evaluate c n s t) (evaluate c' n s t) (λ v left. evaluate_all c left s ts then λ vs rest.
    Done (more v vs) rest) (λ v left. evaluate_all c' left s ts then λ vs rest. Done (more v vs) rest) first
    (λ v left e. ap (λ o. o then λ vs rest. Done (more v vs) rest) (all left (left_le (λ n. evaluate c n s t) (steady_evaluate c sc s t) n v left e)))

mutual
  pub evaluate_agrees : (c c' : Caller) → SteadyCaller c → (n : ℕ) → AgreeUpTo n c c' → (s : Substitution) (t : Term) → evaluate c n s t ≡ evaluate c' n s t
  evaluate_agrees c c' sc n agree s (Apply w ts) = head_agrees c c' sc n agree s w.bytes ts (value_of s w.bytes) (evaluate_all_agrees c c' sc n agree s ts)

  pub evaluate_all_agrees : (c c' : Caller) → SteadyCaller c → (n : ℕ) → AgreeUpTo n c c' → (s : Substitution) (ts : Terms)
      → evaluate_all c n s ts ≡ evaluate_all c' n s ts
  evaluate_all_agrees c c' sc n agree s Terms.none = refl
  evaluate_all_agrees c c' sc n agree s (Terms.more t ts) = more_agrees c c' sc n s t ts (evaluate_agrees c c' sc n agree s t) (λ m le.
      evaluate_all_agrees c c' sc m (λ k u h. agree k u (omega arith)) s ts)

-- evaluation at one depth, as an evaluator
abbrev within : Spec → ℕ → Evaluator
within y depth = λ m r u. evaluate_within y depth m r u

-- a depth above the budget is no limit
pub depth_is_no_limit : (y : Spec) (d d' n : ℕ) (s : Substitution) (t : Term) → n < d → n < d' → evaluate_within y d n s t ≡ evaluate_within y d' n s t
depth_is_no_limit y zero d' n s t h h' = absurd (let no : ⊥ = omega arith in no)
depth_is_no_limit y (suc d) zero n s t h h' = absurd (let no : ⊥ = omega arith in no)
depth_is_no_limit y (suc d) (suc d') n s t h h' =
    evaluate_agrees (call y (within y d)) (call y (within y d')) (steady_call y (within y d) (steady_within y d)) n
    (λ m u le. call_agrees y (within y d) (within y d') (steady_within y d) m u (λ k r v low. depth_is_no_limit y d d' k r v (omega arith) (omega arith)))
    s t

pub steady_Eval : (y : Spec) → SteadyEvaluator (Eval y)
unfolding Eval
steady_Eval y s t n v left e =
    let (c, sum_c, costs_c) = steady_within y (suc n) s t n v left e in
    let at_cost : Eval y c s t ≡ Done v 0 = depth_is_no_limit y (suc c) (suc n) c s t (omega arith) (omega arith) ∙ costs_c.enough c 0 (omega arith) in (
      c,
      sum_c,
      record {
        enough = λ m k h. enough c m k h at_cost;
        short = λ m h. depth_is_no_limit y (suc m) (suc n) m s t (omega arith) (omega arith) ∙ costs_c.short m h;
      },
    )
  where
    enough : (c m k : ℕ) → c + k ≡ m → Eval y c s t ≡ Done v 0 → Eval y m s t ≡ Done v k
    enough c m k h at_cost =
        let deeper : evaluate_within y (suc m) c s t ≡ Done v 0 = depth_is_no_limit y (suc m) (suc c) c s t (omega arith) (omega arith) ∙ at_cost in
        let (d, sum_d, costs_d) = steady_within y (suc m) s t c v 0 deeper in
        costs_d.enough m k (omega arith)

pub meets : (y : Spec) → MeetsEquations y (Eval y)
unfolding Eval
meets y n s t = evaluate_agrees (call y (within y n)) (call y (Eval y)) (steady_call y (within y n) (steady_within y n)) n
    (λ m u le. call_agrees y (within y n) (Eval y) (steady_within y n) m u (λ k r v low. depth_is_no_limit y n (suc k) k r v (omega arith) (omega arith))) s t

pub one_by_depth : (y : Spec) (eval : Evaluator) → MeetsEquations y eval → (d n : ℕ) → n < d → (s : Substitution) (t : Term) → Eval y n s t ≡ eval n s t
unfolding Eval
one_by_depth y eval h zero n low s t = absurd (let no : ⊥ = omega arith in no)
one_by_depth y eval h (suc d) n low s t =
    meets y n s t
    ∙ evaluate_agrees (call y (Eval y)) (call y eval) (steady_call y (Eval y) (steady_Eval y)) n
    (λ m u le. call_agrees y (Eval y) eval (steady_Eval y) m u (λ k r v lower. one_by_depth y eval h d k (omega arith) r v)) s t
    ∙ sym (h n s t)

-- evaluation meets its equations, and nothing else does
pub one_evaluator : OneEvaluator
one_evaluator y = (meets y, λ eval h n s t. sym (one_by_depth y eval h (suc n) n (omega arith) s t))

-- each value has one cost
pub cost_law : CostLaw
cost_law y n s t v left e =
    let (c, sum_c, costs_c) = steady_Eval y s t n v left e in
    (omega arith, (λ m h. costs_c.enough m (m - (n - left)) (omega arith)), (λ m h. costs_c.short m (omega arith)))
