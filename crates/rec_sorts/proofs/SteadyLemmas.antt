-- An outcome's cost does not depend on the budget: first for the ways in which evaluation is put together, then for evaluation.
use Rattle.std.proofs.Common.{refl, arith, inl, inr}
use Rattle.std.specs.Prelude.{ℕ, zero, suc, ◌+◌, ◌-◌, ◌≡◌, ◌<◌, Bool, true, false, List, [], ◌∷◌, Option, Some, None, ◌⊎◌}
use Rattle.std.proofs.lemmas.Bool.{cases_lt}
use Rattle.std.specs.Bool.{beq}
use Rattle.rx_term.specs.Tree.{Tree, none, more, tree_eq}
use Rattle.rec_syntax.specs.Syntax.{Term, Terms, Apply, Condition, Rule, Spec}
use Rattle.rec_sorts.specs.Binding.{Substitution, value_of, application, binds}
use Rattle.rec_sorts.specs.Evaluation.{Outcome, Done, Over, ◌then◌, Evaluator, Caller, evaluate, evaluate_all}
use Rattle.rec_sorts.specs.Evaluation.{holds, spend, Match, first_rule, call, evaluate_within}

-- f answers a with exactly the cost c
pub record Costs {A : Type 0} (f : ℕ → Outcome A) (a : A) (c : ℕ) : Type 0 where
  pub enough : (m k : ℕ) → c + k ≡ m → f m ≡ Done a k
  pub short : (m : ℕ) → m < c → f m ≡ Over

-- whatever f answers, it answers at one cost
abbrev pub Steady : {A : Type 0} → (ℕ → Outcome A) → Type 0
Steady {A} f = (n : ℕ) (a : A) (left : ℕ) → f n ≡ Done a left → (c : ℕ) × (c + left ≡ n) × Costs f a c

pub done_answer : {A : Type 0} (a b : A) (m n : ℕ) → Done a m ≡ Done b n → a ≡ b
done_answer a b m n e = cc

pub done_left : {A : Type 0} (a b : A) (m n : ℕ) → Done a m ≡ Done b n → m ≡ n
done_left a b m n e = cc

pub over_done : {A : Type 0} (a : A) (m : ℕ) → Over ≡ Done a m → ⊥
over_done a m e = cc

pub below_or_from : (m c : ℕ) → (m < c) ⊎ ((j : ℕ) × (c + j ≡ m))
below_or_from m c = elim (cases_lt m c) [
  | inl low ↦ inl low
  | inr high ↦ inr (m - c, omega arith)
]

pub steady_done : {A : Type 0} (a : A) → Steady (λ n. Done a n)
steady_done {A} a n b left e =
    let same_left : n ≡ left = done_left a b n left e in
    let same_answer : a ≡ b = done_answer a b n left e in (
      0,
      omega arith,
      record {
        enough = λ m k h. let e2 : m ≡ k = omega arith in cc (same_answer, e2);
        short = λ m h. absurd (let no : ⊥ = omega arith in no);
      },
    )

pub steady_over : {A : Type 0} → Steady {A = A} (λ n. Over)
steady_over {A} n b left e = absurd (over_done b left e)

-- one and then the other, at the sum of the costs
pub steady_then : {A B : Type 0} (f : ℕ → Outcome A) (g : A → ℕ → Outcome B) → Steady f → ((a : A) → Steady (g a)) → Steady (λ n. f n then g)
steady_then {A} {B} f g sf sg n b left e = by_first (f n) refl e
  where
    by_first : (o : Outcome A) → f n ≡ o → (o then g) ≡ Done b left → (c : ℕ) × (c + left ≡ n) × Costs (λ m. f m then g) b c
    by_first Over e1 e2 = absurd (over_done b left e2)
    by_first (Done a middle) e1 e2 =
        let (c, sum_c, costs_c) = sf n a middle e1 in
        let (d, sum_d, costs_d) = sg a middle b left e2 in (
          c + d,
          omega arith,
          record {
            enough = λ m k h. rw (costs_c.enough m (d + k) (omega arith)) (costs_d.enough (d + k) k refl);
            short = λ m h. elim (below_or_from m c) as (λ x. (f m then g) ≡ Over) [
              | inl low ↦ rw (costs_c.short m low) refl
              | inr found ↦ rw (costs_c.enough m found.0 found.1) (costs_d.short found.0 (let at = found.1 in omega arith))
            ];
          },
        )

pub steady_if : {A : Type 0} (b : Bool) (f g : ℕ → Outcome A) → Steady f → Steady g → Steady (λ n. elim b [ true ↦ f n | false ↦ g n ])
steady_if true f g sf sg = sf
steady_if false f g sf sg = sg

-- a step that is spent first costs one more
pub steady_spend : {A : Type 0} (f : ℕ → Outcome A) → Steady f → Steady (λ n. spend n f)
steady_spend f sf zero b left e = absurd (over_done b left e)
steady_spend {A} f sf (suc n) b left e =
    let (c, sum_c, costs_c) = sf n b left e in (
      suc c,
      omega arith,
      record {
        enough = λ m k h. enough c m k (omega arith) costs_c.enough;
        short = λ m h. short c m h costs_c.short;
      },
    )
  where
    enough : (c m k : ℕ) → suc (c + k) ≡ m → ((m k : ℕ) → c + k ≡ m → f m ≡ Done b k) → spend m f ≡ Done b k
    enough c zero k h costs = absurd (let no : ⊥ = omega arith in no)
    enough c (suc m) k h costs = costs m k (omega arith)

    short : (c m : ℕ) → m < suc c → ((m : ℕ) → m < c → f m ≡ Over) → spend m f ≡ Over
    short c zero h costs = refl
    short c (suc m) h costs = costs m (omega arith)

-- an evaluator whose every answer has one cost
abbrev pub SteadyEvaluator : Evaluator → Type 0
SteadyEvaluator eval = (s : Substitution) (t : Term) → Steady (λ n. eval n s t)

pub steady_holds : (eval : Evaluator) → SteadyEvaluator eval → (s : Substitution) (cs : List Condition) → Steady (λ n. holds eval n s cs)
steady_holds eval se s [] = steady_done true
steady_holds eval se s (c ∷ cs) =
    let later = steady_holds eval se s cs in
    steady_then (λ n. eval n s c.left)
    (λ u left. eval left s c.right then λ v rest. elim (beq (tree_eq u v) c.equal) [ true ↦ holds eval rest s cs | false ↦ Done false rest ])
    (se s c.left)
    (λ u. steady_then (λ left. eval left s c.right)
    (λ v rest. elim (beq (tree_eq u v) c.equal) [ true ↦ holds eval rest s cs | false ↦ Done false rest ])
    (se s c.right)
    (λ v. steady_if (beq (tree_eq u v) c.equal) (λ rest. holds eval rest s cs) (λ rest. Done false rest) later (steady_done false)))

pub steady_first_rule : (y : Spec) (eval : Evaluator) → SteadyEvaluator eval → (rs : List Rule) (u : Tree) → Steady (λ n. first_rule y eval rs n u)
steady_first_rule y eval se [] u = steady_done None
steady_first_rule y eval se (r ∷ rs) u = by_match (binds y r.left u) (steady_first_rule y eval se rs u)
  where
    after : Substitution → Bool → ℕ → Outcome (Option Match)
    after s holding rest = elim holding [ true ↦ Done (Some (record { rule = r; values = s })) rest | false ↦ first_rule y eval rs rest u ]

    by_match : (o : Option Substitution) → Steady (λ n. first_rule y eval rs n u) → Steady (λ n. elim o [
      | None ↦ first_rule y eval rs n u
      | Some s ↦ spend n (λ left. holds eval left s r.conditions then λ yes rest.
          elim yes [ true ↦ Done (Some (record { rule = r; values = s })) rest | false ↦ first_rule y eval rs rest u ])
    ])
    by_match None later = later
    by_match (Some s) later = steady_spend (λ left. holds eval left s r.conditions then after s)
        (steady_then (λ left. holds eval left s r.conditions) (after s) (steady_holds eval se s r.conditions)
        (λ holding. steady_if holding (λ rest. Done (Some (record { rule = r; values = s })) rest) (λ rest. first_rule y eval rs rest u)
        (steady_done (Some (record { rule = r; values = s }))) later))

-- a caller whose every answer has one cost
abbrev pub SteadyCaller : Caller → Type 0
SteadyCaller call = (u : Tree) → Steady (λ n. call n u)

pub steady_call : (y : Spec) (eval : Evaluator) → SteadyEvaluator eval → SteadyCaller (call y eval)
steady_call y eval se u = steady_then (λ n. first_rule y eval y.rules n u) after (steady_first_rule y eval se y.rules u) by_found
  where
    after : Option Match → ℕ → Outcome Tree
    after found left = elim found [ Some m ↦ eval left m.values m.rule.right | None ↦ Done u left ]

    by_found : (found : Option Match) → Steady (after found)
    by_found (Some m) = se m.values m.rule.right
    by_found None = steady_done u

pub steady_head : (call : Caller) → SteadyCaller call → (s : Substitution) (name : List ℕ) (ts : Terms) (o : Option Tree)
    → Steady (λ n. evaluate_all call n s ts)
    → Steady (λ n. elim o [ Some v ↦ Done v n | None ↦ evaluate_all call n s ts then λ vs left. call left (application name vs) ])
steady_head call sc s name ts (Some v) all = steady_done v
steady_head call sc s name ts None all = steady_then (λ n. evaluate_all call n s ts) (λ vs left. call left (application name vs)) all (λ vs.
    sc (application name vs))

pub steady_more : (call : Caller) (s : Substitution) (t : Term) (ts : Terms) → Steady (λ n. evaluate call n s t) → Steady (λ n. evaluate_all call n s ts)
    → Steady (λ n. evaluate call n s t then λ v left. evaluate_all call left s ts then λ vs rest. Done (more v vs) rest)
steady_more call s t ts first all = steady_then (λ n. evaluate call n s t) (λ v left. evaluate_all call left s ts then λ vs rest. Done (more v vs) rest) first
    (λ v. steady_then (λ left. evaluate_all call left s ts) (λ vs rest. Done (more v vs) rest) all (λ vs. steady_done (more v vs)))

mutual
  pub steady_evaluate : (call : Caller) → SteadyCaller call → SteadyEvaluator (evaluate call)
  steady_evaluate call sc s (Apply w ts) = steady_head call sc s w.bytes ts (value_of s w.bytes) (steady_evaluate_all call sc s ts)

  pub steady_evaluate_all : (call : Caller) → SteadyCaller call → (s : Substitution) (ts : Terms) → Steady (λ n. evaluate_all call n s ts)
  steady_evaluate_all call sc s Terms.none = steady_done none
  steady_evaluate_all call sc s (Terms.more t ts) = steady_more call s t ts (steady_evaluate call sc s t) (steady_evaluate_all call sc s ts)

pub steady_within : (y : Spec) (depth : ℕ) → SteadyEvaluator (evaluate_within y depth)
steady_within y zero s t = steady_over
steady_within y (suc depth) s t = steady_evaluate (call y (λ m r u. evaluate_within y depth m r u))
    (steady_call y (λ m r u. evaluate_within y depth m r u) (steady_within y depth)) s t
