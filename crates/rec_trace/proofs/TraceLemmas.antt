-- A trace comes to what evaluation comes to, by steps of rewriting.
use Rattle.std.proofs.Common.{refl, sym, ap, subst, arith, ◌∙◌, inl, inr}
use Rattle.std.specs.Prelude.{ℕ, zero, suc, ◌+◌, ◌-◌, ◌≡◌, ◌≤◌, ◌<◌, length, List, [], ◌∷◌, ◌++◌, Option, Some, None}
use Rattle.rx_term.specs.Tree.{Tree, Trees, Appl, none, more}
use Rattle.rec_syntax.specs.Tokens.{Word}
use Rattle.rec_syntax.specs.Syntax.{Term, Terms, Apply, Spec}
use Rattle.rec_sorts.specs.Binding.{Substitution, value_of, application, instance, instances, binds, tree_of}
use Rattle.rec_sorts.specs.Evaluation.{Outcome, Done, Over, ◌then◌, Caller, evaluate, evaluate_all, first_rule, call, Match, Eval, Call}
use Rattle.rec_sorts.specs.Laws.{fired, step, step_all, Steps, Every, Unconditional}
use Rattle.rec_sorts.proofs.KeptLemmas.{LeftSidesApply, left_sides_apply}
use Rattle.rec_sorts.proofs.SteadyLemmas.{steady_first_rule, steady_call, steady_evaluate, steady_evaluate_all, SteadyCaller, Costs, below_or_from}
use Rattle.rec_sorts.proofs.EquationLemmas.{steady_Eval, match_spends, meets, left_le, then_agrees}
use Rattle.rec_sorts.proofs.RewritingLemmas.{Normal, Normal_all, Normal_values, by_arguments, by_rest, by_first, no_step}
use Rattle.rec_sorts.proofs.RewritingLemmas.{no_step_all, found_normal, plain_answer, plain_first_rule, value_normal, fired_of}
use Rattle.rec_trace.specs.Trace.{Firing, Traced, quiet, ◌next◌, Tracer, CallTracer, trace, trace_all, firing, trace_call, trace_within}
use Rattle.rec_trace.specs.Trace.{TraceIn, TraceCall, DepthLaw, Trace, first_redex, first_redex_all, IsStep, Follow, TraceLaw, FollowLaw}

-- the same outcome as evaluation

pub next_outcome : {A B : Type 0} (t : Traced A) (f : A → ℕ → Traced B) → (t next f).outcome ≡ (t.outcome then λ a left. (f a left).outcome)
next_outcome {A} {B} t f = by_outcome t.outcome
  where
    by_outcome : (o : Outcome A) → ◌≡◌ {A = Outcome B} (elim o as (λ _. Traced B) [
      | Done a left ↦ record { firings = t.firings ++ (f a left).firings; outcome = (f a left).outcome }
      | Over ↦ record { firings = t.firings; outcome = Over }
    ]).outcome (o then λ a left. (f a left).outcome)
    by_outcome (Done a left) = refl
    by_outcome Over = refl

-- a tracer of calls agrees with a caller at all budgets up to one
abbrev AgreeUpTo : ℕ → CallTracer → Caller → Type 0
AgreeUpTo n tracer c = (whole : Tree → Tree) (m : ℕ) (u : Tree) → m ≤ n → (tracer whole m u).outcome ≡ c m u

next_agrees : {A B : Type 0} (t : Traced A) (o : Outcome A) (f : A → ℕ → Traced B) (g : A → ℕ → Outcome B) → t.outcome ≡ o
    → ((a : A) (left : ℕ) → o ≡ Done a left → (f a left).outcome ≡ g a left) → (t next f).outcome ≡ (o then g)
next_agrees t o f g same h = next_outcome t f ∙ then_agrees t.outcome o (λ a left. (f a left).outcome) g same (λ a left e. h a left (sym same ∙ e))

abbrev trace_head : CallTracer → (Tree → Tree) → ℕ → Substitution → Word → Terms → Option Tree → Traced Tree
trace_head tracer whole n s w ts o = elim o [
  | Some v ↦ quiet (Done v n)
  | None ↦ trace_all tracer (λ us. whole (application w.bytes us)) n s ts next λ vs left. tracer whole left (application w.bytes vs)
]

abbrev evaluate_head : Caller → ℕ → Substitution → Word → Terms → Option Tree → Outcome Tree
evaluate_head c n s w ts o = elim o [
  | Some v ↦ Done v n
  | None ↦ evaluate_all c n s ts then λ vs left. c left (application w.bytes vs)
]

head_agrees : (tracer : CallTracer) (c : Caller) → SteadyCaller c → (n : ℕ) → AgreeUpTo n tracer c
    → (whole : Tree → Tree) (s : Substitution) (w : Word) (ts : Terms) (o : Option Tree)
    → (trace_all tracer (λ us. whole (application w.bytes us)) n s ts).outcome ≡ evaluate_all c n s ts
    → (trace_head tracer whole n s w ts o).outcome ≡ evaluate_head c n s w ts o
head_agrees tracer c sc n agree whole s w ts (Some v) all = refl
head_agrees tracer c sc n agree whole s w ts None all =
    next_agrees (trace_all tracer (λ us. whole (application w.bytes us)) n s ts) (evaluate_all c n s ts)
    (λ vs left. tracer whole left (application w.bytes vs)) (λ vs left. c left (application w.bytes vs)) all
    (λ vs left e. agree whole left (application w.bytes vs) (left_le (λ n. evaluate_all c n s ts) (steady_evaluate_all c sc s ts) n vs left e))

mutual
  trace_agrees : (tracer : CallTracer) (c : Caller) → SteadyCaller c → (n : ℕ) → AgreeUpTo n tracer c
      → (whole : Tree → Tree) (s : Substitution) (t : Term) → (trace tracer whole n s t).outcome ≡ evaluate c n s t
  trace_agrees tracer c sc n agree whole s (Apply w ts) = head_agrees tracer c sc n agree whole s w ts (value_of s w.bytes)
      (trace_all_agrees tracer c sc n agree (λ us. whole (application w.bytes us)) s ts)

  trace_all_agrees : (tracer : CallTracer) (c : Caller) → SteadyCaller c → (n : ℕ) → AgreeUpTo n tracer c
      → (whole : Trees → Tree) (s : Substitution) (ts : Terms) → (trace_all tracer whole n s ts).outcome ≡ evaluate_all c n s ts
  trace_all_agrees tracer c sc n agree whole s Terms.none = refl
  trace_all_agrees tracer c sc n agree whole s (Terms.more t ts) =
      next_agrees (trace tracer (λ u. whole (more u (instances s ts))) n s t) (evaluate c n s t)
      (λ v left. trace_all tracer (λ us. whole (more v us)) left s ts next λ vs rest. quiet (Done (more v vs) rest))
      (λ v left. evaluate_all c left s ts then λ vs rest. Done (more v vs) rest)
      (trace_agrees tracer c sc n agree (λ u. whole (more u (instances s ts))) s t)
      (λ v left e. next_agrees (trace_all tracer (λ us. whole (more v us)) left s ts) (evaluate_all c left s ts)
      (λ vs rest. quiet (Done (more v vs) rest)) (λ vs rest. Done (more v vs) rest)
      (trace_all_agrees tracer c sc left (λ w m u low. agree w m u (let le : left ≤ n =
      left_le (λ n. evaluate c n s t) (steady_evaluate c sc s t) n v left e in omega arith)) (λ us. whole (more v us)) s ts)
      (λ vs rest e2. refl))

abbrev tracer_within : Spec → ℕ → Tracer
tracer_within y depth = λ whole m r u. trace_within y depth whole m r u

call_agrees : (y : Spec) (tracer : Tracer) (n : ℕ) → ((whole : Tree → Tree) (m : ℕ) (s : Substitution) (t : Term) → m < n
    → (tracer whole m s t).outcome ≡ Eval y m s t)
    → (whole : Tree → Tree) (u : Tree) → (trace_call y tracer whole n u).outcome ≡ call y (Eval y) n u
call_agrees y tracer n agree whole u = by_found (first_rule y (Eval y) y.rules n u) refl
  where
    by_found : (o : Outcome (Option Match)) → first_rule y (Eval y) y.rules n u ≡ o
        → ◌≡◌ {A = Outcome Tree} (elim o as (λ _. Traced Tree) [
          | Over ↦ quiet Over
          | Done found left ↦ elim found [
            | None ↦ quiet (Done u left)
            | Some m ↦ record {
              firings = firing whole u m left ∷ (tracer whole left m.values m.rule.right).firings;
              outcome =
                  (tracer whole left m.values m.rule.right).outcome;
            }
          ]
        ]).outcome (o then λ found left. elim found [ Some m ↦ Eval y left m.values m.rule.right | None ↦ Done u left ])
    by_found Over e = refl
    by_found (Done None left) e = refl
    by_found (Done (Some m) left) e = agree whole left m.values m.rule.right (match_spends y (Eval y) (steady_Eval y) y.rules n u m left e)

within_agrees : (y : Spec) (d : ℕ) (whole : Tree → Tree) (n : ℕ) (s : Substitution) (t : Term) → n < d → (trace_within y d whole n s t).outcome ≡ Eval y n s t
within_agrees y zero whole n s t low = absurd (let no : ⊥ = omega arith in no)
within_agrees y (suc d) whole n s t low =
    trace_agrees (trace_call y (tracer_within y d)) (call y (Eval y)) (steady_call y (Eval y) (steady_Eval y)) n
    (λ w m u le. call_agrees y (tracer_within y d) m (λ w2 k r v lower. within_agrees y d w2 k r v (omega arith)) w u)
    whole s t
    ∙ sym (meets y n s t)

-- the same, of a trace in its place and of a call
pub trace_outcome : (y : Spec) (whole : Tree → Tree) (n : ℕ) (s : Substitution) (t : Term) → (TraceIn y whole n s t).outcome ≡ Eval y n s t
unfolding TraceIn
trace_outcome y whole n s t = within_agrees y (suc n) whole n s t (omega arith)

pub call_outcome : (y : Spec) (whole : Tree → Tree) (n : ℕ) (u : Tree) → (TraceCall y whole n u).outcome ≡ Call y n u
unfolding TraceCall Call
call_outcome y whole n u = call_agrees y (λ w m s t. TraceIn y w m s t) n (λ w m s t low. trace_outcome y w m s t) whole u

-- a depth above the budget is no limit

next_same : {A B : Type 0} (t t' : Traced A) (f f' : A → ℕ → Traced B) → t ≡ t'
    → ((a : A) (left : ℕ) → t.outcome ≡ Done a left → f a left ≡ f' a left) → (t next f) ≡ (t' next f')
next_same {A} {B} t t' f f' same h = by_outcome t.outcome refl ∙ ap (λ x. x next f') same
  where
    by_outcome : (o : Outcome A) → t.outcome ≡ o → ◌≡◌ {A = Traced B} (elim o as (λ _. Traced B) [
      | Done a left ↦ record { firings = t.firings ++ (f a left).firings; outcome = (f a left).outcome }
      | Over ↦ record { firings = t.firings; outcome = Over }
    ]) (elim o as (λ _. Traced B) [
      | Done a left ↦ record { firings = t.firings ++ (f' a left).firings; outcome = (f' a left).outcome }
      | Over ↦ record { firings = t.firings; outcome = Over }
    ])
    by_outcome (Done a left) e = ap (λ (x : Traced B). let r : Traced B = record { firings = t.firings ++ x.firings; outcome = x.outcome } in r) (h a left e)
    by_outcome Over e = refl

abbrev SameUpTo : ℕ → CallTracer → CallTracer → Type 0
SameUpTo n c c' = (whole : Tree → Tree) (m : ℕ) (u : Tree) → m ≤ n → c whole m u ≡ c' whole m u

head_same : (c c' : CallTracer) (e : Caller) → SteadyCaller e → (n : ℕ) → AgreeUpTo n c e → SameUpTo n c c'
    → (whole : Tree → Tree) (s : Substitution) (w : Word) (ts : Terms) (o : Option Tree)
    → trace_all c (λ us. whole (application w.bytes us)) n s ts ≡ trace_all c' (λ us. whole (application w.bytes us)) n s ts
    → trace_head c whole n s w ts o ≡ trace_head c' whole n s w ts o
head_same c c' e se n agree same whole s w ts (Some v) all = refl
head_same c c' e se n agree same whole s w ts None all =
    next_same (trace_all c (λ us. whole (application w.bytes us)) n s ts) (trace_all c' (λ us. whole (application w.bytes us)) n s ts)
    (λ vs left. c whole left (application w.bytes vs)) (λ vs left. c' whole left (application w.bytes vs)) all
    (λ vs left h. same whole left (application w.bytes vs)
    (left_le (λ n. evaluate_all e n s ts) (steady_evaluate_all e se s ts) n vs left
    (sym (trace_all_agrees c e se n agree (λ us. whole (application w.bytes us)) s ts) ∙ h)))

mutual
  trace_same : (c c' : CallTracer) (e : Caller) → SteadyCaller e → (n : ℕ) → AgreeUpTo n c e → SameUpTo n c c'
      → (whole : Tree → Tree) (s : Substitution) (t : Term) → trace c whole n s t ≡ trace c' whole n s t
  trace_same c c' e se n agree same whole s (Apply w ts) = head_same c c' e se n agree same whole s w ts (value_of s w.bytes)
      (trace_all_same c c' e se n agree same (λ us. whole (application w.bytes us)) s ts)

  trace_all_same : (c c' : CallTracer) (e : Caller) → SteadyCaller e → (n : ℕ) → AgreeUpTo n c e → SameUpTo n c c'
      → (whole : Trees → Tree) (s : Substitution) (ts : Terms) → trace_all c whole n s ts ≡ trace_all c' whole n s ts
  trace_all_same c c' e se n agree same whole s Terms.none = refl
  trace_all_same c c' e se n agree same whole s (Terms.more t ts) =
      next_same (trace c (λ u. whole (more u (instances s ts))) n s t) (trace c' (λ u. whole (more u (instances s ts))) n s t)
      (λ v left. trace_all c (λ us. whole (more v us)) left s ts next λ vs rest. quiet (Done (more v vs) rest))
      (λ v left. trace_all c' (λ us. whole (more v us)) left s ts next λ vs rest. quiet (Done (more v vs) rest))
      (trace_same c c' e se n agree same (λ u. whole (more u (instances s ts))) s t)
      (λ v left h.
      let low : left ≤ n = left_le (λ n. evaluate e n s t) (steady_evaluate e se s t) n v left
      (sym (trace_agrees c e se n agree (λ u. whole (more u (instances s ts))) s t) ∙ h) in
      ap (λ x. x next λ vs rest. quiet (Done (more v vs) rest)) (trace_all_same c c' e se left (λ k m u le. agree k m u (omega arith)) (λ k m u le.
      same k m u (omega arith)) (λ us. whole (more v us)) s ts))

call_same : (y : Spec) (tracer tracer' : Tracer) (n : ℕ) → ((whole : Tree → Tree) (m : ℕ) (s : Substitution) (t : Term) → m < n
    → tracer whole m s t ≡ tracer' whole m s t)
    → (whole : Tree → Tree) (u : Tree) → trace_call y tracer whole n u ≡ trace_call y tracer' whole n u
call_same y tracer tracer' n same whole u = by_found (first_rule y (Eval y) y.rules n u) refl
  where
    found_trace : Match → ℕ → Traced Tree → Traced Tree
    found_trace m left later = record { firings = firing whole u m left ∷ later.firings; outcome = later.outcome }

    by_found : (o : Outcome (Option Match)) → first_rule y (Eval y) y.rules n u ≡ o
        → ◌≡◌ {A = Traced Tree} (elim o as (λ _. Traced Tree) [
          | Over ↦ quiet Over
          | Done found left ↦ elim found [
            | None ↦ quiet (Done u left)
            | Some m ↦ record {
              firings = firing whole u m left ∷ (tracer whole left m.values m.rule.right).firings;
              outcome =
                  (tracer whole left m.values m.rule.right).outcome;
            }
          ]
        ]) (elim o as (λ _. Traced Tree) [
          | Over ↦ quiet Over
          | Done found left ↦ elim found [
            | None ↦ quiet (Done u left)
            | Some m ↦ record {
              firings = firing whole u m left ∷ (tracer' whole left m.values m.rule.right).firings;
              outcome =
                  (tracer' whole left m.values m.rule.right).outcome;
            }
          ]
        ])
    by_found Over e = refl
    by_found (Done None left) e = refl
    by_found (Done (Some m) left) e =
        ap (λ (later : Traced Tree). let r : Traced Tree = record { firings = firing whole u m left ∷ later.firings; outcome = later.outcome } in r)
        (same whole left m.values m.rule.right (match_spends y (Eval y) (steady_Eval y) y.rules n u m left e))

depth_is_no_limit : (y : Spec) (d d' : ℕ) (whole : Tree → Tree) (n : ℕ) (s : Substitution) (t : Term) → n < d → n < d'
    → trace_within y d whole n s t ≡ trace_within y d' whole n s t
depth_is_no_limit y zero d' whole n s t h h' = absurd (let no : ⊥ = omega arith in no)
depth_is_no_limit y (suc d) zero whole n s t h h' = absurd (let no : ⊥ = omega arith in no)
depth_is_no_limit y (suc d) (suc d') whole n s t h h' =
    trace_same (trace_call y (tracer_within y d)) (trace_call y (tracer_within y d')) (call y (Eval y)) (steady_call y (Eval y) (steady_Eval y)) n
    (λ w m u le. call_agrees y (tracer_within y d) m (λ w2 k r v lower. within_agrees y d w2 k r v (omega arith)) w u)
    (λ w m u le. call_same y (tracer_within y d) (tracer_within y d') m (λ w2 k r v lower. depth_is_no_limit y d d' w2 k r v (omega arith) (omega arith)) w u)
    whole s t

pub depth_law : DepthLaw
unfolding TraceIn TraceCall
depth_law y whole n s t =
    trace_same (trace_call y (tracer_within y n)) (trace_call y (λ w k r v. trace_within y (suc k) w k r v)) (call y (Eval y))
    (steady_call y (Eval y) (steady_Eval y)) n
    (λ w m u le. call_agrees y (tracer_within y n) m (λ w2 k r v lower. within_agrees y n w2 k r v (omega arith)) w u)
    (λ w m u le. call_same y (tracer_within y n) (λ w k r v. trace_within y (suc k) w k r v) m (λ w2 k r v lower.
    depth_is_no_limit y n (suc k) w2 k r v (omega arith) (omega arith)) w u)
    whole s t

-- the firings are steps

-- what leads on with a budget leads on with a higher one
is_step_above : (y : Spec) (n n' : ℕ) (f : Firing) → n ≤ n' → IsStep y n f → IsStep y n' f
is_step_above y n n' f le h = record {
  first = λ m low. h.first m (omega arith);
  fires = λ m low. h.fires m (omega arith);
  steps = λ m low. h.steps m (omega arith);
  spends = let less : f.left < n = h.spends in omega arith;
}

follow_above : (y : Spec) (n n' : ℕ) (t : Tree) (fs : List Firing) (u : Tree) (left : ℕ) → n ≤ n' → Follow y n t fs u left → Follow y n' t fs u left
follow_above y n n' t [] u left le h = (h.0, let low = h.1 in omega arith)
follow_above y n n' t (f ∷ fs) u left le h = (h.0, is_step_above y n n' f le h.1, h.2)

follow_join : (y : Spec) (n k : ℕ) (a b c : Tree) (fs gs : List Firing) (left : ℕ) → Follow y n a fs b k → Follow y k b gs c left
    → Follow y n a (fs ++ gs) c left
follow_join y n k a b c [] gs left h later = subst (λ x. Follow y n x gs c left) (sym h.0) (follow_above y k n b gs c left h.1 later)
follow_join y n k a b c (f ∷ fs) gs left h later = (h.0, h.1, follow_join y f.left k f.after b c fs gs left h.2 later)

-- a trace leads from a tree to the answer in its place
abbrev Leads : {A : Type 0} → Spec → (A → Tree) → (A → Type 0) → ℕ → Tree → Traced A → Type 0
Leads y whole Good n start t = elim t.outcome [
  | Done v left ↦ Good v × Follow y n start t.firings (whole v) left
  | Over ↦ (u : Tree) × Follow y n start t.firings u 0
]

-- one after the other
leads_next : {A B : Type 0} (y : Spec) (n : ℕ) (start : Tree) (whole : A → Tree) (Good : A → Type 0) (whole' : B → Tree) (Good' : B → Type 0)
    (t : Traced A) (f : A → ℕ → Traced B)
    → Leads y whole Good n start t → ((v : A) (left : ℕ) → Good v → Leads y whole' Good' left (whole v) (f v left)) → Leads y whole' Good' n start (t next f)
leads_next {A} {B} y n start whole Good whole' Good' t f h later = by_first t.outcome h
  where
    by_later : (v : A) (left : ℕ) → Follow y n start t.firings (whole v) left → (o : Outcome B) (gs : List Firing)
        → (elim o as (λ _. Type 0) [ Done w rest ↦ Good' w × Follow y left (whole v) gs (whole' w) rest | Over ↦ (u : Tree) × Follow y left (whole v) gs u 0 ])
        → (elim o as (λ _. Type 0) [
          | Done w rest ↦ Good' w × Follow y n start (t.firings ++ gs) (whole' w) rest
          | Over ↦ (u : Tree)
              × Follow y n start (t.firings ++ gs) u 0
        ])
    by_later v left first (Done w rest) gs k = (k.0, follow_join y n left start (whole v) (whole' w) t.firings gs rest first k.1)
    by_later v left first Over gs k = (k.0, follow_join y n left start (whole v) k.0 t.firings gs 0 first k.1)

    by_first : (o : Outcome A) → (elim o as (λ _. Type 0) [
      | Done v left ↦ Good v × Follow y n start t.firings (whole v) left
      | Over ↦ (u : Tree)
          × Follow y n start t.firings u 0
    ])
        → Leads y whole' Good' n start (elim o as (λ _. Traced B) [
          | Done a left ↦ record { firings = t.firings ++ (f a left).firings; outcome = (f a left).outcome }
          | Over ↦ record { firings = t.firings; outcome = Over }
        ])
    by_first (Done v left) k = by_later v left k.1 (f v left).outcome (f v left).firings (later v left k.0)
    by_first Over k = k

-- where a step of what stands in a place is the step of the whole term
record Passes (y : Spec) (whole : Tree → Tree) : Type 0 where
  steps : (m : ℕ) (u u' : Tree) → step y m u ≡ Some u' → step y m (whole u) ≡ Some (whole u')
  first : (m : ℕ) (u r : Tree) → first_redex y m u ≡ Some r → first_redex y m (whole u) ≡ Some r

record PassesAll (y : Spec) (whole : Trees → Tree) : Type 0 where
  steps : (m : ℕ) (us us' : Trees) → step_all y m us ≡ Some us' → step y m (whole us) ≡ Some (whole us')
  first : (m : ℕ) (us : Trees) (r : Tree) → first_redex_all y m us ≡ Some r → first_redex y m (whole us) ≡ Some r

abbrev own_redex : Tree → Option Tree → Option Tree
own_redex t o = elim o [ Some v ↦ Some t | None ↦ None ]

abbrev redex_by : Spec → ℕ → Tree → Option Tree → Option Tree
redex_by y n t o = elim o [ Some u ↦ Some u | None ↦ own_redex t (fired y n t) ]

abbrev redex_or : Spec → ℕ → Trees → Option Tree → Option Tree
redex_or y n ts o = elim o [ Some u ↦ Some u | None ↦ first_redex_all y n ts ]

mutual
  no_redex : (y : Spec) (n : ℕ) (t : Tree) → Normal y t → first_redex y n t ≡ None
  no_redex y n (Appl name quoted args anns) h = ap (redex_by y n (Appl name quoted args anns)) (no_redex_all y n args h.0)
      ∙ ap (own_redex (Appl name quoted args anns)) (h.1.0 n)
  no_redex y n (Tree.Int z anns) h = refl
  no_redex y n (Tree.Items items anns) h = refl
  no_redex y n (Tree.Hole inner anns) h = refl

  no_redex_all : (y : Spec) (n : ℕ) (ts : Trees) → Normal_all y ts → first_redex_all y n ts ≡ None
  no_redex_all y n none h = refl
  no_redex_all y n (more t ts) h = ap (redex_or y n ts) (no_redex y n t h.0) ∙ no_redex_all y n ts h.1

passes_inside : (y : Spec) (whole : Tree → Tree) (name : List ℕ) → Passes y whole → PassesAll y (λ us. whole (application name us))
passes_inside y whole name h = record {
  steps = λ m us us' e. h.steps m (application name us) (application name us') (ap (by_arguments y m name _ us none) e);
  first = λ m us r e. h.first m (application name us) r (ap (redex_by y m (application name us)) e);
}

passes_first : (y : Spec) (whole : Trees → Tree) (ts : Trees) → PassesAll y whole → Passes y (λ u. whole (more u ts))
passes_first y whole ts h = record {
  steps = λ m u u' e. h.steps m (more u ts) (more u' ts) (ap (by_first y m u ts) e);
  first = λ m u r e. h.first m (more u ts) r (ap (redex_or y m ts) e);
}

passes_later : (y : Spec) (whole : Trees → Tree) (v : Tree) → Normal y v → PassesAll y whole → PassesAll y (λ us. whole (more v us))
passes_later y whole v n h = record {
  steps = λ m us us' e. h.steps m (more v us) (more v us') (ap (by_first y m v us) (no_step y m v n) ∙ ap (by_rest v) e);
  first = λ m us r e. h.first m (more v us) r (ap (redex_or y m us) (no_redex y m v n) ∙ e);
}

-- a tracer, and one of calls, whose firings are steps
abbrev Right : Spec → Tracer → Type 0
Right y tracer = (whole : Tree → Tree) → Passes y whole → (n : ℕ) (s : Substitution) (t : Term) → Normal_values y s
    → Leads y whole (Normal y) n (whole (instance s t)) (tracer whole n s t)

abbrev RightCalls : Spec → CallTracer → Type 0
RightCalls y tracer = (whole : Tree → Tree) → Passes y whole → (n : ℕ) (name : List ℕ) (us : Trees) → Normal_all y us
    → Leads y whole (Normal y) n (whole (application name us)) (tracer whole n (application name us))

abbrev instance_by : Substitution → Word → Terms → Option Tree → Tree
instance_by s w ts o = elim o [ Some v ↦ v | None ↦ application w.bytes (instances s ts) ]

right_head : (y : Spec) (tracer : CallTracer) → RightCalls y tracer → (whole : Tree → Tree) → Passes y whole
    → (n : ℕ) (s : Substitution) (w : Word) (ts : Terms) → Normal_values y s
    → Leads y (λ us. whole (application w.bytes us)) (Normal_all y) n (whole (application w.bytes (instances s ts)))
    (trace_all tracer (λ us. whole (application w.bytes us)) n s ts)
    → (o : Option Tree) → value_of s w.bytes ≡ o → Leads y whole (Normal y) n (whole (instance_by s w ts o)) (trace_head tracer whole n s w ts o)
right_head y tracer right whole passes n s w ts h all (Some v) e = (value_normal y s w.bytes v h e, (refl, omega arith))
right_head y tracer right whole passes n s w ts h all None e =
    leads_next y n (whole (application w.bytes (instances s ts))) (λ us. whole (application w.bytes us)) (Normal_all y) whole (Normal y)
    (trace_all tracer (λ us. whole (application w.bytes us)) n s ts) (λ vs left. tracer whole left (application w.bytes vs)) all
    (λ vs left normal. right whole passes left w.bytes vs normal)

mutual
  right_trace : (y : Spec) (tracer : CallTracer) → RightCalls y tracer → Right y (trace tracer)
  right_trace y tracer right whole passes n s (Apply w ts) h =
      right_head y tracer right whole passes n s w ts h
      (right_trace_all y tracer right (λ us. whole (application w.bytes us)) (passes_inside y whole w.bytes passes) n s ts h)
      (value_of s w.bytes) refl

  right_trace_all : (y : Spec) (tracer : CallTracer) → RightCalls y tracer → (whole : Trees → Tree) → PassesAll y whole
      → (n : ℕ) (s : Substitution) (ts : Terms) → Normal_values y s
      → Leads y whole (Normal_all y) n (whole (instances s ts)) (trace_all tracer whole n s ts)
  right_trace_all y tracer right whole passes n s Terms.none h = (tt, (refl, omega arith))
  right_trace_all y tracer right whole passes n s (Terms.more t ts) h =
      leads_next y n (whole (more (instance s t) (instances s ts))) (λ u. whole (more u (instances s ts))) (Normal y) whole (Normal_all y)
      (trace tracer (λ u. whole (more u (instances s ts))) n s t)
      (λ v left. trace_all tracer (λ us. whole (more v us)) left s ts next λ vs rest. quiet (Done (more v vs) rest))
      (right_trace y tracer right (λ u. whole (more u (instances s ts))) (passes_first y whole (instances s ts) passes) n s t h)
      (λ v left normal. leads_next y left (whole (more v (instances s ts))) (λ us. whole (more v us)) (Normal_all y) whole (Normal_all y)
      (trace_all tracer (λ us. whole (more v us)) left s ts) (λ vs rest. quiet (Done (more v vs) rest))
      (right_trace_all y tracer right (λ us. whole (more v us)) (passes_later y whole v normal passes) left s ts h)
      (λ vs rest normal_vs. ((normal, normal_vs), (refl, omega arith))))

right_call : (y : Spec) → LeftSidesApply y → (tracer : Tracer) → Right y tracer → RightCalls y (trace_call y tracer)
right_call y heads tracer right whole passes n name us normal_us = by_found (first_rule y (Eval y) y.rules n u) refl
  where
    u : Tree
    u = application name us

    never : (c : ℕ) → Costs (λ n. first_rule y (Eval y) y.rules n u) None c → (m : ℕ) → fired y m u ≡ None
    never c costs m = elim (below_or_from m c) as (λ x. fired y m u ≡ None) [
      | inl low ↦ ap fired_of (costs.short m low)
      | inr found ↦ ap fired_of (costs.enough m found.0 found.1)
    ]

    by_found : (o : Outcome (Option Match)) → first_rule y (Eval y) y.rules n u ≡ o
        → Leads y whole (Normal y) n (whole u) (elim o as (λ _. Traced Tree) [
          | Over ↦ quiet Over
          | Done found left ↦ elim found [
            | None ↦ quiet (Done u left)
            | Some m ↦ record {
              firings = firing whole u m left ∷ (tracer whole left m.values m.rule.right).firings;
              outcome =
                  (tracer whole left m.values m.rule.right).outcome;
            }
          ]
        ])
    by_found Over b = (whole u, (refl, omega arith))
    by_found (Done None middle) b =
        let (c, sum_c, costs_c) = steady_first_rule y (Eval y) (steady_Eval y) y.rules u n None middle b in
        let plain : (Unconditional y → (middle ≡ n) × Every (λ r. binds y r.left u ≡ None) y.rules) = λ h.
        subst (plain_answer y.rules y n u) b (plain_first_rule y y.rules n u h) in
        ((normal_us, (never c costs_c, λ h. (plain h).1)), (refl, omega arith))
    by_found (Done (Some m) middle) b =
        let low : middle < n = match_spends y (Eval y) (steady_Eval y) y.rules n u m middle b in
        let (c, sum_c, costs_c) = steady_first_rule y (Eval y) (steady_Eval y) y.rules u n (Some m) middle b in
        let contractum : Tree = instance m.values m.rule.right in
        let fires : ((k : ℕ) → n ≤ k → fired y k u ≡ Some contractum) = λ k le. ap fired_of (costs_c.enough k (k - c) (omega arith)) in
        let one : IsStep y n (firing whole u m middle) = record {
          first = λ k le. passes.first k u u (ap (redex_by y k u) (no_redex_all y k us normal_us) ∙ ap (own_redex u) (fires k le));
          fires = fires;
          steps = λ k le. passes.steps k u contractum (ap (by_arguments y k name _ us none) (no_step_all y k us normal_us) ∙ fires k le);
          spends = low;
        } in
        by_later one (tracer whole middle m.values m.rule.right).outcome (tracer whole middle m.values m.rule.right).firings
        (right whole passes middle m.values m.rule.right (found_normal y y.rules n u m middle heads normal_us b))
      where
        by_later : IsStep y n (firing whole u m middle) → (o : Outcome Tree) (gs : List Firing)
            → (elim o as (λ _. Type 0) [
              | Done w rest ↦ Normal y w × Follow y middle (whole (instance m.values m.rule.right)) gs (whole w) rest
              | Over
                  ↦ (v : Tree) × Follow y middle (whole (instance m.values m.rule.right)) gs v 0
            ])
            → (elim o as (λ _. Type 0) [
              | Done w rest ↦ Normal y w × Follow y n (whole u) (firing whole u m middle ∷ gs) (whole w) rest
              | Over ↦
                  (v : Tree) × Follow y n (whole u) (firing whole u m middle ∷ gs) v 0
            ])
        by_later one (Done w rest) gs k = (k.0, (refl, one, k.1))
        by_later one Over gs k = (k.0, (refl, one, k.1))

right_within : (y : Spec) → LeftSidesApply y → (d : ℕ) → Right y (tracer_within y d)
right_within y heads zero whole passes n s t h = (whole (instance s t), (refl, omega arith))
right_within y heads (suc d) whole passes n s t h = right_trace y (trace_call y (tracer_within y d))
    (right_call y heads (tracer_within y d) (right_within y heads d)) whole passes n s t h

nothing_round : (y : Spec) → Passes y (λ u. u)
nothing_round y = record { steps = λ m u u' e. e; first = λ m u r e. e }

pub trace_law : TraceLaw
unfolding Trace
trace_law y kept n t = (within_agrees y (suc n) (λ u. u) n [] t (omega arith), arrives (Trace y n t).outcome (Trace y n t).firings leads)
  where
    leads : Leads y (λ u. u) (Normal y) n (tree_of t) (Trace y n t)
    leads = right_within y (left_sides_apply y kept) (suc n) (λ u. u) (nothing_round y) n [] t tt

    arrives : (o : Outcome Tree) (fs : List Firing)
        → (elim o as (λ _. Type 0) [ Done v left ↦ Normal y v × Follow y n (tree_of t) fs v left | Over ↦ (u : Tree) × Follow y n (tree_of t) fs u 0 ])
        → (elim o as (λ _. Type 0) [ Done v left ↦ Follow y n (tree_of t) fs v left | Over ↦ (u : Tree) × Follow y n (tree_of t) fs u 0 ])
    arrives (Done v left) fs h = h.1
    arrives Over fs h = h

follow_steps : (y : Spec) (k n : ℕ) → k ≤ n → (t : Tree) (fs : List Firing) (u : Tree) (left : ℕ) → Follow y k t fs u left → Steps y n (length fs) t u
follow_steps y k n le t [] u left h = h.0
follow_steps y k n le t (f ∷ fs) u left h =
    let less : f.left < k = h.1.spends in
    subst (λ x. Steps y n (suc (length fs)) x u) h.0 (f.after, h.1.steps n le, follow_steps y f.left n (omega arith) f.after fs u left h.2)

follow_few : (y : Spec) (n : ℕ) (t : Tree) (fs : List Firing) (u : Tree) (left : ℕ) → Follow y n t fs u left → length fs + left ≤ n
follow_few y n t [] u left h = let low = h.1 in omega arith
follow_few y n t (f ∷ fs) u left h =
    let low : length fs + left ≤ f.left = follow_few y f.left f.after fs u left h.2 in
    let less : f.left < n = h.1.spends in omega arith

pub follow_law : FollowLaw
follow_law y n t fs u left h = (follow_steps y n n (omega arith) t fs u left h, follow_few y n t fs u left h)
