-- Running the moves of a term is tracing it; and a rule that fires goes on with the moves of its right side.
use Rattle.std.proofs.Common.{refl, sym, ap, ◌∙◌, append_assoc}
use Rattle.std.proofs.lemmas.List.{append-nil}
use Rattle.std.specs.Prelude.{ℕ, suc, ◌≡◌, List, [], ◌∷◌, ◌++◌, Option, Some, None, drop}
use Rattle.rx_term.specs.Tree.{Tree, Trees, none, more}
use Rattle.rec_syntax.specs.Syntax.{Term, Terms, Apply, Spec}
use Rattle.rec_sorts.specs.Lookup.{count}
use Rattle.rec_sorts.specs.Binding.{Substitution, value_of, application, instance, instances}
use Rattle.rec_sorts.specs.Evaluation.{Outcome, Done, Over, Match, first_rule, Eval}
use Rattle.rec_match.specs.Inner.Asking.{stack_on}
use Rattle.rec_engine.specs.Flat.{taken}
use Rattle.rec_engine.proofs.FlatLemmas.{size, taken-stacked, drop-stacked}
use Rattle.rec_trace.specs.Trace.{Firing, Traced, quiet, ◌next◌, trace, trace_all, firing, Trace, TraceIn, TraceCall}
use Rattle.rec_trace.specs.States.{Move, Give, Invoke, moves, moves_all, written, ahead, firing_then, after_call, StateLaw}
use Rattle.rec_trace.proofs.TraceLemmas.{depth_law}

-- what moves write down

size-instances : (s : Substitution) (ts : Terms) → size (instances s ts) ≡ count ts
size-instances s Terms.none = refl
size-instances s (Terms.more t ts) = ap suc (size-instances s ts)

written-call : (name : List ℕ) (k : ℕ) (ms : List Move) (vs : Trees) (st : List Tree) → size vs ≡ k
    → written (Invoke name k ∷ ms) (stack_on vs st) ≡ written ms (application name vs ∷ st)
written-call name k ms vs st e =
    ap (λ us. written ms (application name us ∷ drop k (stack_on vs st))) (taken-stacked vs st k e)
    ∙ ap (λ r. written ms (application name vs ∷ r)) (drop-stacked vs st k e)

mutual
  pub written-moves : (s : Substitution) (t : Term) (ms : List Move) (st : List Tree) → written (moves s t ++ ms) st ≡ written ms (instance s t ∷ st)
  written-moves s (Apply w ts) ms st = by_value (value_of s w.bytes) (written-all s ts (Invoke w.bytes (count ts) ∷ ms) st)
    where
      by_value : (o : Option Tree) → written (moves_all s ts ++ Invoke w.bytes (count ts) ∷ ms) st ≡ written (Invoke w.bytes (count ts) ∷ ms)
          (stack_on (instances s ts) st)
          → written ((elim o [ Some v ↦ Give v ∷ [] | None ↦ moves_all s ts ++ Invoke w.bytes (count ts) ∷ [] ]) ++ ms) st
          ≡ written ms ((elim o [ Some v ↦ v | None ↦ application w.bytes (instances s ts) ]) ∷ st)
      by_value (Some v) h = refl
      by_value None h = ap (λ x. written x st) (append_assoc (moves_all s ts) (Invoke w.bytes (count ts) ∷ []) ms) ∙ h
          ∙ written-call w.bytes (count ts) ms (instances s ts) st (size-instances s ts)

  written-all : (s : Substitution) (ts : Terms) (ms : List Move) (st : List Tree)
      → written (moves_all s ts ++ ms) st ≡ written ms (stack_on (instances s ts) st)
  written-all s Terms.none ms st = refl
  written-all s (Terms.more t ts) ms st = ap (λ x. written x st) (append_assoc (moves s t) (moves_all s ts) ms)
      ∙ written-moves s t (moves_all s ts ++ ms) st ∙ written-all s ts ms (instance s t ∷ st)

-- traces one after the other

abbrev extended : {A : Type 0} → List Firing → Traced A → Traced A
extended fs t = record { firings = fs ++ t.firings; outcome = t.outcome }

next-assoc : {A B C : Type 0} (t : Traced A) (f : A → ℕ → Traced B) (g : B → ℕ → Traced C) → ((t next f) next g) ≡ (t next λ a left. f a left next g)
next-assoc {A} {B} {C} t f g = by_first t.outcome
  where
    by_second : (fs gs : List Firing) (p : Outcome B)
        → ◌≡◌ {A = Traced C} (elim p as (λ _. Traced C) [
          | Done b left ↦ record {
            firings = (fs ++ gs) ++ (g b left).firings;
            outcome =
                (g b left).outcome;
          }
          | Over ↦ record { firings = fs ++ gs; outcome = Over }
        ])
        (extended fs (elim p as (λ _. Traced C) [
          | Done b left ↦ record { firings = gs ++ (g b left).firings; outcome = (g b left).outcome }
          | Over ↦
              record { firings = gs; outcome = Over }
        ]))
    by_second fs gs (Done b left) = ap (λ (hs : List Firing). let r : Traced C = record { firings = hs; outcome = (g b left).outcome } in r)
        (append_assoc fs gs (g b left).firings)
    by_second fs gs Over = refl

    by_first : (o : Outcome A) → ◌≡◌ {A = Traced C}
        ((elim o as (λ _. Traced B) [
          | Done a left ↦ record { firings = t.firings ++ (f a left).firings; outcome = (f a left).outcome }
          | Over ↦
              record { firings = t.firings; outcome = Over }
        ]) next g)
        (elim o as (λ _. Traced C) [
          | Done a left ↦ record { firings = t.firings ++ (f a left next g).firings; outcome = (f a left next g).outcome }
          | Over ↦ record { firings = t.firings; outcome = Over }
        ])
    by_first (Done a left) = by_second t.firings (f a left).firings (f a left).outcome
    by_first Over = refl

next-ap : {A B : Type 0} (t : Traced A) (f g : A → ℕ → Traced B) → ((a : A) (left : ℕ) → t.outcome ≡ Done a left → f a left ≡ g a left)
    → (t next f) ≡ (t next g)
next-ap {A} {B} t f g h = by_outcome t.outcome refl
  where
    by_outcome : (o : Outcome A) → t.outcome ≡ o → ◌≡◌ {A = Traced B}
        (elim o as (λ _. Traced B) [
          | Done a left ↦ record { firings = t.firings ++ (f a left).firings; outcome = (f a left).outcome }
          | Over ↦
              record { firings = t.firings; outcome = Over }
        ])
        (elim o as (λ _. Traced B) [
          | Done a left ↦ record { firings = t.firings ++ (g a left).firings; outcome = (g a left).outcome }
          | Over ↦
              record { firings = t.firings; outcome = Over }
        ])
    by_outcome (Done a left) e = ap (λ x. extended t.firings x) (h a left e)
    by_outcome Over e = refl

-- there are as many values as terms
abbrev Sized : ℕ → Outcome Trees → Type 0
Sized k (Done vs left) = size vs ≡ k
Sized k Over = Unit {0}

sized-next : {A : Type 0} (t : Traced A) (f : A → ℕ → Traced Trees) (k : ℕ) → ((a : A) (left : ℕ) → Sized k (f a left).outcome) → Sized k (t next f).outcome
sized-next {A} t f k h = by_outcome t.outcome
  where
    by_outcome : (o : Outcome A) → Sized k (elim o as (λ _. Traced Trees) [
      | Done a left ↦ record { firings = t.firings ++ (f a left).firings; outcome = (f a left).outcome }
      | Over ↦ record {
        firings = t.firings;
        outcome = Over;
      }
    ]).outcome
    by_outcome (Done a left) = h a left
    by_outcome Over = tt

sized-more : (v : Tree) (t : Traced Trees) (k : ℕ) → Sized k t.outcome → Sized (suc k) (t next λ vs rest. quiet (Done (more v vs) rest)).outcome
sized-more v t k h = by_outcome t.outcome h
  where
    by_outcome : (o : Outcome Trees) → Sized k o → Sized (suc k)
        (elim o as (λ _. Traced Trees) [
          | Done vs rest ↦ record { firings = t.firings ++ []; outcome = Done (more v vs) rest }
          | Over ↦
              record { firings = t.firings; outcome = Over }
        ]).outcome
    by_outcome (Done vs rest) h = ap suc h
    by_outcome Over h = tt

sized : (y : Spec) (whole : Trees → Tree) (n : ℕ) (s : Substitution) (ts : Terms) → Sized (count ts) (trace_all (TraceCall y) whole n s ts).outcome
sized y whole n s Terms.none = refl
sized y whole n s (Terms.more t ts) = sized-next (trace (TraceCall y) (λ u. whole (more u (instances s ts))) n s t) (λ v left.
    trace_all (TraceCall y) (λ us. whole (more v us)) left s ts next λ vs rest. quiet (Done (more v vs) rest)) (suc (count ts))
    (λ v left. sized-more v (trace_all (TraceCall y) (λ us. whole (more v us)) left s ts) (count ts) (sized y (λ us. whole (more v us)) left s ts))

of_done : (k : ℕ) (vs : Trees) (left : ℕ) (o : Outcome Trees) → o ≡ Done vs left → Sized k o → size vs ≡ k
of_done k vs left (Done us rest) e h = let is : us ≡ vs = cc e in ap size (sym is) ∙ h
of_done k vs left Over e h = absurd (cc e)

-- running a call of values that were stacked
run-call : (y : Spec) (name : List ℕ) (k n : ℕ) (ms : List Move) (vs : Trees) (st : List Tree) → size vs ≡ k
    → ahead y n (Invoke name k ∷ ms) (stack_on vs st) ≡ (TraceCall y (λ u. written ms (u ∷ st)) n (application name vs) next λ v left. ahead y left ms (v ∷ st))
run-call y name k n ms vs st e =
    ap (λ us. TraceCall y (λ u. written ms (u ∷ drop k (stack_on vs st))) n (application name us) next λ v left.
    ahead y left ms (v ∷ drop k (stack_on vs st))) (taken-stacked vs st k e)
    ∙ ap (λ r. TraceCall y (λ u. written ms (u ∷ r)) n (application name vs) next λ v left. ahead y left ms (v ∷ r)) (drop-stacked vs st k e)

abbrev head_trace : Spec → (Tree → Tree) → ℕ → Substitution → List ℕ → Terms → Option Tree → Traced Tree
head_trace y whole n s name ts o = elim o [
  | Some v ↦ quiet (Done v n)
  | None ↦ trace_all (TraceCall y) (λ us. whole (application name us)) n s ts next λ vs left. TraceCall y whole left (application name vs)
]

mutual
  -- running the moves of a term is tracing it in its place, and then running the rest with its value on top
  run-moves : (y : Spec) (n : ℕ) (s : Substitution) (t : Term) (ms : List Move) (st : List Tree)
      → ahead y n (moves s t ++ ms) st ≡ (trace (TraceCall y) (λ u. written ms (u ∷ st)) n s t next λ v left. ahead y left ms (v ∷ st))
  run-moves y n s (Apply w ts) ms st =
      by_value (value_of s w.bytes)
      (run-all y n s ts (Invoke w.bytes (count ts) ∷ ms) st (λ us. written ms (application w.bytes us ∷ st))
      (λ us e. written-call w.bytes (count ts) ms us st e))
    where
      by_value : (o : Option Tree)
          → ahead y n (moves_all s ts ++ Invoke w.bytes (count ts) ∷ ms) st
          ≡ (trace_all (TraceCall y) (λ us. written ms (application w.bytes us ∷ st)) n s ts next λ vs left.
          ahead y left (Invoke w.bytes (count ts) ∷ ms) (stack_on vs st))
          → ahead y n ((elim o [ Some v ↦ Give v ∷ [] | None ↦ moves_all s ts ++ Invoke w.bytes (count ts) ∷ [] ]) ++ ms) st
          ≡ (head_trace y (λ u. written ms (u ∷ st)) n s w.bytes ts o next λ v left. ahead y left ms (v ∷ st))
      by_value (Some v) h = refl
      by_value None h =
          let all : Traced Trees = trace_all (TraceCall y) (λ us. written ms (application w.bytes us ∷ st)) n s ts in
          ap (λ x. ahead y n x st) (append_assoc (moves_all s ts) (Invoke w.bytes (count ts) ∷ []) ms)
          ∙ h
          ∙ next-ap all (λ vs left. ahead y left (Invoke w.bytes (count ts) ∷ ms) (stack_on vs st))
          (λ vs left. TraceCall y (λ u. written ms (u ∷ st)) left (application w.bytes vs) next λ v left. ahead y left ms (v ∷ st))
          (λ vs left e. run-call y w.bytes (count ts) left ms vs st (of_done (count ts) vs left all.outcome e
          (sized y (λ us. written ms (application w.bytes us ∷ st)) n s ts)))
          ∙ sym (next-assoc all (λ vs left. TraceCall y (λ u. written ms (u ∷ st)) left (application w.bytes vs)) (λ v left. ahead y left ms (v ∷ st)))

  run-all : (y : Spec) (n : ℕ) (s : Substitution) (ts : Terms) (ms : List Move) (st : List Tree) (place : Trees → Tree)
      → ((us : Trees) → size us ≡ count ts → written ms (stack_on us st) ≡ place us)
      → ahead y n (moves_all s ts ++ ms) st ≡ (trace_all (TraceCall y) place n s ts next λ vs left. ahead y left ms (stack_on vs st))
  run-all y n s Terms.none ms st place h = refl
  run-all y n s (Terms.more t ts) ms st place h =
      let here : ((u : Tree) → written (moves_all s ts ++ ms) (u ∷ st) ≡ place (more u (instances s ts))) =
      λ u. written-all s ts ms (u ∷ st) ∙ h (more u (instances s ts)) (ap suc (size-instances s ts)) in
      ap (λ x. ahead y n x st) (append_assoc (moves s t) (moves_all s ts) ms)
      ∙ run-moves y n s t (moves_all s ts ++ ms) st
      ∙ (λ i. trace (TraceCall y) (λ u. here u i) n s t next λ v left. ahead y left (moves_all s ts ++ ms) (v ∷ st))
      ∙ next-ap (trace (TraceCall y) (λ u. place (more u (instances s ts))) n s t) (λ v left. ahead y left (moves_all s ts ++ ms) (v ∷ st))
      (λ v left. (trace_all (TraceCall y) (λ us. place (more v us)) left s ts next λ vs rest. quiet (Done (more v vs) rest)) next λ vs rest.
      ahead y rest ms (stack_on vs st))
      (λ v left e. run-all y left s ts ms (v ∷ st) (λ us. place (more v us)) (λ us e2. h (more v us) (ap suc e2))
      ∙ sym (next-assoc (trace_all (TraceCall y) (λ us. place (more v us)) left s ts) (λ vs rest. quiet (Done (more v vs) rest)) (λ vs rest.
      ahead y rest ms (stack_on vs st))))
      ∙ sym (next-assoc (trace (TraceCall y) (λ u. place (more u (instances s ts))) n s t) (λ v left.
      trace_all (TraceCall y) (λ us. place (more v us)) left s ts next λ vs rest. quiet (Done (more v vs) rest)) (λ vs rest.
      ahead y rest ms (stack_on vs st)))

-- the moves of a term come to its trace, and then to what follows with its value on top
pub begins : (y : Spec) (n : ℕ) (s : Substitution) (t : Term) (ms : List Move) (st : List Tree)
    → ahead y n (moves s t ++ ms) st ≡ (TraceIn y (λ u. written ms (u ∷ st)) n s t next λ v left. ahead y left ms (v ∷ st))
begins y n s t ms st = run-moves y n s t ms st ∙ ap (λ x. x next λ v left. ahead y left ms (v ∷ st)) (sym (depth_law y (λ u. written ms (u ∷ st)) n s t))

pub next-done : (t : Traced Tree) → (t next λ v left. quiet (Done v left)) ≡ t
next-done t = by_outcome t.outcome
  where
    by_outcome : (o : Outcome Tree) → ◌≡◌ {A = Traced Tree}
        (elim o as (λ _. Traced Tree) [
          | Done v left ↦ record { firings = t.firings ++ []; outcome = Done v left }
          | Over ↦ record {
            firings =
                t.firings;
            outcome = Over;
          }
        ])
        (record { firings = t.firings; outcome = o })
    by_outcome (Done v left) = ap (λ (fs : List Firing). let r : Traced Tree = record { firings = fs; outcome = Done v left } in r) (append-nil t.firings)
    by_outcome Over = refl

starts : (y : Spec) (n : ℕ) (t : Term) → ahead y n (moves [] t) [] ≡ Trace y n t
unfolding Trace TraceIn
starts y n t = ap (λ ms. ahead y n ms []) (sym (append-nil (moves [] t))) ∙ begins y n [] t [] [] ∙ next-done (TraceIn y (λ u. u) n [] t)

first_then : (f : Firing) (t : Traced Tree) (g : Tree → ℕ → Traced Tree) → ((firing_then f t) next g) ≡ firing_then f (t next g)
first_then f t g = by_outcome t.outcome
  where
    by_outcome : (o : Outcome Tree) → ◌≡◌ {A = Traced Tree}
        (elim o as (λ _. Traced Tree) [
          | Done v left ↦ record { firings = (f ∷ t.firings) ++ (g v left).firings; outcome = (g v left).outcome }
          | Over
              ↦ record { firings = f ∷ t.firings; outcome = Over }
        ])
        (firing_then f (elim o as (λ _. Traced Tree) [
          | Done v left ↦ record {
            firings = t.firings ++ (g v left).firings;
            outcome =
                (g v left).outcome;
          }
          | Over ↦ record { firings = t.firings; outcome = Over }
        ]))
    by_outcome (Done v left) = refl
    by_outcome Over = refl

called : (y : Spec) (n : ℕ) (name : List ℕ) (k : ℕ) (ms : List Move) (st : List Tree)
    → ahead y n (Invoke name k ∷ ms) st
    ≡ after_call y ms (drop k st) (application name (taken k st none)) (first_rule y (Eval y) y.rules n (application name (taken k st none)))
unfolding TraceCall
called y n name k ms st = by_found (first_rule y (Eval y) y.rules n (application name (taken k st none)))
  where
    by_found : (o : Outcome (Option Match)) → ◌≡◌ {A = Traced Tree}
        ((elim o as (λ _. Traced Tree) [
          | Over ↦ quiet Over
          | Done found left ↦ elim found [
            | None ↦ quiet (Done (application name (taken k st none)) left)
            | Some m ↦ record {
              firings = firing (λ v. written ms (v ∷ drop k st)) (application name (taken k st none)) m
                  left ∷ (TraceIn y (λ v. written ms (v ∷ drop k st)) left m.values m.rule.right).firings;
              outcome =
                  (TraceIn y (λ v. written ms (v ∷ drop k st)) left m.values m.rule.right).outcome;
            }
          ]
        ]) next λ v left. ahead y left ms (v ∷ drop k st))
        (after_call y ms (drop k st) (application name (taken k st none)) o)
    by_found Over = refl
    by_found (Done None left) = refl
    by_found (Done (Some m) left) =
        first_then (firing (λ v. written ms (v ∷ drop k st)) (application name (taken k st none)) m left)
        (TraceIn y (λ v. written ms (v ∷ drop k st)) left m.values m.rule.right) (λ v left. ahead y left ms (v ∷ drop k st))
        ∙ ap (firing_then (firing (λ v. written ms (v ∷ drop k st)) (application name (taken k st none)) m left))
        (sym (begins y left m.values m.rule.right ms (drop k st)))

pub state_law : (y : Spec) → StateLaw y
state_law y = record {
  begins = starts y;
  gives = λ n v ms st. refl;
  ends = λ n v st. refl;
  calls = called y;
}
