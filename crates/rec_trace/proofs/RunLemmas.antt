-- A row of moves that is gone through: it comes to what its term evaluates to.
use Rattle.std.proofs.Common.{◌+◌, ◌-◌, ◌<◌, ◌≤◌, ℕ, arith, refl, sym, ap, subst, ◌∙◌, length, drop}
use Rattle.std.proofs.Common.{min, take, append_assoc, append-nil, length-append, length-drop, vec_len}
use Rattle.std.specs.Prelude.{zero, suc, ◌≡◌, Bool, true, false, List, [], ◌∷◌, ◌++◌, Option, Some, None, reverse}
use Rattle.std.proofs.lemmas.List.{length-reverse, length-take}
use Rattle.rx_term.specs.Tree.{Tree, Trees, none, more}
use Rattle.rx_term.specs.Store.{Store}
use Rattle.rx_term.specs.declared.Term.{Term as Reference}
use Rattle.rec_syntax.specs.Syntax.{Term, Terms, Apply, Spec}
use Rattle.rec_sorts.specs.Lookup.{count}
use Rattle.rec_sorts.specs.Binding.{Substitution, application, value_of}
use Rattle.rec_sorts.specs.Evaluation.{Caller, Outcome, Done, Over, Eval, Call, ◌then◌, evaluate, evaluate_all}
use Rattle.rec_sorts.proofs.EquationLemmas.{meets}
use Rattle.rec_match.specs.Inner.Asking.{stack_on}
use Rattle.rec_match.proofs.RunLemmas.{trees_length}
use Rattle.rec_engine.specs.Flat.{taken}
use Rattle.rec_engine.proofs.FlatLemmas.{drop-stacked, size, taken-stacked}
use Rattle.rec_trace.specs.States.{Fits, Give, Invoke, Move, moves, moves_all}
use Rattle.rec_trace.specs.Rows.{floor_of, moves_of, stacked}
use Rattle.rec_trace.specs.Tracing.{Gives, IsInOrder, moves_at, result, stack_at}
use Rattle.rec_trace.specs.Inner.Turns.{CanTurn, HasRun, Moves}
use Rattle.rec_trace.specs.declared.row.Step.{Step}
use Rattle.rec_trace.specs.declared.row.Step.TheVariants as step
use Rattle.rec_trace.specs.declared.tracer.Tracer.{Tracer}

-- each term leaves one value
mutual
  pub fits-moves : (s : Substitution) (t : Term) (ms : List Move) (d e : ℕ) → Fits ms (suc d) e → Fits (moves s t ++ ms) d e
  fits-moves s (Apply w ts) ms d e h = by (value_of s w.bytes)
      (fits-all s ts (Invoke w.bytes (count ts) ∷ ms) d e (
        omega arith,
        subst (λ n. Fits ms n e) (let q : suc d ≡ suc (d + count ts - count ts) = omega arith in q) h,
      ))
    where
      by : (o : Option Tree) → Fits (moves_all s ts ++ (Invoke w.bytes (count ts) ∷ ms)) d e
          → Fits ((elim o [ Some v ↦ Give v ∷ [] | None ↦ moves_all s ts ++ Invoke w.bytes (count ts) ∷ [] ]) ++ ms) d e
      by (Some v) k = h
      by None k = subst (λ ns. Fits ns d e) (sym (append_assoc (moves_all s ts) (Invoke w.bytes (count ts) ∷ []) ms)) k

  fits-all : (s : Substitution) (ts : Terms) (ms : List Move) (d e : ℕ) → Fits ms (d + count ts) e → Fits (moves_all s ts ++ ms) d e
  fits-all s Terms.none ms d e h = subst (λ n. Fits ms n e) (let q : d + 0 ≡ d = omega arith in q) h
  fits-all s (Terms.more t ts) ms d e h =
      subst (λ ns. Fits ns d e) (sym (append_assoc (moves s t) (moves_all s ts) ms))
      (fits-moves s t (moves_all s ts ++ ms) d e (fits-all s ts ms (suc d) e
      (subst (λ n. Fits ms n e) (let q : d + suc (count ts) ≡ suc d + count ts = omega arith in q) h)))

pub fits-one : (s : Substitution) (t : Term) → Fits (moves s t) 0 1
fits-one s t = subst (λ ms. Fits ms 0 1) (append-nil (moves s t)) (fits-moves s t [] 0 1 refl)

-- there are as many values as terms
sized : (c : Caller) (n : ℕ) (s : Substitution) (ts : Terms) (vs : Trees) (left : ℕ) → evaluate_all c n s ts ≡ Done vs left → size vs ≡ count ts
sized c n s Terms.none none left e = refl
sized c n s Terms.none (more v vs) left e = absurd (cc e)
sized c n s (Terms.more t ts) vs left e = by (evaluate c n s t) e (λ m us rest f. sized c m s ts us rest f)
  where
    inner : (v : Tree) (o : Outcome Trees) → ((us : Trees) (rest : ℕ) → o ≡ Done us rest → size us ≡ count ts)
        → (o then λ us rest. Done (more v us) rest) ≡ Done vs left → size vs ≡ suc (count ts)
    inner v Over rec e = absurd (cc e)
    inner v (Done us rest) rec e = let is : more v us ≡ vs = cc e in ap size (sym is) ∙ ap suc (rec us rest refl)

    by : (o : Outcome Tree) → (o then λ v m. evaluate_all c m s ts then λ us rest. Done (more v us) rest) ≡ Done vs left
        → ((m : ℕ) (us : Trees) (rest : ℕ) → evaluate_all c m s ts ≡ Done us rest → size us ≡ count ts) → size vs ≡ suc (count ts)
    by Over e rec = absurd (cc e)
    by (Done v m) e rec = inner v (evaluate_all c m s ts) (rec m) e

invoked : (c : Caller) (name : List ℕ) (k left : ℕ) (ms : List Move) (vs : Trees) (st : List Tree) → size vs ≡ k
    → result c left (Invoke name k ∷ ms) (stack_on vs st) ≡ (c left (application name vs) then λ v rest. result c rest ms (v ∷ st))
invoked c name k left ms vs st e =
    ap (λ us. c left (application name us) then λ v rest. result c rest ms (v ∷ drop k (stack_on vs st))) (taken-stacked vs st k e)
    ∙ ap (λ s. c left (application name vs) then λ v rest. result c rest ms (v ∷ s)) (drop-stacked vs st k e)

mutual
  -- running the moves of a term is evaluating it, and then running the rest with its value on top
  run-moves : (c : Caller) (n : ℕ) (s : Substitution) (t : Term) (ms : List Move) (st : List Tree)
      → result c n (moves s t ++ ms) st ≡ (evaluate c n s t then λ v left. result c left ms (v ∷ st))
  run-moves c n s (Apply w ts) ms st = by_value (value_of s w.bytes) (run-all c n s ts (Invoke w.bytes (count ts) ∷ ms) st)
    where
      by_outcome : (o : Outcome Trees) → ((vs : Trees) (left : ℕ) → o ≡ Done vs left → size vs ≡ count ts)
          → (o then λ vs left. result c left (Invoke w.bytes (count ts) ∷ ms) (stack_on vs st))
          ≡ ((o then λ vs left. c left (application w.bytes vs)) then λ v left. result c left ms (v ∷ st))
      by_outcome Over h = refl
      by_outcome (Done vs left) h = invoked c w.bytes (count ts) left ms vs st (h vs left refl)

      by_value : (o : Option Tree) → result c n (moves_all s ts ++ Invoke w.bytes (count ts) ∷ ms) st ≡ (evaluate_all c n s ts then λ vs left.
          result c left (Invoke w.bytes (count ts) ∷ ms) (stack_on vs st))
          → result c n ((elim o [ Some v ↦ Give v ∷ [] | None ↦ moves_all s ts ++ Invoke w.bytes (count ts) ∷ [] ]) ++ ms) st
          ≡ ((elim o [ Some v ↦ Done v n | None ↦ evaluate_all c n s ts then λ vs left. c left (application w.bytes vs) ]) then λ v left.
          result c left ms (v ∷ st))
      by_value (Some v) h = refl
      by_value None h = ap (λ x. result c n x st) (append_assoc (moves_all s ts) (Invoke w.bytes (count ts) ∷ []) ms) ∙ h
          ∙ by_outcome (evaluate_all c n s ts) (λ vs left e. sized c n s ts vs left e)

  run-all : (c : Caller) (n : ℕ) (s : Substitution) (ts : Terms) (ms : List Move) (st : List Tree)
      → result c n (moves_all s ts ++ ms) st ≡ (evaluate_all c n s ts then λ vs left. result c left ms (stack_on vs st))
  run-all c n s Terms.none ms st = refl
  run-all c n s (Terms.more t ts) ms st =
      ap (λ x. result c n x st) (append_assoc (moves s t) (moves_all s ts) ms) ∙ run-moves c n s t (moves_all s ts ++ ms) st
      ∙ by (evaluate c n s t) (λ v left. run-all c left s ts ms (v ∷ st))
    where
      inner : (v : Tree) (o : Outcome Trees) → (o then λ vs left. result c left ms (stack_on vs (v ∷ st)))
          ≡ ((o then λ vs rest. Done (more v vs) rest) then λ vs left. result c left ms (stack_on vs st))
      inner v Over = refl
      inner v (Done vs left) = refl

      by : (o : Outcome Tree) → ((v : Tree) (left : ℕ) → result c left (moves_all s ts ++ ms) (v ∷ st) ≡ (evaluate_all c left s ts then λ vs rest.
          result c rest ms (stack_on vs (v ∷ st))))
          → (o then λ v left. result c left (moves_all s ts ++ ms) (v ∷ st))
          ≡ ((o then λ v left. evaluate_all c left s ts then λ vs rest. Done (more v vs) rest) then λ vs left. result c left ms (stack_on vs st))
      by Over h = refl
      by (Done v left) h = h v left ∙ inner v (evaluate_all c left s ts)

pub run-one : (c : Caller) (n : ℕ) (s : Substitution) (t : Term) → result c n (moves s t) [] ≡ evaluate c n s t
run-one c n s t = ap (λ ms. result c n ms []) (sym (append-nil (moves s t))) ∙ run-moves c n s t [] [] ∙ by (evaluate c n s t)
  where
    by : (o : Outcome Tree) → (o then λ v left. result c left [] (v ∷ [])) ≡ o
    by Over = refl
    by (Done v left) = refl

-- where symbols are called, that is evaluation
pub called-is : (y : Spec) (n : ℕ) (s : Substitution) (t : Term) → evaluate (Call y) n s t ≡ Eval y n s t
unfolding Call
called-is y n s t = sym (meets y n s t)

-- values that stand below those that a call takes are none of its
taken-front : (k : ℕ) (vs base : List Tree) (us : Trees) → k ≤ length vs → taken k (vs ++ base) us ≡ taken k vs us
taken-front zero vs base us le = refl
taken-front (suc k) [] base us le = let no : ⊥ = omega (arith, le) in absurd no
taken-front (suc k) (v ∷ vs) base us le = taken-front k vs base (more v us) (omega (arith, le))

drop-front : (k : ℕ) (vs base : List Tree) → k ≤ length vs → drop k (vs ++ base) ≡ drop k vs ++ base
drop-front zero vs base le = refl
drop-front (suc k) [] base le = let no : ⊥ = omega (arith, le) in absurd no
drop-front (suc k) (v ∷ vs) base le = drop-front k vs base (omega (arith, le))

-- a move of a row over some values, which stand above others
record Moved (c : Caller) (n n' : ℕ) (ms ms' : List Move) (vs base st' : List Tree) (j : ℕ) : Type 0 where
  values : List Tree
  fits : Fits (take j ms') (length values) 1
  rest : drop j ms' ≡ drop (suc j) ms
  stack : st' ≡ values ++ base
  comes : result c n' (take j ms') values ≡ result c n (take (suc j) ms) vs

moved : (c : Caller) (n n' : ℕ) (ms ms' : List Move) (vs base st' : List Tree) (j : ℕ) → Fits (take (suc j) ms) (length vs) 1
    → Moves c n n' ms (vs ++ base) ms' st' true → Moved c n n' ms ms' vs base st' j
moved c n n' [] ms' vs base st' j fits h = absurd h
moved c n n' (Give v ∷ ms) ms' vs base st' j fits h = record {
  values = v ∷ vs;
  fits = subst (λ xs. Fits (take j xs) (suc (length vs)) 1) (sym h.1) fits;
  rest = ap (drop j) h.1;
  stack = h.2;
  comes = ap (λ k. result c k (take j ms') (v ∷ vs)) h.0 ∙ ap (λ xs. result c n (take j xs) (v ∷ vs)) h.1;
}
moved c n n' (Invoke name k ∷ ms) ms' vs base st' j fits h =
    let long : length (drop k vs) ≡ length vs - k = length-drop k vs in
    record {
      values = h.0 ∷ drop k vs;
      fits = subst (λ xs. Fits (take j xs) (suc (length (drop k vs))) 1) (sym h.2) (subst (λ d. Fits (take j ms) (suc d) 1) (sym long) fits.1);
      rest = ap (drop j) h.2;
      stack = h.3 ∙ ap (λ xs. h.0 ∷ xs) (drop-front k vs base fits.0);
      comes =
          ap (λ xs. result c n' (take j xs) (h.0 ∷ drop k vs)) h.2
          ∙ ap (λ (o : Outcome Tree). o then λ v left. result c left (take j ms) (v ∷ drop k vs))
          (sym (ap (λ us. c n (application name us)) (sym (taken-front k vs base none fits.0)) ∙ h.1));
    }

failed : (c : Caller) (n n' : ℕ) (ms ms' : List Move) (vs base st' : List Tree) (j : ℕ) → Fits (take (suc j) ms) (length vs) 1
    → Moves c n n' ms (vs ++ base) ms' st' false → result c n (take (suc j) ms) vs ≡ Over
failed c n n' [] ms' vs base st' j fits h = absurd h
failed c n n' (Give v ∷ ms) ms' vs base st' j fits h = absurd h
failed c n n' (Invoke name k ∷ ms) ms' vs base st' j fits h =
    ap (λ (o : Outcome Tree). o then λ v left. result c left (take j ms) (v ∷ drop k vs))
    (ap (λ us. c n (application name us)) (sym (taken-front k vs base none fits.0)) ∙ h)

can-turn : (ms : List Move) (j d others : ℕ) → suc j ≤ length ms → Fits (take (suc j) ms) d 1 → CanTurn ms (d + others)
can-turn [] j d others le fits = let no : ⊥ = omega (arith, le) in absurd no
can-turn (Give v ∷ ms) j d others le fits = tt
can-turn (Invoke name k ∷ ms) j d others le fits = let f = fits.0 in omega (arith, f)

-- there are as many moves as steps
pub moves-long : (y : Spec) (w : Store) (ss : List Step) → length (moves_of y w ss) ≡ length ss
moves-long y w [] = refl
moves-long y w (step.Give t ∷ ss) = ap suc (moves-long y w ss)
moves-long y w (step.GiveLast t at ∷ ss) = ap suc (moves-long y w ss)
moves-long y w (step.Invoke f k ∷ ss) = ap suc (moves-long y w ss)

pub as-many : (y : Spec) (w : Store) (t : Tracer) → length (moves_at y w t) ≡ length t.row.steps.items
as-many y w t = moves-long y w (reverse t.row.steps.items) ∙ length-reverse t.row.steps.items

-- the moves above some steps are under way
pub record Running (c : Caller) (y : Spec) (w0 w : Store) (old now : Tracer) (floor : ℕ) : Type 0 where
  pub values : List Tree
  pub order : IsInOrder y w now
  pub fits : Fits (take (vec_len now.row.steps - floor) (moves_at y w now)) (length values) 1
  pub rest : drop (vec_len now.row.steps - floor) (moves_at y w now) ≡ drop (vec_len old.row.steps - floor) (moves_at y w0 old)
  pub stack : stack_at w now ≡ values ++ stack_at w0 old
  pub comes : result c now.left (take (vec_len now.row.steps - floor) (moves_at y w now)) values ≡ result c old.left
      (take (vec_len old.row.steps - floor) (moves_at y w0 old)) []

module _ (c : Caller) (y : Spec) (w0 w : Store) (old now : Tracer) (floor : ℕ) (r : Running c y w0 w old now floor)
    (some : floor < vec_len now.row.steps) where
  split : vec_len now.row.steps - floor ≡ suc (vec_len now.row.steps - floor - 1)
  split = omega (arith, some)

  now-fits : Fits (take (suc (vec_len now.row.steps - floor - 1)) (moves_at y w now)) (length r.values) 1
  now-fits = subst (λ k. Fits (take k (moves_at y w now)) (length r.values) 1) split r.fits

  pub running-can : vec_len now.row.steps ≡ length now.row.steps.items → CanTurn (moves_at y w now) (length (stack_at w now))
  running-can long =
      let many = as-many y w now in
      subst (λ d. CanTurn (moves_at y w now) d) (sym (ap length r.stack ∙ length-append r.values (stack_at w0 old)))
      (can-turn (moves_at y w now) (vec_len now.row.steps - floor - 1) (length r.values) (length (stack_at w0 old))
      (omega (arith, many, long, some)) now-fits)

  pub running-next : (w' : Store) (new : Tracer) → vec_len new.row.steps + 1 ≡ vec_len now.row.steps → IsInOrder y w' new
      → Moves c now.left new.left (moves_at y w now) (stack_at w now) (moves_at y w' new) (stack_at w' new) true → Running c y w0 w' old new floor
  running-next w' new fewer order h =
      let m = moved c now.left new.left (moves_at y w now) (moves_at y w' new) r.values (stack_at w0 old) (stack_at w' new)
      (vec_len now.row.steps - floor - 1) now-fits
      (subst (λ st. Moves c now.left new.left (moves_at y w now) st (moves_at y w' new) (stack_at w' new) true) r.stack h) in
      let same : vec_len now.row.steps - floor - 1 ≡ vec_len new.row.steps - floor = omega (arith, fewer) in
      record {
        values = m.values;
        order = order;
        fits = subst (λ k. Fits (take k (moves_at y w' new)) (length m.values) 1) same m.fits;
        rest = ap (λ k. drop k (moves_at y w' new)) (sym same) ∙ m.rest ∙ ap (λ k. drop k (moves_at y w now)) (sym split) ∙ r.rest;
        stack = m.stack;
        comes = ap (λ k. result c new.left (take k (moves_at y w' new)) m.values) (sym same) ∙ m.comes
            ∙ ap (λ k. result c now.left (take k (moves_at y w now)) r.values) (sym split) ∙ r.comes;
      }

  pub running-failed : (w' : Store) (new : Tracer) → Moves c now.left new.left (moves_at y w now) (stack_at w now) (moves_at y w' new)
      (stack_at w' new) false → result c old.left (take (vec_len old.row.steps - floor) (moves_at y w0 old)) [] ≡ Over
  running-failed w' new h =
      sym r.comes ∙ ap (λ k. result c now.left (take k (moves_at y w now)) r.values) split
      ∙ failed c now.left new.left (moves_at y w now) (moves_at y w' new) r.values (stack_at w0 old) (stack_at w' new)
      (vec_len now.row.steps - floor - 1) now-fits
      (subst (λ st. Moves c now.left new.left (moves_at y w now) st (moves_at y w' new) (stack_at w' new) false) r.stack h)

one-of : (vs : List Tree) → length vs ≡ 1 → (v : Tree) × (vs ≡ v ∷ [])
one-of [] e = let no : ⊥ = omega (arith, e) in absurd no
one-of (v ∷ []) e = (v, refl)
one-of (v ∷ u ∷ vs) e = let no : ⊥ = omega (arith, e) in absurd no

pub running-ends : (c : Caller) (y : Spec) (w0 w : Store) (old now : Tracer) (floor : ℕ) → Running c y w0 w old now floor → vec_len now.row.steps ≤ floor
    → HasRun c y w0 w old now (vec_len old.row.steps - floor) true
running-ends c y w0 w old now floor r le =
    let zero_left : vec_len now.row.steps - floor ≡ 0 = omega (arith, le) in
    let one = one-of r.values (subst (λ k. Fits (take k (moves_at y w now)) (length r.values) 1) zero_left r.fits) in (
      one.0,
      sym r.comes ∙ ap (λ k. result c now.left (take k (moves_at y w now)) r.values) zero_left ∙ ap (λ vs. result c now.left [] vs) one.1,
      record {
        order = r.order;
        moves = ap (λ k. drop k (moves_at y w now)) (sym zero_left) ∙ r.rest;
        stack = r.stack ∙ ap (λ vs. vs ++ stack_at w0 old) one.1;
      },
    )

-- a term's moves stand in front of others
take-front : (ms ns : List Move) (k : ℕ) → k ≡ length ms → take k (ms ++ ns) ≡ ms
take-front [] ns k e = ap (λ j. take j ns) e
take-front (m ∷ ms) ns zero e = let no : ⊥ = omega (arith, e) in absurd no
take-front (m ∷ ms) ns (suc k) e = ap (λ xs. m ∷ xs) (take-front ms ns k (omega (arith, e)))

drop-all : (ms ns : List Move) (k : ℕ) → k ≡ length ms → drop k (ms ++ ns) ≡ ns
drop-all [] ns k e = ap (λ j. drop j ns) e
drop-all (m ∷ ms) ns zero e = let no : ⊥ = omega (arith, e) in absurd no
drop-all (m ∷ ms) ns (suc k) e = drop-all ms ns k (omega (arith, e))

-- how many are stacked depends on how many values there are
stacked-same : (ss : List Step) (vs us : List Reference) → length vs ≡ length us → length (stacked ss vs) ≡ length (stacked ss us)
stacked-same [] vs us e = length-reverse vs ∙ e ∙ sym (length-reverse us)
stacked-same (step.Give t ∷ ss) vs us e = stacked-same ss vs us e
stacked-same (step.GiveLast t at ∷ ss) vs us e =
    let low = stacked-same ss (take at vs) (take at us) (length-take at vs ∙ ap (min at) e ∙ sym (length-take at us)) in
    length-append (reverse (drop (suc at) vs)) (stacked ss (take at vs))
    ∙ ap (λ k. k + length (stacked ss (take at vs))) (length-reverse (drop (suc at) vs) ∙ length-drop (suc at) vs)
    ∙ (let q : length vs - suc at + length (stacked ss (take at vs)) ≡ length us - suc at + length (stacked ss (take at us)) = omega (arith, low, e) in q)
    ∙ ap (λ k. k + length (stacked ss (take at us))) (sym (length-reverse (drop (suc at) us) ∙ length-drop (suc at) us))
    ∙ sym (length-append (reverse (drop (suc at) us)) (stacked ss (take at us)))
stacked-same (step.Invoke f k ∷ ss) vs us e = stacked-same ss vs us e

-- and grows with them
stacked-more : (ss : List Step) (vs us : List Reference) → floor_of ss ≤ length vs → floor_of ss ≤ length us
    → length (stacked ss us) + length vs ≡ length (stacked ss vs) + length us
stacked-more [] vs us le le' = let a = length-reverse vs in let b = length-reverse us in omega (arith, a, b)
stacked-more (step.Give t ∷ ss) vs us le le' = stacked-more ss vs us le le'
stacked-more (step.GiveLast t at ∷ ss) vs us le le' =
    let low = stacked-same ss (take at vs) (take at us)
    (length-take at vs ∙ (let q : min at (length vs) ≡ min at (length us) = omega (arith, le, le') in q) ∙ sym (length-take at us)) in
    let a = length-append (reverse (drop (suc at) vs)) (stacked ss (take at vs)) in
    let b = length-append (reverse (drop (suc at) us)) (stacked ss (take at us)) in
    let a' = length-reverse (drop (suc at) vs) ∙ length-drop (suc at) vs in
    let b' = length-reverse (drop (suc at) us) ∙ length-drop (suc at) us in
    omega (arith, low, a, b, a', b', le, le')
stacked-more (step.Invoke f k ∷ ss) vs us le le' = stacked-more ss vs us le le'

-- so below the same steps as many values stand as before, or as many more as the stack is longer
pub as-long : (y : Spec) (w w' : Store) (old new : Tracer) (k : ℕ) → IsInOrder y w old → IsInOrder y w' new → new.row.steps.items ≡ old.row.steps.items
    → length (stack_at w' new) ≡ k + length (stack_at w old) → length new.row.values.items ≡ k + length old.row.values.items
as-long y w w' old new k order order' steps long =
    let here = order.row.floor in
    let there : floor_of (reverse old.row.steps.items) ≤ length new.row.values.items =
    subst (λ (xs : List Step). floor_of (reverse xs) ≤ length new.row.values.items) steps order'.row.floor in
    let more = stacked-more (reverse old.row.steps.items) old.row.values.items new.row.values.items here there in
    let a = trees_length w (stacked (reverse old.row.steps.items) old.row.values.items) in
    let b : length (stack_at w' new) ≡ length (stacked (reverse old.row.steps.items) new.row.values.items) =
    trees_length w' (stacked (reverse new.row.steps.items) new.row.values.items)
    ∙ ap (λ (xs : List Step). length (stacked (reverse xs) new.row.values.items)) steps in
    omega (arith, more, a, b, long)

-- the moves of a side come first, over the same values
pub record HasEntered (y : Spec) (w : Store) (old new : Tracer) (ms : List Move) : Type 0 where
  pub order : IsInOrder y w new
  pub left_is : new.left ≡ old.left
  pub moves : moves_at y w new ≡ ms ++ moves_at y w old
  pub stack : stack_at w new ≡ stack_at w old
  pub steps : take (length old.row.steps.items) new.row.steps.items ≡ old.row.steps.items

-- so the steps above those that stood there are the term's
pub record IsInFront (y : Spec) (w : Store) (old new : Tracer) (ms : List Move) (floor : ℕ) : Type 0 where
  pub within : floor ≤ vec_len new.row.steps
  pub front : take (vec_len new.row.steps - floor) (moves_at y w new) ≡ ms
  pub back : drop (vec_len new.row.steps - floor) (moves_at y w new) ≡ moves_at y w old

pub in-front : (y : Spec) (w : Store) (old new : Tracer) (ms : List Move) (floor : ℕ) → HasEntered y w old new ms
    → vec_len old.row.steps ≡ length old.row.steps.items → vec_len new.row.steps ≡ length new.row.steps.items → floor ≡ vec_len old.row.steps
    → IsInFront y w old new ms floor
in-front y w old new ms floor h long long' is =
    let many = as-many y w old in
    let many' = as-many y w new in
    let both = ap length h.moves ∙ length-append ms (moves_at y w old) in
    let count : vec_len new.row.steps - floor ≡ length ms = omega (arith, many, many', both, long, long', is) in
    record {
      within = omega (arith, many, many', both, long, long', is);
      front = ap (take (vec_len new.row.steps - floor)) h.moves ∙ take-front ms (moves_at y w old) (vec_len new.row.steps - floor) count;
      back = ap (drop (vec_len new.row.steps - floor)) h.moves ∙ drop-all ms (moves_at y w old) (vec_len new.row.steps - floor) count;
    }

-- a side of a rule was gone through
pub side-gives : (y : Spec) (w w' : Store) (old mid new : Tracer) (floor : ℕ) (s : Substitution) (t : Term) (yes : Bool) → IsInOrder y w old
    → HasEntered y w old mid (moves s t) → IsInFront y w old mid (moves s t) floor → floor ≡ length old.row.steps.items
    → HasRun (Call y) y w w' mid new (vec_len mid.row.steps - floor) yes → (yes ≡ true → new.row.steps.items ≡ take floor mid.row.steps.items)
    → Gives y w w' old new (evaluate (Call y) old.left s t) yes
side-gives y w w' old mid new floor s t true order h f is run rest = (
  run.0,
  evaluated ∙ run.1,
  record {
    order = run.2.order;
    moves = run.2.moves ∙ f.back;
    stack = stack;
    steps = steps;
    long = let longer = ap length stack in let more = as-long y w w' old new 1 order run.2.order steps (omega (arith, longer)) in omega (arith, more);
  },
)
  where
    evaluated : evaluate (Call y) old.left s t ≡ result (Call y) mid.left (take (vec_len mid.row.steps - floor) (moves_at y w mid)) []
    evaluated = sym (run-one (Call y) old.left s t) ∙ ap (λ n. result (Call y) n (moves s t) []) (sym h.left_is)
        ∙ ap (λ ms. result (Call y) mid.left ms []) (sym f.front)

    stack : stack_at w' new ≡ run.0 ∷ stack_at w old
    stack = run.2.stack ∙ ap (λ st. run.0 ∷ st) h.stack

    steps : new.row.steps.items ≡ old.row.steps.items
    steps = rest refl ∙ ap (λ k. take k mid.row.steps.items) is ∙ h.steps
side-gives y w w' old mid new floor s t false order h f is run rest =
    sym (run-one (Call y) old.left s t) ∙ ap (λ n. result (Call y) n (moves s t) []) (sym h.left_is)
    ∙ ap (λ ms. result (Call y) mid.left ms []) (sym f.front) ∙ run
