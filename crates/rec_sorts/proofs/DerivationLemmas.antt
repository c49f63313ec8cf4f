-- Evaluation as a relation, with a constructor for each rule, and that it is the function.
use Rattle.std.proofs.Common.{refl, sym, subst, arith, ◌∙◌}
use Rattle.std.specs.Prelude.{ℕ, zero, suc, ◌≡◌, ◌<◌, ◌≤◌, Bool, true, false, List, [], ◌∷◌, Option, Some, None}
use Rattle.std.specs.Bool.{beq}
use Rattle.rx_term.specs.Tree.{Tree, Trees, none, more, tree_eq}
use Rattle.rec_syntax.specs.Tokens.{Word}
use Rattle.rec_syntax.specs.Syntax.{Term, Terms, Apply, Condition, Rule, Spec}
use Rattle.rec_sorts.specs.Binding.{Substitution, value_of, application, binds}
use Rattle.rec_sorts.specs.Evaluation.{Outcome, Done, Over, Eval, EvalAll, Call, Try, Holds}
use Rattle.rec_sorts.proofs.EquationLemmas.{left_le, steady_Eval}
use Rattle.rec_sorts.proofs.SteadyLemmas.{steady_holds, steady_call, steady_evaluate_all}
use Rattle.rec_sorts.proofs.RuleLemmas as R

mutual
  pub data Evals (y : Spec) : ℕ → Substitution → Term → Outcome Tree → Type 0 where
    variable : (n : ℕ) (s : Substitution) (w : Word) (ts : Terms) (v : Tree) → value_of s w.bytes ≡ Some v → Evals y n s (Apply w ts) (Done v n)
    applied : (n : ℕ) (s : Substitution) (w : Word) (ts : Terms) (vs : Trees) (left : ℕ) (o : Outcome Tree) → value_of s w.bytes ≡ None
        → EvalsAll y n s ts (Done vs left) → Tries y y.rules left (application w.bytes vs) o → Evals y n s (Apply w ts) o
    arguments_over : (n : ℕ) (s : Substitution) (w : Word) (ts : Terms) → value_of s w.bytes ≡ None → EvalsAll y n s ts Over → Evals y n s (Apply w ts) Over

  pub data EvalsAll (y : Spec) : ℕ → Substitution → Terms → Outcome Trees → Type 0 where
    no_more : (n : ℕ) (s : Substitution) → EvalsAll y n s Terms.none (Done none n)
    one_more : (n : ℕ) (s : Substitution) (t : Term) (ts : Terms) (v : Tree) (left : ℕ) (vs : Trees) (rest : ℕ)
        → Evals y n s t (Done v left) → EvalsAll y left s ts (Done vs rest) → EvalsAll y n s (Terms.more t ts) (Done (more v vs) rest)
    first_over : (n : ℕ) (s : Substitution) (t : Term) (ts : Terms) → Evals y n s t Over → EvalsAll y n s (Terms.more t ts) Over
    later_over : (n : ℕ) (s : Substitution) (t : Term) (ts : Terms) (v : Tree) (left : ℕ) → Evals y n s t (Done v left) → EvalsAll y left s ts Over
        → EvalsAll y n s (Terms.more t ts) Over

  pub data Tries (y : Spec) : List Rule → ℕ → Tree → Outcome Tree → Type 0 where
    no_rule : (n : ℕ) (u : Tree) → Tries y [] n u (Done u n)
    no_match : (r : Rule) (rs : List Rule) (n : ℕ) (u : Tree) (o : Outcome Tree) → binds y r.left u ≡ None → Tries y rs n u o → Tries y (r ∷ rs) n u o
    nothing_left : (r : Rule) (rs : List Rule) (u : Tree) (s : Substitution) → binds y r.left u ≡ Some s → Tries y (r ∷ rs) zero u Over
    fires : (r : Rule) (rs : List Rule) (n : ℕ) (u : Tree) (s : Substitution) (left : ℕ) (o : Outcome Tree) → binds y r.left u ≡ Some s
        → HoldsAll y n s r.conditions (Done true left) → Evals y left s r.right o → Tries y (r ∷ rs) (suc n) u o
    fails : (r : Rule) (rs : List Rule) (n : ℕ) (u : Tree) (s : Substitution) (left : ℕ) (o : Outcome Tree) → binds y r.left u ≡ Some s
        → HoldsAll y n s r.conditions (Done false left) → Tries y rs left u o → Tries y (r ∷ rs) (suc n) u o
    conditions_over : (r : Rule) (rs : List Rule) (n : ℕ) (u : Tree) (s : Substitution) → binds y r.left u ≡ Some s → HoldsAll y n s r.conditions Over
        → Tries y (r ∷ rs) (suc n) u Over

  pub data HoldsAll (y : Spec) : ℕ → Substitution → List Condition → Outcome Bool → Type 0 where
    no_condition : (n : ℕ) (s : Substitution) → HoldsAll y n s [] (Done true n)
    goes_on : (n : ℕ) (s : Substitution) (c : Condition) (cs : List Condition) (u : Tree) (left : ℕ) (v : Tree) (rest : ℕ) (o : Outcome Bool)
        → Evals y n s c.left (Done u left) → Evals y left s c.right (Done v rest) → beq (tree_eq u v) c.equal ≡ true → HoldsAll y rest s cs o
        → HoldsAll y n s (c ∷ cs) o
    says_no : (n : ℕ) (s : Substitution) (c : Condition) (cs : List Condition) (u : Tree) (left : ℕ) (v : Tree) (rest : ℕ)
        → Evals y n s c.left (Done u left) → Evals y left s c.right (Done v rest) → beq (tree_eq u v) c.equal ≡ false
        → HoldsAll y n s (c ∷ cs) (Done false rest)
    left_over : (n : ℕ) (s : Substitution) (c : Condition) (cs : List Condition) → Evals y n s c.left Over → HoldsAll y n s (c ∷ cs) Over
    right_over : (n : ℕ) (s : Substitution) (c : Condition) (cs : List Condition) (u : Tree) (left : ℕ) → Evals y n s c.left (Done u left)
        → Evals y left s c.right Over → HoldsAll y n s (c ∷ cs) Over

-- what the relation says, the function answers
mutual
  unfolding Eval EvalAll Call Try Holds

  pub evals_is : {y : Spec} {n : ℕ} {s : Substitution} {t : Term} {o : Outcome Tree} → Evals y n s t o → Eval y n s t ≡ o
  evals_is {y} (variable n s w ts v e) = R.eval_variable y n s w ts v e
  evals_is {y} (applied n s w ts vs left o e d c) = R.eval_application y n s w ts vs left e (evals_all_is d) ∙ tries_is c
  evals_is {y} (arguments_over n s w ts e d) = R.eval_over y n s w ts e (evals_all_is d)

  pub evals_all_is : {y : Spec} {n : ℕ} {s : Substitution} {ts : Terms} {o : Outcome Trees} → EvalsAll y n s ts o → EvalAll y n s ts ≡ o
  evals_all_is (no_more n s) = refl
  evals_all_is {y} (one_more n s t ts v left vs rest d e) = R.all_more y n s t ts v left vs rest (evals_is d) (evals_all_is e)
  evals_all_is {y} (first_over n s t ts d) = R.all_over_first y n s t ts (evals_is d)
  evals_all_is {y} (later_over n s t ts v left d e) = R.all_over_later y n s t ts v left (evals_is d) (evals_all_is e)

  pub tries_is : {y : Spec} {rs : List Rule} {n : ℕ} {u : Tree} {o : Outcome Tree} → Tries y rs n u o → Try y rs n u ≡ o
  tries_is (no_rule n u) = refl
  tries_is {y} (no_match r rs n u o e d) = R.try_no_match y r rs n u e ∙ tries_is d
  tries_is {y} (nothing_left r rs u s e) = R.try_nothing_left y r rs u s e
  tries_is {y} (fires r rs n u s left o e h d) = R.try_fires y r rs n u s left e (holds_all_is h) ∙ evals_is d
  tries_is {y} (fails r rs n u s left o e h d) = R.try_fails y r rs n u s left e (holds_all_is h) ∙ tries_is d
  tries_is {y} (conditions_over r rs n u s e h) = R.try_over y r rs n u s e (holds_all_is h)

  pub holds_all_is : {y : Spec} {n : ℕ} {s : Substitution} {cs : List Condition} {o : Outcome Bool} → HoldsAll y n s cs o → Holds y n s cs ≡ o
  holds_all_is (no_condition n s) = refl
  holds_all_is {y} (goes_on n s c cs u left v rest o d e b h) = R.holds_goes_on y n s c cs u left v rest (evals_is d) (evals_is e) b ∙ holds_all_is h
  holds_all_is {y} (says_no n s c cs u left v rest d e b) = R.holds_fails y n s c cs u left v rest (evals_is d) (evals_is e) b
  holds_all_is {y} (left_over n s c cs d) = R.holds_over_left y n s c cs (evals_is d)
  holds_all_is {y} (right_over n s c cs u left d e) = R.holds_over_right y n s c cs u left (evals_is d) (evals_is e)

-- at each budget below n, the relation has what the function answers
abbrev pub DerivedBelow : Spec → ℕ → Type 0
DerivedBelow y n = (m : ℕ) (s : Substitution) (t : Term) → m < n → Evals y m s t (Eval y m s t)

pub derive_holds : (y : Spec) (n : ℕ) → DerivedBelow y n → (s : Substitution) (cs : List Condition) (m : ℕ) → m < n → HoldsAll y m s cs (Holds y m s cs)
unfolding Eval EvalAll Call Try Holds
derive_holds y n ih s [] m low = no_condition m s
derive_holds y n ih s (c ∷ cs) m low = by_left (λ k h. derive_holds y n ih s cs k h) (Eval y m s c.left) refl
  where
    by_answer : ((k : ℕ) → k < n → HoldsAll y k s cs (Holds y k s cs)) → (u : Tree) (left : ℕ) → Eval y m s c.left ≡ Done u left
        → (v : Tree) (rest : ℕ) → Eval y left s c.right ≡ Done v rest → rest < n → left < n
        → (b : Bool) → beq (tree_eq u v) c.equal ≡ b → HoldsAll y m s (c ∷ cs) (Holds y m s (c ∷ cs))
    by_answer later u left e1 v rest e2 low2 low1 true b = subst (HoldsAll y m s (c ∷ cs)) (sym (R.holds_goes_on y m s c cs u left v rest e1 e2 b))
        (goes_on m s c cs u left v rest (Holds y rest s cs) (subst (Evals y m s c.left) e1 (ih m s c.left low))
        (subst (Evals y left s c.right) e2 (ih left s c.right low1)) b (later rest low2))
    by_answer later u left e1 v rest e2 low2 low1 false b = subst (HoldsAll y m s (c ∷ cs)) (sym (R.holds_fails y m s c cs u left v rest e1 e2 b))
        (says_no m s c cs u left v rest (subst (Evals y m s c.left) e1 (ih m s c.left low)) (subst (Evals y left s c.right) e2 (ih left s c.right low1)) b)

    by_right : ((k : ℕ) → k < n → HoldsAll y k s cs (Holds y k s cs)) → (u : Tree) (left : ℕ) → Eval y m s c.left ≡ Done u left → left < n
        → (o : Outcome Tree) → Eval y left s c.right ≡ o → HoldsAll y m s (c ∷ cs) (Holds y m s (c ∷ cs))
    by_right later u left e1 low1 Over e2 = subst (HoldsAll y m s (c ∷ cs)) (sym (R.holds_over_right y m s c cs u left e1 e2))
        (right_over m s c cs u left (subst (Evals y m s c.left) e1 (ih m s c.left low)) (subst (Evals y left s c.right) e2 (ih left s c.right low1)))
    by_right later u left e1 low1 (Done v rest) e2 =
        let le : rest ≤ left = left_le (λ n. Eval y n s c.right) (steady_Eval y s c.right) left v rest e2 in
        by_answer later u left e1 v rest e2 (omega arith) low1 (beq (tree_eq u v) c.equal) refl

    by_left : ((k : ℕ) → k < n → HoldsAll y k s cs (Holds y k s cs)) → (o : Outcome Tree) → Eval y m s c.left ≡ o
        → HoldsAll y m s (c ∷ cs) (Holds y m s (c ∷ cs))
    by_left later Over e1 = subst (HoldsAll y m s (c ∷ cs)) (sym (R.holds_over_left y m s c cs e1))
        (left_over m s c cs (subst (Evals y m s c.left) e1 (ih m s c.left low)))
    by_left later (Done u left) e1 =
        let le : left ≤ m = left_le (λ n. Eval y n s c.left) (steady_Eval y s c.left) m u left e1 in
        by_right later u left e1 (omega arith) (Eval y left s c.right) refl

pub derive_tries : (y : Spec) (n : ℕ) → DerivedBelow y n → (rs : List Rule) (m : ℕ) → m ≤ n → (u : Tree) → Tries y rs m u (Try y rs m u)
unfolding Eval EvalAll Call Try Holds
derive_tries y n ih [] m le u = no_rule m u
derive_tries y n ih (r ∷ rs) m le u = by_match (λ k h. derive_tries y n ih rs k h u) (binds y r.left u) refl m le
  where
    Goal : ℕ → Type 0
    Goal k = Tries y (r ∷ rs) k u (Try y (r ∷ rs) k u)

    by_conditions : ((k : ℕ) → k ≤ n → Tries y rs k u (Try y rs k u)) → (s : Substitution) → binds y r.left u ≡ Some s → (k : ℕ) → k < n
        → (o : Outcome Bool) → Holds y k s r.conditions ≡ o → Tries y (r ∷ rs) (suc k) u (Try y (r ∷ rs) (suc k) u)
    by_conditions later s b k low Over h = subst (Tries y (r ∷ rs) (suc k) u) (sym (R.try_over y r rs k u s b h))
        (conditions_over r rs k u s b (subst (HoldsAll y k s r.conditions) h (derive_holds y n ih s r.conditions k low)))
    by_conditions later s b k low (Done true left) h =
        let less : left ≤ k = left_le (λ n. Holds y n s r.conditions) (steady_holds (Eval y) (steady_Eval y) s r.conditions) k true left h in
        subst (Tries y (r ∷ rs) (suc k) u) (sym (R.try_fires y r rs k u s left b h))
        (fires r rs k u s left (Eval y left s r.right) b (subst (HoldsAll y k s r.conditions) h (derive_holds y n ih s r.conditions k low))
        (ih left s r.right (omega arith)))
    by_conditions later s b k low (Done false left) h =
        let less : left ≤ k = left_le (λ n. Holds y n s r.conditions) (steady_holds (Eval y) (steady_Eval y) s r.conditions) k false left h in
        subst (Tries y (r ∷ rs) (suc k) u) (sym (R.try_fails y r rs k u s left b h))
        (fails r rs k u s left (Try y rs left u) b (subst (HoldsAll y k s r.conditions) h (derive_holds y n ih s r.conditions k low))
        (later left (omega arith)))

    by_match : ((k : ℕ) → k ≤ n → Tries y rs k u (Try y rs k u)) → (o : Option Substitution) → binds y r.left u ≡ o → (m : ℕ) → m ≤ n
        → Tries y (r ∷ rs) m u (Try y (r ∷ rs) m u)
    by_match later None b m le = subst (Tries y (r ∷ rs) m u) (sym (R.try_no_match y r rs m u b)) (no_match r rs m u (Try y rs m u) b (later m le))
    by_match later (Some s) b zero le = subst (Tries y (r ∷ rs) zero u) (sym (R.try_nothing_left y r rs u s b)) (nothing_left r rs u s b)
    by_match later (Some s) b (suc k) le = by_conditions later s b k le (Holds y k s r.conditions) refl

pub derive_at_word : (y : Spec) (n : ℕ) → DerivedBelow y n → (s : Substitution) (w : Word) (ts : Terms) → (m : ℕ) → m ≤ n
    → EvalsAll y m s ts (EvalAll y m s ts) → Evals y m s (Apply w ts) (Eval y m s (Apply w ts))
unfolding Eval EvalAll Call Try Holds
derive_at_word y n ih s w ts m le all = by_value (value_of s w.bytes) refl
  where
    by_all : value_of s w.bytes ≡ None → (o : Outcome Trees) → EvalAll y m s ts ≡ o → Evals y m s (Apply w ts) (Eval y m s (Apply w ts))
    by_all b Over e = subst (Evals y m s (Apply w ts)) (sym (R.eval_over y m s w ts b e)) (arguments_over m s w ts b (subst (EvalsAll y m s ts) e all))
    by_all b (Done vs left) e =
        let less : left ≤ m = left_le (λ n. EvalAll y n s ts) (steady_evaluate_all (Call y) (steady_call y (Eval y) (steady_Eval y)) s ts) m vs left e in
        subst (Evals y m s (Apply w ts)) (sym (R.eval_application y m s w ts vs left b e))
        (applied m s w ts vs left (Call y left (application w.bytes vs)) b (subst (EvalsAll y m s ts) e all)
        (derive_tries y n ih y.rules left (omega arith) (application w.bytes vs)))

    by_value : (o : Option Tree) → value_of s w.bytes ≡ o → Evals y m s (Apply w ts) (Eval y m s (Apply w ts))
    by_value (Some v) b = subst (Evals y m s (Apply w ts)) (sym (R.eval_variable y m s w ts v b)) (variable m s w ts v b)
    by_value None b = by_all b (EvalAll y m s ts) refl

pub derive_more : (y : Spec) (n : ℕ) (s : Substitution) (t : Term) (ts : Terms) → (m : ℕ) → m ≤ n → Evals y m s t (Eval y m s t)
    → ((k : ℕ) → k ≤ n → EvalsAll y k s ts (EvalAll y k s ts)) → EvalsAll y m s (Terms.more t ts) (EvalAll y m s (Terms.more t ts))
unfolding Eval EvalAll Call Try Holds
derive_more y n s t ts m le first later = by_first (Eval y m s t) refl
  where
    by_later : (v : Tree) (left : ℕ) → Eval y m s t ≡ Done v left → left ≤ n → (o : Outcome Trees) → EvalAll y left s ts ≡ o
        → EvalsAll y m s (Terms.more t ts) (EvalAll y m s (Terms.more t ts))
    by_later v left e le2 Over e2 = subst (EvalsAll y m s (Terms.more t ts)) (sym (R.all_over_later y m s t ts v left e e2))
        (later_over m s t ts v left (subst (Evals y m s t) e first) (subst (EvalsAll y left s ts) e2 (later left le2)))
    by_later v left e le2 (Done vs rest) e2 = subst (EvalsAll y m s (Terms.more t ts)) (sym (R.all_more y m s t ts v left vs rest e e2))
        (one_more m s t ts v left vs rest (subst (Evals y m s t) e first) (subst (EvalsAll y left s ts) e2 (later left le2)))

    by_first : (o : Outcome Tree) → Eval y m s t ≡ o → EvalsAll y m s (Terms.more t ts) (EvalAll y m s (Terms.more t ts))
    by_first Over e = subst (EvalsAll y m s (Terms.more t ts)) (sym (R.all_over_first y m s t ts e)) (first_over m s t ts (subst (Evals y m s t) e first))
    by_first (Done v left) e =
        let less : left ≤ m = left_le (λ n. Eval y n s t) (steady_Eval y s t) m v left e in
        by_later v left e (omega arith) (EvalAll y left s ts) refl

mutual
  unfolding Eval EvalAll Call Try Holds

  pub derive_evals : (y : Spec) (n : ℕ) → DerivedBelow y n → (s : Substitution) (t : Term) (m : ℕ) → m ≤ n → Evals y m s t (Eval y m s t)
  derive_evals y n ih s (Apply w ts) m le = derive_at_word y n ih s w ts m le (derive_evals_all y n ih s ts m le)

  pub derive_evals_all : (y : Spec) (n : ℕ) → DerivedBelow y n → (s : Substitution) (ts : Terms) (m : ℕ) → m ≤ n → EvalsAll y m s ts (EvalAll y m s ts)
  derive_evals_all y n ih s Terms.none m le = no_more m s
  derive_evals_all y n ih s (Terms.more t ts) m le = derive_more y n s t ts m le (derive_evals y n ih s t m le) (λ k h. derive_evals_all y n ih s ts k h)

pub derived_below : (y : Spec) (n : ℕ) → DerivedBelow y n
unfolding Eval EvalAll Call Try Holds
derived_below y zero m s t low = absurd (let no : ⊥ = omega arith in no)
derived_below y (suc n) m s t low = derive_evals y n (derived_below y n) s t m (omega arith)

-- what the function answers, the relation says
pub derived : (y : Spec) (n : ℕ) (s : Substitution) (t : Term) (o : Outcome Tree) → Eval y n s t ≡ o → Evals y n s t o
unfolding Eval EvalAll Call Try Holds
derived y n s t o e = subst (Evals y n s t) e (derived_below y (suc n) n s t (omega arith))
