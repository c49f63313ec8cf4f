-- Evaluation rule by rule: what it is at each form of a term, of a list of rules and of a list of conditions.
use Rattle.std.proofs.Common.{refl, sym, ap, ◌∙◌, ◌≤◌}
use Rattle.std.specs.Prelude.{ℕ, zero, suc, ◌≡◌, Bool, true, false, List, [], ◌∷◌, Option, Some, None}
use Rattle.std.specs.Bool.{beq}
use Rattle.rx_term.specs.Tree.{Tree, Trees, none, more, tree_eq}
use Rattle.rec_syntax.specs.Tokens.{Word}
use Rattle.rec_syntax.specs.Syntax.{Term, Terms, Apply, Condition, Rule, Spec}
use Rattle.rec_sorts.specs.Binding.{Substitution, value_of, application, binds}
use Rattle.rec_sorts.specs.Evaluation.{Outcome, Done, Over, ◌then◌, spend, holds, first_rule, Eval, EvalAll, Call, Try, Holds}
use Rattle.rec_sorts.proofs.EquationLemmas.{meets, left_le, steady_Eval}
use Rattle.rec_sorts.proofs.SteadyLemmas.{steady_call, steady_evaluate_all}

-- what a word gives, by its value
abbrev pub at_word : Spec → ℕ → Substitution → Word → Terms → Option Tree → Outcome Tree
at_word y n s w ts o = elim o [ Some v ↦ Done v n | None ↦ EvalAll y n s ts then λ vs left. Call y left (application w.bytes vs) ]

-- a variable gives its value, at no cost
pub eval_variable : (y : Spec) (n : ℕ) (s : Substitution) (w : Word) (ts : Terms) (v : Tree) → value_of s w.bytes ≡ Some v → Eval y n s (Apply w ts) ≡ Done v n
unfolding Eval EvalAll Call Try Holds
eval_variable y n s w ts v e = meets y n s (Apply w ts) ∙ ap (at_word y n s w ts) e

-- an application evaluates its arguments, and then calls its head on their values
pub eval_application : (y : Spec) (n : ℕ) (s : Substitution) (w : Word) (ts : Terms) (vs : Trees) (left : ℕ) → value_of s w.bytes ≡ None
    → EvalAll y n s ts ≡ Done vs left
    → Eval y n s (Apply w ts) ≡ Call y left (application w.bytes vs)
unfolding Eval EvalAll Call Try Holds
eval_application y n s w ts vs left e all = meets y n s (Apply w ts) ∙ ap (at_word y n s w ts) e
    ∙ ap (λ o. o then λ vs left. Call y left (application w.bytes vs)) all

-- over the limit in an argument is over the limit
pub eval_over : (y : Spec) (n : ℕ) (s : Substitution) (w : Word) (ts : Terms) → value_of s w.bytes ≡ None → EvalAll y n s ts ≡ Over
    → Eval y n s (Apply w ts) ≡ Over
unfolding Eval EvalAll Call Try Holds
eval_over y n s w ts e all = meets y n s (Apply w ts) ∙ ap (at_word y n s w ts) e ∙ ap (λ o. o then λ vs left. Call y left (application w.bytes vs)) all

-- no arguments cost nothing
pub all_none : (y : Spec) (n : ℕ) (s : Substitution) → EvalAll y n s Terms.none ≡ Done none n
unfolding Eval EvalAll Call Try Holds
all_none y n s = refl

abbrev pub all_then : Spec → Substitution → Terms → Outcome Tree → Outcome Trees
all_then y s ts o = o then λ v left. EvalAll y left s ts then λ vs rest. Done (more v vs) rest

-- each argument has what the one before left
pub all_more : (y : Spec) (n : ℕ) (s : Substitution) (t : Term) (ts : Terms) (v : Tree) (left : ℕ) (vs : Trees) (rest : ℕ)
    → Eval y n s t ≡ Done v left → EvalAll y left s ts ≡ Done vs rest
    → EvalAll y n s (Terms.more t ts) ≡ Done (more v vs) rest
unfolding Eval EvalAll Call Try Holds
all_more y n s t ts v left vs rest e e2 = ap (all_then y s ts) (sym (meets y n s t) ∙ e) ∙ ap (λ o. o then λ vs rest. Done (more v vs) rest) e2

pub all_over_first : (y : Spec) (n : ℕ) (s : Substitution) (t : Term) (ts : Terms) → Eval y n s t ≡ Over → EvalAll y n s (Terms.more t ts) ≡ Over
unfolding Eval EvalAll Call Try Holds
all_over_first y n s t ts e = ap (all_then y s ts) (sym (meets y n s t) ∙ e)

pub all_over_later : (y : Spec) (n : ℕ) (s : Substitution) (t : Term) (ts : Terms) (v : Tree) (left : ℕ) → Eval y n s t ≡ Done v left
    → EvalAll y left s ts ≡ Over → EvalAll y n s (Terms.more t ts) ≡ Over
unfolding Eval EvalAll Call Try Holds
all_over_later y n s t ts v left e e2 = ap (all_then y s ts) (sym (meets y n s t) ∙ e) ∙ ap (λ o. o then λ vs rest. Done (more v vs) rest) e2

-- a call tries all rules
pub call_tries : (y : Spec) (n : ℕ) (u : Tree) → Call y n u ≡ Try y y.rules n u
unfolding Eval EvalAll Call Try Holds
call_tries y n u = refl

-- if no rule is left, the tree is its own value
pub try_none : (y : Spec) (n : ℕ) (u : Tree) → Try y [] n u ≡ Done u n
unfolding Eval EvalAll Call Try Holds
try_none y n u = refl

-- what the trial of a rule is, by its match
abbrev at_rule : Spec → Rule → List Rule → ℕ → Tree → Option Substitution → Outcome Tree
at_rule y r rs n u o = (elim o [
  | None ↦ first_rule y (Eval y) rs n u
  | Some s ↦ spend n (λ left. holds (Eval y) left s r.conditions then λ holding rest.
      elim holding [ true ↦ Done (Some (record { rule = r; values = s })) rest | false ↦ first_rule y (Eval y) rs rest u ])
])
    then λ found left. elim found [ Some m ↦ Eval y left m.values m.rule.right | None ↦ Done u left ]

-- what it is by what its conditions come to
abbrev at_conditions : Spec → Rule → List Rule → Tree → Substitution → Outcome Bool → Outcome Tree
at_conditions y r rs u s o = (o then λ holding rest.
    elim holding [ true ↦ Done (Some (record { rule = r; values = s })) rest | false ↦ first_rule y (Eval y) rs rest u ])
    then λ found left. elim found [ Some m ↦ Eval y left m.values m.rule.right | None ↦ Done u left ]

-- a rule that does not match costs nothing
pub try_no_match : (y : Spec) (r : Rule) (rs : List Rule) (n : ℕ) (u : Tree) → binds y r.left u ≡ None → Try y (r ∷ rs) n u ≡ Try y rs n u
unfolding Eval EvalAll Call Try Holds
try_no_match y r rs n u e = ap (at_rule y r rs n u) e

-- a rule that matches if nothing is left is over the limit
pub try_nothing_left : (y : Spec) (r : Rule) (rs : List Rule) (u : Tree) (s : Substitution) → binds y r.left u ≡ Some s → Try y (r ∷ rs) zero u ≡ Over
unfolding Eval EvalAll Call Try Holds
try_nothing_left y r rs u s e = ap (at_rule y r rs zero u) e

-- a rule that matches spends a step; where its conditions hold, its right-hand side is evaluated
pub try_fires : (y : Spec) (r : Rule) (rs : List Rule) (n : ℕ) (u : Tree) (s : Substitution) (left : ℕ) → binds y r.left u ≡ Some s
    → Holds y n s r.conditions ≡ Done true left
    → Try y (r ∷ rs) (suc n) u ≡ Eval y left s r.right
unfolding Eval EvalAll Call Try Holds
try_fires y r rs n u s left e h = ap (at_rule y r rs (suc n) u) e ∙ ap (at_conditions y r rs u s) h

-- if they fail, the next rule has what they left
pub try_fails : (y : Spec) (r : Rule) (rs : List Rule) (n : ℕ) (u : Tree) (s : Substitution) (left : ℕ) → binds y r.left u ≡ Some s
    → Holds y n s r.conditions ≡ Done false left
    → Try y (r ∷ rs) (suc n) u ≡ Try y rs left u
unfolding Eval EvalAll Call Try Holds
try_fails y r rs n u s left e h = ap (at_rule y r rs (suc n) u) e ∙ ap (at_conditions y r rs u s) h

-- over the limit in a condition is over the limit
pub try_over : (y : Spec) (r : Rule) (rs : List Rule) (n : ℕ) (u : Tree) (s : Substitution) → binds y r.left u ≡ Some s → Holds y n s r.conditions ≡ Over
    → Try y (r ∷ rs) (suc n) u ≡ Over
unfolding Eval EvalAll Call Try Holds
try_over y r rs n u s e h = ap (at_rule y r rs (suc n) u) e ∙ ap (at_conditions y r rs u s) h

-- no condition is left: yes
pub holds_none : (y : Spec) (n : ℕ) (s : Substitution) → Holds y n s [] ≡ Done true n
unfolding Eval EvalAll Call Try Holds
holds_none y n s = refl

abbrev pub after_left : Spec → Substitution → Condition → List Condition → Outcome Tree → Outcome Bool
after_left y s c cs o = o then λ u left. Eval y left s c.right then λ v rest.
    elim (beq (tree_eq u v) c.equal) [ true ↦ Holds y rest s cs | false ↦ Done false rest ]

abbrev pub after_right : Spec → Substitution → Condition → List Condition → Tree → Outcome Tree → Outcome Bool
after_right y s c cs u o = o then λ v rest. elim (beq (tree_eq u v) c.equal) [ true ↦ Holds y rest s cs | false ↦ Done false rest ]

abbrev by_answer : Spec → Substitution → List Condition → ℕ → Bool → Outcome Bool
by_answer y s cs rest b = elim b [ true ↦ Holds y rest s cs | false ↦ Done false rest ]

-- a condition that holds leaves the question to those after it
pub holds_goes_on : (y : Spec) (n : ℕ) (s : Substitution) (c : Condition) (cs : List Condition) (u : Tree) (left : ℕ) (v : Tree) (rest : ℕ)
    → Eval y n s c.left ≡ Done u left → Eval y left s c.right ≡ Done v rest → beq (tree_eq u v) c.equal ≡ true → Holds y n s (c ∷ cs) ≡ Holds y rest s cs
unfolding Eval EvalAll Call Try Holds
holds_goes_on y n s c cs u left v rest e1 e2 b = ap (after_left y s c cs) e1 ∙ ap (after_right y s c cs u) e2 ∙ ap (by_answer y s cs rest) b

-- the first that fails gives no, and what is left
pub holds_fails : (y : Spec) (n : ℕ) (s : Substitution) (c : Condition) (cs : List Condition) (u : Tree) (left : ℕ) (v : Tree) (rest : ℕ)
    → Eval y n s c.left ≡ Done u left → Eval y left s c.right ≡ Done v rest → beq (tree_eq u v) c.equal ≡ false → Holds y n s (c ∷ cs) ≡ Done false rest
unfolding Eval EvalAll Call Try Holds
holds_fails y n s c cs u left v rest e1 e2 b = ap (after_left y s c cs) e1 ∙ ap (after_right y s c cs u) e2 ∙ ap (by_answer y s cs rest) b

pub holds_over_left : (y : Spec) (n : ℕ) (s : Substitution) (c : Condition) (cs : List Condition) → Eval y n s c.left ≡ Over → Holds y n s (c ∷ cs) ≡ Over
unfolding Eval EvalAll Call Try Holds
holds_over_left y n s c cs e1 = ap (after_left y s c cs) e1

pub holds_over_right : (y : Spec) (n : ℕ) (s : Substitution) (c : Condition) (cs : List Condition) (u : Tree) (left : ℕ)
    → Eval y n s c.left ≡ Done u left → Eval y left s c.right ≡ Over → Holds y n s (c ∷ cs) ≡ Over
unfolding Eval EvalAll Call Try Holds
holds_over_right y n s c cs u left e1 e2 = ap (after_left y s c cs) e1 ∙ ap (after_right y s c cs u) e2

-- no more is left than there was
pub eval_left : (y : Spec) (n : ℕ) (s : Substitution) (t : Term) (v : Tree) (left : ℕ) → Eval y n s t ≡ Done v left → left ≤ n
eval_left y n s t v left e = left_le (λ n. Eval y n s t) (steady_Eval y s t) n v left e

pub all_left : (y : Spec) (n : ℕ) (s : Substitution) (ts : Terms) (vs : Trees) (left : ℕ) → EvalAll y n s ts ≡ Done vs left → left ≤ n
unfolding EvalAll Call
all_left y n s ts vs left e = left_le (λ n. EvalAll y n s ts) (steady_evaluate_all (Call y) (steady_call y (Eval y) (steady_Eval y)) s ts) n vs left e
