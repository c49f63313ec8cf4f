-- From what an engine answers to the line of a request.
use Rattle.std.proofs.Common.{◌≡◌, ℕ, ◌-◌, List, [], ◌∷◌, ◌++◌, false, ◌<◌, length, take, Option, Some, None}
use Rattle.std.proofs.Common.{IfSome, IsSome, refl, sym, ap, ap₂, subst, ◌∙◌, arith}
use Rattle.std.specs.Prelude.{Err, IfOk, MatchBool, Ok, Result, codes, option_map, unwrap_or}
use Rattle.rx_term.specs.Tree.{Tree, Trees, Int, Appl, Items, Hole, annotated, annotations, list_of, none}
use Rattle.rx_term.specs.Store.{Store, tree_at}
use Rattle.rec_syntax.specs.Syntax.{Spec}
use Rattle.rec_sorts.specs.Binding.{tree_of}
use Rattle.rec_sorts.specs.Evaluation.{Done, Eval, term_of}
use Rattle.rec_engine.specs.Engine.{IsGiven, IsOutcome}
use Rattle.rec_engine.specs.declared.engine.errors.EngineFault.{EngineFault}
use Rattle.rec_engine.specs.declared.engine.Outcome.{Outcome}
use Rattle.rec_engine.specs.declared.engine.Outcome.TheVariants.{Value, Limit}
use Rattle.rec_run.specs.GivenTerms.{given_text, item_at}
use Rattle.rec_run.specs.EvaluatedLines.{unsaid}
use Rattle.rec_run.specs.Output.{Printed, Whole, Longer, line, printed, value_text}
use Rattle.rec_run.specs.declared.options.LimitLines.TheVariants.{Bare}
use Rattle.rx_run.specs.Due.{steps_text}
use Rattle.rec_run.specs.Reading.{evaluation_text}
use Rattle.rec_run.proofs.EvaluatedLemmas.{bare_tree, eval-tree}
use Rattle.rx_term.specs.Steps.{Grows}
use Rattle.rx_term.specs.Tree.{more}
use Rattle.rx_term.specs.declared.Term.{Term as Reference}
use Rattle.rx_text.specs.Verdict.{Verdict, Spelt, IsVerdict}
use Rattle.rx_run.proofs.TermDueLemmas.{verdict_given}
use Rattle.rec_sorts.specs.TermRules.{broken_by_elements, broken_by_terms}
use Rattle.rec_sorts.specs.TermsFaults.{IsTermsFault}
use Rattle.rec_sorts.specs.declared.fault.TermsFault.{TermsFault}
use Rattle.rec_sorts.specs.declared.fault.TermsFault.TheVariants as rule
use Rattle.rec_serve.specs.Answering.{AnswersTree, IsAnswered, refusal_of, shown}
use Rattle.rec_serve.specs.Conversation.{IsAnswer, answer_by, answer_to, refusal_line, shown_for}
use Rattle.rec_serve.specs.Inner.Reading.{IsRead}
use Rattle.rec_serve.specs.Inner.Values.{HasBareValue}
use Rattle.rec_serve.specs.declared.answers.Answered.{Answered}
use Rattle.rec_serve.specs.declared.ending.Refusal.{Refusal}
use Rattle.rec_serve.specs.declared.ending.Refusal.TheVariants as refusal
use Rattle.rec_serve.specs.declared.request.Request.{Request}
use Rattle.rec_serve.specs.declared.settings.ServeSettings.{ServeSettings}
use Rattle.rec_serve.proofs.AnswerLemmas.{line-text}
use Rattle.rec_serve.proofs.TakenLemmas.{IsTaken, IsWhy, why_line, why_refusal}

-- a response to a request has no annotations behind `!bytes`
unsaid-bare : (notes : Trees) (steps : List ℕ) (p : Printed) → unsaid steps p ≡ value_text Bare notes steps p
unsaid-bare notes steps (Whole text) = refl
unsaid-bare notes steps (Longer most) = refl

-- the annotations of a tree are replaced whatever they were
annotated-again : (t : Tree) (a b : Trees) → annotated (annotated t a) b ≡ annotated t b
annotated-again (Int z anns) a b = refl
annotated-again (Appl name quoted args anns) a b = refl
annotated-again (Items items anns) a b = refl
annotated-again (Hole inner anns) a b = refl

annotated-has : (t : Tree) (a : Trees) → annotations (annotated t a) ≡ a
annotated-has (Int z anns) a = refl
annotated-has (Appl name quoted args anns) a = refl
annotated-has (Items items anns) a = refl
annotated-has (Hole inner anns) a = refl

-- the bare tree of a term comes to a value without annotations
bare_of : (y : Spec) (w : Store) (n : ℕ) (u : Tree) (o : Outcome) → IsOutcome y w n (tree_of (term_of u)) o → HasBareValue w o
bare_of y w n u (Value r steps) h =
    let notes = annotations (tree_of (term_of u)) in
    (annotated h.value notes, h.there, annotated-has h.value notes ∙ bare_tree (term_of u))
bare_of y w n u Limit h = tt

pub bare_value : {B : Type 0} (store : B → Store) (y : Spec) (asked new : B) (n : ℕ) (u : Tree) (o : Outcome) → asked ≡ new
    → IsOutcome y (store new) n (tree_of (term_of u)) o → HasBareValue (store asked) o
bare_value store y asked new n u o one is = subst (λ b. HasBareValue (store b) o) (sym one) (bare_of y (store new) n u o is)

-- what is shown of what the bare tree of a term comes to is the text of the term's line
pub shown-text : (y : Spec) (w : Store) (s : ServeSettings) (u : Tree) (o : Outcome) → IsOutcome y w s.options.steps (tree_of (term_of u)) o
    → shown w s (annotations u) o ≡ given_text y (shown_for s) s.options.steps u
shown-text y w s u (Value r steps) h =
    let n = s.options.steps in
    let notes = annotations u in
    let spent = h.spent in
    let back : steps ≡ n - h.left = omega (arith, spent) in
    let done : Eval y n [] (term_of u) ≡ Done h.value h.left = sym (eval-tree y n (term_of u)) ∙ h.evaluated in
    let here : item_at w r ≡ annotated h.value none = ap (λ o. unwrap_or o (list_of none)) h.there ∙ ap (annotated h.value) (bare_tree (term_of u)) in
    ap₂ (λ x k. unsaid (steps_text s.options.count k) (printed s.form (annotated x notes))) here back
    ∙ ap (λ x. unsaid (steps_text s.options.count (n - h.left)) (printed s.form x)) (annotated-again h.value none notes)
    ∙ unsaid-bare notes (steps_text s.options.count (n - h.left)) (printed s.form (annotated h.value notes))
    ∙ ap (evaluation_text notes (shown_for s) n) (sym done)
shown-text y w s u Limit h =
    ap (evaluation_text (annotations u) (shown_for s) s.options.steps) (sym h ∙ eval-tree y s.options.steps (term_of u))

-- so with its line end it is the line
pub shown-line : (y z : Spec) (w : Store) (s : ServeSettings) (u : Tree) (o : Outcome) → z ≡ y
    → IsOutcome z w s.options.steps (tree_of (term_of u)) o → shown w s (annotations u) o ++ codes "\n"
    ≡ line y (shown_for s) s.options.steps (record { term = term_of u; notes = annotations u })
shown-line y z w s u o same h =
    ap (λ x. x ++ codes "\n") (shown-text y w s u o (subst (λ x. IsOutcome x w s.options.steps (tree_of (term_of u)) o) same h)) ∙ sym (line-text y s u)

-- ---- answers

-- the answer to a request whose term was evaluated
pub answers_tree : {B : Type 0} (store : B → Store) (y z : Spec) (own : Option Tree) (asked new : B) (s : ServeSettings) (u : Tree) (o : Outcome)
    (a : Answered) → own ≡ Some u → broken_by_elements y (u ∷ []) ≡ None → asked ≡ new → z ≡ y → IsOutcome z (store new) s.options.steps (tree_of (term_of u)) o
    → IfSome own (λ t. a.text.items ≡ shown (store asked) s (annotations t) o ++ codes "\n") → a.refusal ≡ None
    → IfSome own (λ t. AnswersTree y s t a)
answers_tree store y z own asked new s u o a held kept one same is written plain =
    let text : a.text.items ≡ shown (store asked) s (annotations u) o ++ codes "\n" =
    subst (λ w. IfSome w (λ t. a.text.items ≡ shown (store asked) s (annotations t) o ++ codes "\n")) held written in
    subst (λ w. IfSome w (λ t. AnswersTree y s t a)) (sym held) (record {
      text = text ∙ ap (λ b. shown (store b) s (annotations u) o ++ codes "\n") one ∙ shown-line y z (store new) s u o same is
          ∙ ap (answer_by y s u) (sym kept);
      refusal = plain ∙ ap (option_map refusal.Rule) (sym kept);
    })

some_tree : (o : Option Tree) → IsSome o → (t : Tree) × (o ≡ Some t)
some_tree None h = absurd (cc h)
some_tree (Some t) h = (t, refl)

-- the list of a term alone, after the rules were asked of it
record Alone (w v : Store) (term list : Reference) : Type 0 where
  tree : Tree
  was : tree_at w term ≡ Some tree
  held : tree_at v term ≡ Some tree
  listed : tree_at v list ≡ Some (list_of (more tree none))

alone_of : (w v : Store) (term list : Reference) → IsSome (tree_at w term) → Grows w v
    → IfSome (tree_at w term) (λ u. tree_at v list ≡ Some (list_of (more u none))) → Alone w v term list
alone_of w v term list some grows there =
    let t = some_tree (tree_at w term) some in
    record {
      tree = t.0;
      was = t.1;
      held = grows.trees term t.0 t.1;
      listed =
          subst (λ o. IfSome o (λ u. tree_at v list ≡ Some (list_of (more u none)))) t.1 there;
    }

pub checked_alone : (y z : Spec) (w v : Store) (term list : Reference) → IsSome (tree_at w term) → Grows w v
    → IfSome (tree_at w term) (λ u. tree_at v list ≡ Some (list_of (more u none))) → IfSome (tree_at v list) (λ t. broken_by_terms z t ≡ None) → z ≡ y
    → IsGiven y v term
checked_alone y z w v term list some grows there kept same =
    let a = alone_of w v term list some grows there in
    let none_broken : broken_by_elements z (a.tree ∷ []) ≡ None = subst (λ o. IfSome o (λ t. broken_by_terms z t ≡ None)) a.listed kept in
    record { tree = a.tree; held = a.held; is_ground = subst (λ x. broken_by_elements x (a.tree ∷ []) ≡ None) same none_broken }

-- the answer to a request whose term breaks a rule
pub refused_tree : (y z : Spec) (s : ServeSettings) (w v : Store) (term list : Reference) (f : TermsFault) (number : ℕ)
    (r : Result Answered EngineFault) → IsSome (tree_at w term) → Grows w v → IfSome (tree_at w term) (λ u. tree_at v list ≡ Some (list_of (more u none)))
    → IfSome (tree_at v list) (λ t. IsTermsFault (broken_by_terms z t) f) → f ≡ rule.Rule number → z ≡ y
    → IfOk r (λ a. a.text.items ≡ refusal_line (refusal.Rule number)) → IfOk r (λ a. a.refusal ≡ Some (refusal.Rule number))
    → IfOk r (λ a. IfSome (tree_at w term) (λ t. AnswersTree y s t a))
refused_tree y z s w v term list f number (Err e) some grows there broken is same text refused = tt
refused_tree y z s w v term list f number (Ok a) some grows there broken is same text refused =
    let t = alone_of w v term list some grows there in
    let named : IfSome (tree_at v list) (λ t. IsTermsFault (broken_by_terms z t) (rule.Rule number)) =
    subst (λ x. IfSome (tree_at v list) (λ t. IsTermsFault (broken_by_terms z t) x)) is broken in
    let first : broken_by_elements z (t.tree ∷ []) ≡ Some number =
    subst (λ o. IfSome o (λ t. IsTermsFault (broken_by_terms z t) (rule.Rule number))) t.listed named in
    let here : broken_by_elements y (t.tree ∷ []) ≡ Some number = subst (λ x. broken_by_elements x (t.tree ∷ []) ≡ Some number) same first in
    subst (λ o. IfSome o (λ t. AnswersTree y s t a)) (sym t.was) (record {
      text = text ∙ ap (answer_by y s t.tree) (sym here);
      refusal = refused ∙ ap (option_map refusal.Rule) (sym here);
    })

-- the answer to a request that was accepted by its form
pub answered_taken : (y : Spec) (s : ServeSettings) (request : List ℕ) (own : Store) (term : Reference) (v : Verdict) (r : Result Answered EngineFault)
    → IsVerdict request v → IsTaken s.input own term v → IfOk r (λ a. IfSome (tree_at own term) (λ t. AnswersTree y s t a))
    → IfOk r (IsAnswered y s request)
answered_taken y s request own term v (Err e) is k h = tt
answered_taken y s request own term v (Ok a) is k h =
    let t : AnswersTree y s k.tree a = subst (λ o. IfSome o (λ t. AnswersTree y s t a)) k.held h in
    record {
      verdict = Spelt k.spelt;
      is = subst (IsVerdict request) k.is is;
      text = t.text ∙ ap (answer_to y s) (sym k.opens);
      refusal = t.refusal ∙ ap (refusal_of y) (sym k.opens);
    }

-- and to one that was rejected by it
pub answered_refused : (y : Spec) (s : ServeSettings) (request : List ℕ) (v : Verdict) (f : Refusal) (r : Result Answered EngineFault)
    → IsVerdict request v → IsWhy s.input v f → IfOk r (λ a. a.text.items ≡ refusal_line f) → IfOk r (λ a. a.refusal ≡ Some f)
    → IfOk r (IsAnswered y s request)
answered_refused y s request v f (Err e) is why text refused = tt
answered_refused y s request v f (Ok a) is why text refused =
    record { verdict = v; is = is; text = text ∙ why_line y s v f why; refusal = refused ∙ why_refusal y s v f why }

-- the answer to what was kept of a request is that to the request
pub kept_answer : (y : Spec) (s : ServeSettings) (q : Request) (text : List ℕ) (r : Result Answered EngineFault) → q.is_lost ≡ false
    → text ≡ q.text.items → IfOk r (IsAnswered y s text) → IfOk r (λ a. (line : List ℕ) → IsRead q line → IsAnswer y s line a.text.items)
kept_answer y s q text (Err e) kept same h = tt
kept_answer y s q text (Ok a) kept same h = λ line is.
    let front : q.text.items ≡ take 16777217 line = subst (λ b. MatchBool b (0 < length line) (q.text.items ≡ take 16777217 line)) kept is in
    (h.verdict, verdict_given (Some line) text h.verdict (same ∙ front) h.is, h.text)
