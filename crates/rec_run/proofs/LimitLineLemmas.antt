-- How many lines are limit lines, line by line.
use Rattle.std.proofs.Common.{refl, sym, ap, ap₂, ◌∙◌, arith, cond, take_all}
use Rattle.std.proofs.lemmas.List.Sums.{sum_by-append, sum_by-cons, sum_by_more}
use Rattle.std.proofs.lemmas.Option.{slice_get-get_or}
use Rattle.std.specs.Int.{from_bool}
use Rattle.std.specs.Option.{option_map}
use Rattle.std.specs.Prelude.{ℕ, ◌≡◌, ◌+◌, ◌<◌, ◌≤◌, Bool, false, true, List, [], ◌∷◌, ◌++◌, Some, count_by, get_or, length, map, sum_by, take, unwrap_or}
use Rattle.rx_term.specs.Tree.{Tree, Trees, annotated, annotations, list_of, none}
use Rattle.rx_term.specs.Store.{Store, tree_at}
use Rattle.rx_term.specs.declared.Term.{Term as Reference}
use Rattle.rec_syntax.specs.Syntax.{Apply, Spec, Term, nameless}
use Rattle.rec_syntax.specs.Syntax as syntax
use Rattle.rec_sorts.specs.Binding.{tree_of}
use Rattle.rec_sorts.specs.Evaluation as evaluation
use Rattle.rec_engine.specs.Engine.{IsGiven, IsOutcome, eval_tree}
use Rattle.rec_engine.specs.declared.engine.Outcome.{Outcome}
use Rattle.rec_engine.specs.declared.engine.Outcome.TheVariants.{Value, Limit}
use Rattle.rec_run.specs.Choice.{HasCounts, given_chosen, own_chosen}
use Rattle.rec_run.specs.EvaluatedLines.{is_limit_line}
use Rattle.rec_run.specs.GivenTerms.{item_at}
use Rattle.rec_run.specs.Output.{counts_of, given_limits, given_task, is_limited, is_longer, limit_lines, printed}
use Rattle.rec_run.specs.declared.options.TermChoice.{TermChoice}
use Rattle.rec_run.specs.declared.options.ValueForm.{ValueForm}
use Rattle.rec_run.specs.declared.spec.counts.Counts.{Counts}
use Rattle.rec_run.specs.Reading.{own_task, term_at}
use Rattle.rec_run.proofs.ChoiceLemmas.{chosen-alone, chosen-parts, length-both, length-own, own}
use Rattle.rec_run.proofs.EvaluatedLemmas.{bare_tree, eval-tree, given_item}

-- ---- one line

-- the line of an outcome of evaluation is a limit line
abbrev limited-of : ValueForm → Trees → evaluation.Outcome Tree → Bool
limited-of form notes o = elim o [
  | evaluation.Done v left ↦ is_longer (printed form (annotated v notes))
  | evaluation.Over ↦ true
]

limit-outcome : (y : Spec) (w : Store) (form : ValueForm) (n : ℕ) (u : Tree) (o : Outcome) → IsOutcome y w n u o
    → is_limit_line form w o ≡ is_limited y form n (given_task u)
limit-outcome y w form n u (Value r steps) h =
    ap (λ t. is_longer (printed form (unwrap_or t (list_of none)))) h.there ∙ ap (limited-of form (annotations u)) (sym h.evaluated)
limit-outcome y w form n u Limit h = ap (limited-of form (annotations u)) (sym h)

-- the line of a given term
pub limit-given : (y z : Spec) (old w : Store) (form : ValueForm) (n : ℕ) (t : Reference) (o : Outcome) → IsGiven y old t → z ≡ y
    → ((u : Tree) → tree_at old t ≡ Some u → IsOutcome z w n u o) → is_limit_line form w o ≡ is_limited y form n (given_task (item_at old t))
limit-given y z old w form n t o given same answered =
    limit-outcome z w form n given.tree o (answered given.tree given.held)
    ∙ ap (λ x. is_limited x form n (given_task given.tree)) same ∙ ap (λ u. is_limited y form n (given_task u)) (sym (given_item y old t given))

-- the line of the specification's own term
pub limit-own : (y z : Spec) (w : Store) (form : ValueForm) (n i : ℕ) (t : Reference) → z ≡ y → i < length y.terms → tree_at w t ≡ eval_tree z i
    → is_limited z form n (given_task (item_at w t)) ≡ is_limited y form n (own_task y i)
limit-own y z w form n i t same low here =
    let own : tree_at w t ≡ Some (tree_of (term_at y i)) = here ∙ ap (λ x. eval_tree x i) same
    ∙ ap (option_map tree_of) (slice_get-get_or y.terms i (Apply nameless syntax.none) low) in
    ap (λ x. is_limited x form n (given_task (item_at w t))) same
    ∙ ap (λ o. is_limited y form n (given_task (unwrap_or o (list_of none)))) own
    ∙ ap₂ (λ notes o. limited-of form notes o) (bare_tree (term_at y i)) (eval-tree y n (term_at y i))

-- ---- items, one after the other

pub one-line : (b : Bool) → from_bool b ≤ 1
one-line false = omega arith
one-line true = omega arith

bool-count : (b : Bool) → from_bool b ≡ cond b 1 0
bool-count false = refl
bool-count true = refl

sum-map : {X Y : Type 0} (f : Y → ℕ) (g : X → Y) (xs : List X) → sum_by f (map g xs) ≡ sum_by (λ x. f (g x)) xs
sum-map f g [] = refl
sum-map f g (x ∷ xs) = sum_by-cons f (g x) (map g xs) ∙ ap (λ n. f (g x) + n) (sum-map f g xs) ∙ sym (sum_by-cons (λ x. f (g x)) x xs)

module _ {X : Type 0} (p : X → Bool) (xs : List X) where
  pub count-more : (i : ℕ) (d : X) (count more : ℕ) (b : Bool) → i < length xs → count ≡ count_by p (take i xs) → more ≡ from_bool b
      → b ≡ p (get_or xs i d) → count + more ≡ count_by p (take (i + 1) xs)
  count-more i d count more b low h k e =
      ap₂ (λ m n. m + n) h (k ∙ bool-count b ∙ ap (λ z. cond z 1 0) e) ∙ sym (sum_by_more (λ x. cond (p x) 1 0) xs i d low)

  pub count-all : (i count : ℕ) → length xs ≤ i → count ≡ count_by p (take i xs) → count ≡ count_by p xs
  count-all i count all h = h ∙ ap (count_by p) (take_all i xs all)

-- ---- the specification's own terms, and given ones

-- counts are equal if both numbers are
pub counts_by : {a b c d : ℕ} → a ≡ b → c ≡ d
    → ◌≡◌ {A = Counts} (record { lines = a; limit_lines = c }) (record { lines = b; limit_lines = d })
counts_by e f = ap₂ (λ a c. record { lines = a; limit_lines = c }) e f

module _ (y : Spec) (form : ValueForm) (n : ℕ) where
  abbrev own-limited : Term → Bool
  own-limited t = is_limited y form n (record { term = t; notes = none })

  task-limits : (ts : List Term) (us : List Tree)
      → count_by (is_limited y form n) (map own ts ++ map given_task us) ≡ count_by own-limited ts + given_limits y form n us
  task-limits ts us =
      sum_by-append (λ task. cond (is_limited y form n task) 1 0) (map own ts) (map given_task us)
      ∙ ap₂ (λ a b. a + b) (sum-map (λ task. cond (is_limited y form n task) 1 0) own ts)
      (sum-map (λ task. cond (is_limited y form n task) 1 0) given_task us)

  plus-none : (a : ℕ) → a + 0 ≡ a
  plus-none a = omega arith

  pub limits-own : (terms : TermChoice) → limit_lines terms y [] form n ≡ count_by own-limited (own_chosen terms y.terms)
  limits-own terms = ap (count_by (is_limited y form n)) (chosen-alone terms y) ∙ task-limits (own_chosen terms y.terms) []
      ∙ plus-none (count_by own-limited (own_chosen terms y.terms))

  pub limits-both : (terms : TermChoice) (us : List Tree)
      → limit_lines terms y us form n ≡ limit_lines terms y [] form n + given_limits y form n (given_chosen terms (length y.terms) us)
  limits-both terms us =
      let vs = given_chosen terms (length y.terms) us in
      ap (count_by (is_limited y form n)) (chosen-parts terms y us) ∙ task-limits (own_chosen terms y.terms) vs
      ∙ ap (λ k. k + given_limits y form n vs) (sym (limits-own terms))

  -- both numbers
  pub counts-both : (terms : TermChoice) (us : List Tree) (a b : Counts) → a ≡ counts_of terms y [] form n
      → HasCounts form n y (given_chosen terms (length y.terms) us) b
      → ◌≡◌ {A = Counts} (record { lines = a.lines + b.lines; limit_lines = a.limit_lines + b.limit_lines }) (counts_of terms y us form n)
  counts-both terms us a b e f =
      counts_by (ap₂ (λ (x z : Counts). x.lines + z.lines) e f ∙ sym (length-both terms y us))
      (ap₂ (λ (x z : Counts). x.limit_lines + z.limit_lines) e f ∙ sym (limits-both terms us))

  -- those of the specification's own terms
  pub counts-own : (terms : TermChoice) (lines limits : ℕ) → lines ≡ length (own_chosen terms y.terms)
      → limits ≡ count_by own-limited (own_chosen terms y.terms)
      → ◌≡◌ {A = Counts} (record { lines = lines; limit_lines = limits }) (counts_of terms y [] form n)
  counts-own terms lines limits e f = counts_by (e ∙ sym (length-own terms y)) (f ∙ sym (limits-own terms))
