-- What is told of values, term by term.
use Rattle.std.proofs.Common.{sym, ap, ap₂, ◌∙◌, append-nil, append_assoc, take_all}
use Rattle.std.proofs.lemmas.List.{take_more}
use Rattle.std.proofs.lemmas.List.Concat.{flat_map-append}
use Rattle.std.proofs.lemmas.List.Folds.{flat_map-map}
use Rattle.std.proofs.lemmas.Option.{slice_get-get_or}
use Rattle.std.specs.Option.{option_map}
use Rattle.std.specs.Prelude.{ℕ, ◌≡◌, ◌+◌, ◌<◌, ◌≤◌, List, [], ◌∷◌, ◌++◌, Some, flat_map, get_or, length, map, take, unwrap_or}
use Rattle.rx_term.specs.Tree.{Tree, annotated, list_of, none}
use Rattle.rx_term.specs.Store.{Store, tree_at}
use Rattle.rx_term.specs.declared.Term.{Term as Reference}
use Rattle.rec_syntax.specs.Syntax.{Apply, Spec, Term, nameless}
use Rattle.rec_syntax.specs.Syntax as syntax
use Rattle.rec_sorts.specs.Binding.{tree_of}
use Rattle.rec_sorts.specs.Evaluation as evaluation
use Rattle.rec_sorts.specs.Evaluation.{Eval, term_of}
use Rattle.rec_engine.specs.Engine.{IsGiven, IsOutcome, eval_tree}
use Rattle.rec_engine.specs.declared.engine.Outcome.{Outcome}
use Rattle.rec_engine.specs.declared.engine.Outcome.TheVariants.{Value, Limit}
use Rattle.rec_run.specs.Choice.{given_chosen, own_chosen}
use Rattle.rec_run.specs.GivenTerms.{item_at}
use Rattle.rec_run.specs.Output.{Task}
use Rattle.rec_run.specs.declared.options.TermChoice.{TermChoice}
use Rattle.rec_run.specs.Reading.{term_at}
use Rattle.rec_run.proofs.ChoiceLemmas.{chosen-alone, chosen-parts, own}
use Rattle.rec_run.proofs.EvaluatedLemmas.{bare_tree, eval-tree, given_item}
use Rattle.rec_run.specs.Reports.{Says, given_report, outcome_report, report_of, value_report}
use Rattle.rec_run.specs.Output.{given_task}
use Rattle.rec_run.specs.Reading.{own_task}

-- what is told of an outcome of evaluation
abbrev shown-of : Says → List ℕ → Spec → Task → evaluation.Outcome Tree → List ℕ
shown-of says source y task o = elim o [
  | evaluation.Done v left ↦ says source y (annotated v task.notes)
  | evaluation.Over ↦ []
]

told-outcome : (says : Says) (source : List ℕ) (y : Spec) (w : Store) (n : ℕ) (u : Tree) (o : Outcome) → IsOutcome y w n u o
    → outcome_report says source y w o ≡ value_report says source y n (given_task u)
told-outcome says source y w n u (Value r steps) h =
    ap (says source y) (ap (λ z. unwrap_or z (list_of none)) h.there) ∙ ap (shown-of says source y (given_task u)) (sym h.evaluated)
told-outcome says source y w n u Limit h = ap (shown-of says source y (given_task u)) (sym h)

-- of the outcome of a given term
pub told-given : (says : Says) (source : List ℕ) (y z : Spec) (old w : Store) (n : ℕ) (t : Reference) (o : Outcome) → IsGiven y old t → z ≡ y
    → ((u : Tree) → tree_at old t ≡ Some u → IsOutcome z w n u o) → outcome_report says source z w o ≡ value_report says source y n (given_task (item_at old t))
told-given says source y z old w n t o given same answered =
    told-outcome says source z w n given.tree o (answered given.tree given.held)
    ∙ ap (λ x. value_report says source x n (given_task given.tree)) same ∙ ap (λ u. value_report says source y n (given_task u)) (sym (given_item y old t given))

-- of the specification's own term
own-told : (says : Says) (source : List ℕ) (y : Spec) (n : ℕ) (t : Term) → value_report says source y n (given_task (tree_of t)) ≡ value_report says source y n
    (record { term = t; notes = none })
own-told says source y n t = ap₂ (λ notes o. shown-of says source y (record { term = t; notes = notes }) o) (bare_tree t) (eval-tree y n t)

pub told-own : (says : Says) (source : List ℕ) (y z : Spec) (w : Store) (n i : ℕ) (t : Reference) → z ≡ y → i < length y.terms → tree_at w t ≡ eval_tree z i
    → value_report says source z n (given_task (item_at w t)) ≡ value_report says source y n (own_task y i)
told-own says source y z w n i t same low here =
    let own : tree_at w t ≡ Some (tree_of (term_at y i)) = here ∙ ap (λ x. eval_tree x i) same
    ∙ ap (option_map tree_of) (slice_get-get_or y.terms i (Apply nameless syntax.none) low) in
    ap (λ x. value_report says source x n (given_task (item_at w t))) same
    ∙ ap (λ o. value_report says source y n (given_task (unwrap_or o (list_of none)))) own ∙ own-told says source y n (term_at y i)

-- ---- items, one after the other

module _ {X : Type 0} (f : X → List ℕ) (xs : List X) where
  pub told-more : (i : ℕ) (d : X) (old mid new : List ℕ) → i < length xs → mid ≡ old ++ flat_map f (take i xs) → new ≡ mid ++ f (get_or xs i d)
      → new ≡ old ++ flat_map f (take (i + 1) xs)
  told-more i d old mid new low h k =
      k ∙ ap (λ z. z ++ f (get_or xs i d)) h ∙ append_assoc old (flat_map f (take i xs)) (f (get_or xs i d))
      ∙ ap (λ z. old ++ z) (sym (ap (flat_map f) (take_more xs i d low) ∙ flat_map-append f (take i xs) (get_or xs i d ∷ [])
      ∙ ap (λ z. flat_map f (take i xs) ++ z) (append-nil (f (get_or xs i d)))))

  pub told-all : (i : ℕ) (old new : List ℕ) → length xs ≤ i → new ≡ old ++ flat_map f (take i xs) → new ≡ old ++ flat_map f xs
  told-all i old new all h = h ∙ ap (λ z. old ++ flat_map f z) (take_all i xs all)

-- ---- the specification's own terms, and given ones

module _ (says : Says) (source : List ℕ) (y : Spec) (n : ℕ) where
  abbrev own-of : Term → List ℕ
  own-of t = value_report says source y n (record { term = t; notes = none })

  tasks-told : (ts : List Term) (us : List Tree)
      → flat_map (value_report says source y n) (map own ts ++ map given_task us) ≡ flat_map own-of ts ++ given_report says source y n us
  tasks-told ts us =
      flat_map-append (value_report says source y n) (map own ts) (map given_task us)
      ∙ ap₂ (λ a b. a ++ b) (flat_map-map (value_report says source y n) own ts) (flat_map-map (value_report says source y n) given_task us)

  pub report-own : (terms : TermChoice) → report_of terms says source y [] n ≡ flat_map own-of (own_chosen terms y.terms)
  report-own terms = ap (flat_map (value_report says source y n)) (chosen-alone terms y) ∙ tasks-told (own_chosen terms y.terms) []
      ∙ append-nil (flat_map own-of (own_chosen terms y.terms))

  pub report-both : (terms : TermChoice) (us : List Tree)
      → report_of terms says source y us n ≡ report_of terms says source y [] n ++ given_report says source y n (given_chosen terms (length y.terms) us)
  report-both terms us =
      let vs = given_chosen terms (length y.terms) us in
      ap (flat_map (value_report says source y n)) (chosen-parts terms y us) ∙ tasks-told (own_chosen terms y.terms) vs
      ∙ ap (λ z. z ++ given_report says source y n vs) (sym (report-own terms))
