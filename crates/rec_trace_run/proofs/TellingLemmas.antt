-- What a trace's firings and its end come to as text.
use Rattle.std.proofs.Common.{refl, sym, ap, ap₂, subst, ◌∙◌, arith, append_assoc, append-nil}
use Rattle.std.proofs.lemmas.List.Concat.{flat_map-append}
use Rattle.std.specs.Prelude.{ℕ, ◌≡◌, ◌-◌, ◌≤◌, Bool, true, false, List, [], ◌∷◌, ◌++◌, Some, None, codes, is_some, unwrap_or}
use Rattle.rx_term.specs.Tree.{Tree, Trees, list_of, none}
use Rattle.rx_term.specs.Store.{Store, tree_at}
use Rattle.rx_term.specs.declared.Term.{Term as Reference}
use Rattle.rx_text.specs.Canon.{canon}
use Rattle.rec_syntax.specs.Syntax.{Spec, Term}
use Rattle.rec_sorts.specs.Binding.{tree_of}
use Rattle.rec_sorts.specs.Evaluation as evaluation
use Rattle.rec_sorts.specs.Evaluation.{Eval, Done, Over}
use Rattle.rec_sorts.specs.Laws.{Every}
use Rattle.rec_sorts.specs.SpecRules.{fault}
use Rattle.rec_engine.proofs.ValueTreeLemmas.{applied_unannotated, value_is_applied}
use Rattle.rec_engine.specs.declared.engine.Outcome.{Outcome}
use Rattle.rec_engine.specs.declared.engine.Outcome.TheVariants.{Value, Limit}
use Rattle.rx_run.specs.Due.{steps_text}
use Rattle.rec_run.specs.EvaluatedLines.{HoldsValue, is_over}
use Rattle.rec_run.specs.GivenTerms.{item_at}
use Rattle.rec_run.specs.Output.{Task, is_limited, notes_text}
use Rattle.rec_run.specs.declared.options.ValueForm.TheVariants.{Plain}
use Rattle.rec_run.proofs.SpecLineLemmas.{canon_annotated}
use Rattle.rec_trace.specs.Lines.{joined, spent_text, value_line, whole_text}
use Rattle.rec_trace.specs.States.{firing_then}
use Rattle.rec_trace.specs.Trace.{Arrives, Firing, Follow, Trace, Traced, quiet}
use Rattle.rec_trace.proofs.TraceLemmas.{trace_law}
use Rattle.rec_trace_run.specs.Picks.{shown_lines}
use Rattle.rec_trace_run.specs.Inner.Telling.{EndsIn, IsEnd, IsWithin, end_line, end_text, first_text, is_passed}
use Rattle.rec_trace_run.specs.Traces.{Shown, first_lines, picked_lines, task_text}

-- ---- no more is left than there was at first

within-follow : (y : Spec) (n : ℕ) (t : Tree) (fs : List Firing) (u : Tree) (left : ℕ) → Follow y n t fs u left
    → Every (λ (f : Firing). f.left ≤ n) fs × (left ≤ n)
within-follow y n t [] u left h = (tt, h.1)
within-follow y n t (f ∷ fs) u left h =
    let rest = within-follow y f.left f.after fs u left h.2 in
    let low = h.1.spends in
    let end = rest.1 in (
      (omega (arith, low), weaker fs rest.0 (omega (arith, low))),
      omega (arith, low, end),
    )
  where
    weaker : (fs : List Firing) → Every (λ (g : Firing). g.left ≤ f.left) fs → f.left ≤ n → Every (λ (g : Firing). g.left ≤ n) fs
    weaker [] k le = tt
    weaker (g ∷ gs) k le = let first = k.0 in (omega (arith, first, le), weaker gs k.1 le)

-- of any outcome
within-arrives : (y : Spec) (n : ℕ) (t : Tree) (fs : List Firing) (o : evaluation.Outcome Tree) → Arrives y n t (record { firings = fs; outcome = o })
    → IsWithin n (record { firings = fs; outcome = o })
within-arrives y n t fs (Done v left) h = let k = within-follow y n t fs v left h in record { firings = k.0; outcome = k.1 }
within-arrives y n t fs Over h = record { firings = (within-follow y n t fs h.0 0 h.1).0; outcome = tt }

pub trace-within : (y : Spec) → fault y ≡ None → (n : ℕ) (t : Term) → IsWithin n (Trace y n t)
trace-within y good n t = let r = Trace y n t in within-arrives y n (tree_of t) r.firings r.outcome (trace_law y good n t).1

pub within-next : (n : ℕ) (f : Firing) (t r : Traced Tree) → r ≡ firing_then f t → IsWithin n r → (f.left ≤ n) × IsWithin n t
within-next n f t r e h = let k = subst (IsWithin n) e h in (k.firings.0, record { firings = k.firings.1; outcome = k.outcome })

pub within-end : (n : ℕ) (v : Tree) (left : ℕ) (r : Traced Tree) → r ≡ quiet (Done v left) → IsWithin n r → left ≤ n
within-end n v left r e h = (subst (IsWithin n) e h).outcome

-- ---- texts

-- a value that was come to is held, and is written as the trace's
held-value : (w : Store) (r : Reference) (v : Tree) → tree_at w r ≡ Some v → item_at w r ≡ v
held-value w r v e = ap (λ o. unwrap_or o (list_of none)) e

pub end-held : (w : Store) (n : ℕ) (o : evaluation.Outcome Tree) (e : Outcome) → IsEnd w n o e → HoldsValue w e
end-held w n o (Value r steps) h = ap is_some h.2
end-held w n o Limit h = tt

pub end-written : (w : Store) (counted : Bool) (n : ℕ) (notes : List ℕ) (o : evaluation.Outcome Tree) (e : Outcome) → IsEnd w n o e
    → end_text w counted n notes e ++ codes "\n" ≡ end_line counted n notes o
end-written w counted n notes o (Value r steps) h =
    ap₂ (λ (u : Tree) (k : ℕ). canon u ++ notes ++ steps_text counted k ++ codes "\n") (held-value w r h.0 h.2) h.4 ∙ sym (ap (end_line counted n notes) h.3)
end-written w counted n notes o Limit h = sym (ap (end_line counted n notes) h)

-- the last line of a trace is that of its value, with annotations
spent-same : (counted : Bool) (k : ℕ) → spent_text counted k ≡ steps_text counted k
spent-same true k = refl
spent-same false k = refl

value-by : (y : Spec) (counted : Bool) (n : ℕ) (t : Term) (notes : Trees) (o : evaluation.Outcome Tree) → Eval y n [] t ≡ o
    → end_line counted n (notes_text notes) o ≡ value_line counted n notes o
value-by y counted n t notes (Done v left) e =
    let bare = applied_unannotated v (value_is_applied y n t v left e) in
    sym (ap₂ (λ (a b : List ℕ). a ++ b ++ codes "\n") (canon_annotated v notes bare) (spent-same counted (n - left)))
value-by y counted n t notes Over e = refl

-- the line of an outcome, as it is written
pub value-end : (y : Spec) (w : Store) (counted : Bool) (n : ℕ) (task : Task) (text : List ℕ) (o : Outcome) → EndsIn y w n task.term o
    → text ≡ notes_text task.notes → end_text w counted n text o ++ codes "\n" ≡ value_line counted n task.notes (Trace y n task.term).outcome
value-end y w counted n task text o e is =
    end-written w counted n text (Trace y n task.term).outcome o e.outcome
    ∙ ap (λ (a : List ℕ). end_line counted n a (Trace y n task.term).outcome) is
    ∙ value-by y counted n task.term task.notes (Trace y n task.term).outcome (sym (trace_law y e.good n task.term).0)

-- ---- all that is written of a term

pub joined-append : (xs ys : List (List ℕ)) → joined (xs ++ ys) ≡ joined xs ++ joined ys
joined-append xs ys = flat_map-append (λ l. l) xs ys

pub joined-one : (xs : List ℕ) → joined (xs ∷ []) ≡ xs
joined-one xs = append-nil xs

first-joined : (shown : Shown) (u : Tree) → joined (first_lines shown u) ≡ first_text shown u
first-joined shown u = by shown.whole
  where
    with_whole : Bool → Shown
    with_whole whole = record { whole = whole; counted = shown.counted; width = shown.width; picked = shown.picked; terms = shown.terms }

    by : (whole : Bool) → joined (first_lines (with_whole whole) u) ≡ first_text (with_whole whole) u
    by true = joined-one (whole_text 0 0 false shown.width 0 u)
    by false = refl

pub task-parts : (source : List ℕ) (y : Spec) (shown : Shown) (n : ℕ) (task : Task) → let r = Trace y n task.term in
    task_text source y shown n task ≡ first_text shown (tree_of task.term)
    ++ (joined (shown_lines shown.picked (picked_lines source shown n r.firings)) ++ value_line shown.counted n task.notes r.outcome)
task-parts source y shown n task =
    let r = Trace y n task.term in
    let first = first_lines shown (tree_of task.term) in
    let steps = shown_lines shown.picked (picked_lines source shown n r.firings) in
    let last : List ℕ = value_line shown.counted n task.notes r.outcome in
    joined-append (first ++ steps) (last ∷ [])
    ∙ ap₂ (λ (a b : List ℕ). a ++ b) (joined-append first steps) (joined-one last)
    ∙ append_assoc (joined first) (joined steps) last
    ∙ ap (λ (a : List ℕ). a ++ (joined steps ++ last)) (first-joined shown (tree_of task.term))

pub end-passed : (w : Store) (n : ℕ) (o : evaluation.Outcome Tree) (outcome : Outcome) → IsEnd w n o outcome → is_over outcome ≡ is_passed o
end-passed w n o (Value t steps) (v, left, held, is, spent) = ap is_passed (sym is)
end-passed w n o Limit is = ap is_passed (sym is)

-- a trace passes the limit as evaluation does
pub ends-limited : (y : Spec) (w : Store) (n : ℕ) (task : Task) (o : Outcome) → EndsIn y w n task.term o → is_over o ≡ is_limited y Plain n task
ends-limited y w n task o e = end-passed w n (Trace y n task.term).outcome o e.outcome ∙ ap is_passed (trace_law y e.good n task.term).0
