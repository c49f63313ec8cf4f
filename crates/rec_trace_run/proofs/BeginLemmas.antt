-- The trace of a term from its beginning.
use Rattle.std.proofs.Common.{sym, ap, subst, ◌∙◌}
use Rattle.std.proofs.lemmas.Option.{slice_get-get_or}
use Rattle.std.specs.Prelude.{ℕ, ◌≡◌, ◌<◌, IfSome, length, slice_get}
use Rattle.rx_term.specs.Store.{Store}
use Rattle.rx_term.specs.Tree.{Tree}
use Rattle.rec_syntax.specs.Syntax.{Apply, Spec, Term, nameless}
use Rattle.rec_syntax.specs.Syntax as syntax
use Rattle.rec_sorts.specs.Binding.{tree_of}
use Rattle.rec_sorts.specs.Evaluation.{term_of}
use Rattle.rec_run.specs.Reading.{term_at}
use Rattle.rec_trace.specs.Trace.{Trace, Traced}
use Rattle.rec_trace.specs.Tracing.{Stands, rest_of, whole_of}
use Rattle.rec_trace.specs.declared.tracer.Tracer.{Tracer}
use Rattle.rec_engine.specs.declared.engine.Outcome.{Outcome}
use Rattle.rec_trace_run.specs.Inner.Telling.{Begins, EndsIn, IsEnd, IsWithin}
use Rattle.rec_trace_run.proofs.TellingLemmas.{trace-within}

module _ (y : Spec) (w : Store) (n : ℕ) (tracer : Tracer) (t : Term) where
  pub begun-within : Begins y w n tracer t → IsWithin n (rest_of y w tracer)
  begun-within b = subst (IsWithin n) (sym b.trace) (trace-within y b.stands.order.good n t)

  -- that of the specification's own term of a number
  pub own-begins : (i : ℕ) → i < length y.terms → Stands y w tracer
      → IfSome (slice_get y.terms i) (λ u. rest_of y w tracer ≡ Trace y n u) → IfSome (slice_get y.terms i) (λ u. whole_of y w tracer ≡ tree_of u)
      → t ≡ term_at y i → Begins y w n tracer t
  own-begins i low stands h k e =
      let there = slice_get-get_or y.terms i (Apply nameless syntax.none) low in
      record {
        stands = stands;
        trace = subst (λ o. IfSome o (λ u. rest_of y w tracer ≡ Trace y n u)) there h ∙ ap (Trace y n) (sym e);
        whole = subst (λ o. IfSome o (λ u. whole_of y w tracer ≡ tree_of u)) there k ∙ ap tree_of (sym e);
      }

  -- that of an input term
  pub given-begins : (u : Tree) → Stands y w tracer → rest_of y w tracer ≡ Trace y n (term_of u) → whole_of y w tracer ≡ tree_of (term_of u)
      → t ≡ term_of u → Begins y w n tracer t
  given-begins u stands trace whole e = record { stands = stands; trace = trace ∙ ap (Trace y n) (sym e); whole = whole ∙ ap tree_of (sym e) }

  -- its outcome
  pub begun-ends : (w' : Store) (o : Outcome) → Begins y w n tracer t → IsEnd w' n (rest_of y w tracer).outcome o → EndsIn y w' n t o
  begun-ends w' o b e = record {
    good = b.stands.order.good;
    outcome = subst (λ (r : Traced Tree). IsEnd w' n r.outcome o) b.trace e;
  }
