-- What is due for the texts of a run of traces.
use Rattle.std.proofs.Common.{sym, ap, subst, ◌∙◌}
use Rattle.std.specs.Prelude.{ℕ, ◌≡◌, List, Option, Some, None, IfSome}
use Rattle.rx_term.specs.Store.{Store}
use Rattle.rx_term.specs.declared.Term.{Term as Reference}
use Rattle.rec_syntax.specs.Syntax.{Sourced, Spec}
use Rattle.rec_sorts.specs.SpecRules.{Verdict, Long, Grammar, Breaks, Good}
use Rattle.rx_run.specs.Due.{Due}
use Rattle.rx_run.specs.Refusals.{refusal_due}
use Rattle.rx_run.specs.declared.refusal.Reading.{Reading}
use Rattle.rx_run.specs.declared.refusal.Reading.TheVariants as reading
use Rattle.rx_run.specs.declared.refusal.Refusal.{Refusal}
use Rattle.rx_run.proofs.WholeRunLemmas.{same_refusal}
use Rattle.rec_run.specs.GivenTerms.{IsJobAfter, IsJobRead}
use Rattle.rec_run.specs.GivenTerms.{IsTermsRead, job_alone_of, job_of, refused_terms}
use Rattle.rx_run.specs.declared.term.reading.InputForm.TheVariants as form
use Rattle.rec_run.specs.Output.{TermsVerdict, TooLong, Outside, NoTable, NoElement, BreaksTerms, GoodTerms}
use Rattle.rec_run.specs.Reading.{IsSpecReading, KeepsText, refused_spec}
use Rattle.rec_run.specs.Run.{Texts}
use Rattle.rec_run.specs.declared.spec.reading.Job.{Job}
use Rattle.rec_run.proofs.OneDueLemmas.{one_given_verdict, one_verdict}
use Rattle.rec_trace_run.specs.Inner.Due.{trace_due}
use Rattle.rec_trace_run.specs.Traces.{IsTraceDueAfter, IsTraceDueFor, OneTraceDue, Shown, trace_due_of_spec, trace_due_of_terms}

-- ---- one thing is due at most

one_after : (source : List ℕ) (v : Verdict) (terms : Option (List ℕ)) (shown : Shown) (n : ℕ) (d e : Due) → IsTraceDueAfter source v terms shown n d
    → IsTraceDueAfter source v terms shown n e → d ≡ e
one_after source (Good y) (Some terms) shown n d e (v, h, is) (w, k, same) =
    is ∙ ap (trace_due_of_terms source y shown n) (one_given_verdict form.Term y terms v w h k) ∙ sym same
one_after source (Good y) None shown n d e h k = h ∙ sym k
one_after source Long terms shown n d e h k = h ∙ sym k
one_after source (Grammar at) terms shown n d e h k = h ∙ sym k
one_after source (Breaks f) terms shown n d e h k = h ∙ sym k

pub one_trace_due_for : OneTraceDue
one_trace_due_for shown n texts d e (v, h, is) (w, k, same) =
    let one = one_verdict texts.spec v w h k in
    one_after texts.spec w texts.terms shown n d e (subst (λ x. IsTraceDueAfter texts.spec x texts.terms shown n d) one is) same

-- ---- from what the texts came to to what is due

-- a refused specification is all that counts
after_refusal : (source : List ℕ) (v : Verdict) (r : Refusal) (terms : Option (List ℕ)) (shown : Shown) (n : ℕ) → refused_spec v ≡ Some r
    → IsTraceDueAfter source v terms shown n (refusal_due r)
after_refusal source Long r terms shown n e = ap refusal_due (same_refusal e)
after_refusal source (Grammar at) r terms shown n e = ap refusal_due (same_refusal e)
after_refusal source (Breaks f) r terms shown n e = ap refusal_due (same_refusal e)
after_refusal source (Good y) r terms shown n e = absurd (cc e)

-- a text of terms behind a good specification
refused_due : (source : List ℕ) (y : Spec) (shown : Shown) (n : ℕ) (r : Refusal) (v : TermsVerdict) → refused_terms v ≡ Some r
    → refusal_due r ≡ trace_due_of_terms source y shown n v
refused_due source y shown n r TooLong e = ap refusal_due (same_refusal e)
refused_due source y shown n r (Outside at) e = ap refusal_due (same_refusal e)
refused_due source y shown n r NoTable e = ap refusal_due (same_refusal e)
refused_due source y shown n r (NoElement number) e = ap refusal_due (same_refusal e)
refused_due source y shown n r (BreaksTerms number) e = ap refusal_due (same_refusal e)
refused_due source y shown n r (GoodTerms ts) e = absurd (cc e)

terms_read : (w : Store) (checked : Sourced) (bytes : List ℕ) (r : Reading Reference) → IsTermsRead form.Term checked.spec w bytes r
    → (shown : Shown) (n : ℕ) → IsTraceDueAfter checked.source (Good checked.spec) (Some bytes) shown n (trace_due w shown n (job_of checked r))
terms_read w checked bytes (reading.Refused r) (v, h, is) = λ shown n. (v, h, refused_due checked.source checked.spec shown n r v is)
terms_read w checked bytes (reading.Good list) (v, h, is) = λ shown n. (v, h, ap (trace_due_of_terms checked.source checked.spec shown n) (sym is))

-- both
module _ (w : Store) (shown : Shown) (n : ℕ) where
  due_after : (source : List ℕ) (given : Option (List ℕ)) (first : Reading Sourced) (r : Reading Job) (v : Verdict) → KeepsText source first
      → IsSpecReading first v → IsJobAfter form.Term w given first r → IsTraceDueAfter source v given shown n (trace_due w shown n r)
  due_after source given (reading.Refused q) r v kept is h =
      subst (λ z. IsTraceDueAfter source v given shown n (trace_due w shown n z)) (sym h) (after_refusal source v q given shown n is)
  due_after source None (reading.Good checked) r v kept is h =
      let alone = job_alone_of (reading.Good checked) in
      subst (λ z. IsTraceDueAfter source v None shown n (trace_due w shown n z)) (sym h)
      (subst (λ z. IsTraceDueAfter source z None shown n (trace_due w shown n alone)) (sym is)
      (ap (λ s. trace_due_of_spec s shown n (Good checked.spec)) kept))
  due_after source (Some bytes) (reading.Good checked) r v kept is (t, k, e) =
      let due = trace_due w shown n (job_of checked t) in
      subst (λ z. IsTraceDueAfter source v (Some bytes) shown n (trace_due w shown n z)) (sym e)
      (subst (λ z. IsTraceDueAfter source z (Some bytes) shown n due) (sym is)
      (subst (λ s. IsTraceDueAfter s (Good checked.spec) (Some bytes) shown n due) kept (terms_read w checked bytes t k shown n)))

  pub due_read : (texts : Option Texts) (r : Reading Job) → IfSome texts (λ t. IsJobRead form.Term w t r)
      → IfSome texts (λ t. IsTraceDueFor shown n t (trace_due w shown n r))
  due_read None r h = tt
  due_read (Some t) r (first, (v, h, is), kept, after) = (v, h, due_after t.spec t.terms first r v kept is after)
