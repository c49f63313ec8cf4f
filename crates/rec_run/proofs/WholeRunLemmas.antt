-- From what the texts of a run came to to what is due.
use Rattle.std.proofs.Common.{ap, ◌≡◌, ℕ, ◌+◌, ◌≤◌, ◌∙◌, List, Option, Some, None, IfSome, length, take, refl, subst, arith}
use Rattle.std.proofs.lemmas.List.{length-take}
use Rattle.rec_syntax.specs.Syntax.{Sourced}
use Rattle.rec_sorts.specs.SpecRules as verdict
use Rattle.rec_sorts.specs.SpecRules.{Verdict, SpecVerdict}
use Rattle.rx_term.specs.Store.{Store}
use Rattle.rx_run.specs.Due.{Due}
use Rattle.rec_run.specs.Output.{Shown, IsDueAfter, due_of_spec}
use Rattle.rec_run.specs.GivenTerms.{IsReadFrom, run_due}
use Rattle.rec_run.specs.Reading.{IsSpecRead, KeepsText, refused_spec}
use Rattle.rx_run.specs.Refusals.{refusal_due}
use Rattle.rec_run.specs.Run.{IsDueFor, Texts}
use Rattle.rx_run.specs.declared.refusal.Reading.{Reading}
use Rattle.rx_run.specs.declared.refusal.Reading.TheVariants.{Refused, Good}
use Rattle.rx_run.specs.declared.refusal.Refusal.{Refusal}
use Rattle.rx_run.specs.declared.streams.TheConstants.{LIMIT}
use Rattle.rec_run.specs.declared.spec.reading.Job.{Job}
use Rattle.rec_run.proofs.OneDueLemmas.{one_due}
use Rattle.rx_run.proofs.WholeRunLemmas.{same_refusal, short_front}

-- one thing is due for the texts of a run
pub one_due_for : (shown : Shown) (n : ℕ) (texts : Texts) (d e : Due) → IsDueFor shown n texts d → IsDueFor shown n texts e → d ≡ e
one_due_for shown n texts d e h k = one_due texts.spec texts.terms shown n d e h k

-- what the texts came to says what is due for them
pub due_for : (w : Store) (shown : Shown) (n : ℕ) (texts : Option Texts) (r : Reading Job) → IfSome texts (λ t. IsReadFrom shown.input w t r)
    → IfSome texts (λ t. IsDueFor shown n t (run_due w shown n r))
due_for w shown n None r h = tt
due_for w shown n (Some t) r h = h shown n refl

-- ---- the text of a specification

-- one byte past the limit is enough for the verdict
verdict_front : (bytes : List ℕ) (v : Verdict) → SpecVerdict (take (LIMIT + 1) bytes) v → SpecVerdict bytes v
verdict_front bytes verdict.Long h = let e = length-take (LIMIT + 1) bytes in omega (arith, e, h)
verdict_front bytes (verdict.Grammar at) h = subst (λ text. SpecVerdict text (verdict.Grammar at)) (short_front bytes h.0) h
verdict_front bytes (verdict.Breaks f) h = subst (λ text. SpecVerdict text (verdict.Breaks f)) (short_front bytes h.0) h
verdict_front bytes (verdict.Good y) h = subst (λ text. SpecVerdict text (verdict.Good y)) (short_front bytes h.0) h

-- what was read says what the text comes to
pub spec_read : (known : Option (List ℕ)) (text : List ℕ) (r : Reading Sourced) → IfSome known (λ bytes. text ≡ take (LIMIT + 1) bytes)
    → IsSpecRead text r → IfSome known (λ bytes. IsSpecRead bytes r)
spec_read None text r e h = tt
spec_read (Some bytes) text r e (v, h, is) = (v, verdict_front bytes v (subst (λ t. SpecVerdict t v) e h), is)

-- a good one keeps the text
pub kept_text : (known : Option (List ℕ)) (text : List ℕ) (r : Reading Sourced) → IfSome known (λ bytes. text ≡ take (LIMIT + 1) bytes)
    → IsSpecRead text r → KeepsText text r → IfSome known (λ bytes. KeepsText bytes r)
kept_text None text r e h k = tt
kept_text (Some bytes) text (Refused r) e h k = tt
kept_text (Some bytes) text (Good checked) e (v, h, is) k =
    let fits = (subst (SpecVerdict text) is h).0 in
    k ∙ e ∙ short_front bytes (subst (λ t. length t ≤ LIMIT) e fits)

-- a refused specification is all that counts
pub after_refusal : (v : Verdict) (r : Refusal) (terms : Option (List ℕ)) (shown : Shown) (n : ℕ) → refused_spec v ≡ Some r
    → IsDueAfter v terms shown n (refusal_due r)
after_refusal verdict.Long r terms shown n e = ap refusal_due (same_refusal e)
after_refusal (verdict.Grammar at) r terms shown n e = ap refusal_due (same_refusal e)
after_refusal (verdict.Breaks f) r terms shown n e = ap refusal_due (same_refusal e)
after_refusal (verdict.Good y) r terms shown n e = absurd (cc e)

-- what is due for a specification without given terms
pub after_spec : (shown : Shown) (n : ℕ) (v : Verdict) → IsDueAfter v None shown n (due_of_spec shown n v)
after_spec shown n verdict.Long = refl
after_spec shown n (verdict.Grammar at) = refl
after_spec shown n (verdict.Breaks f) = refl
after_spec shown n (verdict.Good y) = refl
