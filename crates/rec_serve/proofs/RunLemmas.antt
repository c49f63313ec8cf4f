-- Whole runs, by the verdict on the specification.
use Rattle.std.proofs.Common.{◌≡◌, ℕ, List, [], Option, Some, None, IfErr, IfSome, OnOk, Result, Ok, Err, refl, ap, subst, ◌∙◌}
use Rattle.rx_text.specs.Written.{AppendsFront}
use Rattle.rx_text.proofs.AppendingLemmas.{appends_same}
use Rattle.rec_syntax.specs.Syntax.{Sourced, Spec}
use Rattle.rec_sorts.specs.SpecRules as verdict
use Rattle.rec_sorts.specs.SpecRules.{Good, SpecVerdict, Verdict}
use Rattle.rx_run.specs.declared.refusal.Ending.{Ending}
use Rattle.rx_run.specs.declared.refusal.Reading.{Reading}
use Rattle.rx_run.specs.declared.ending.RunFault.{RunFault}
use Rattle.rx_run.specs.declared.ending.RunFault.TheVariants as unread
use Rattle.rec_run.specs.GivenTerms.{IsRefusal, OnGoodSpec, OnRefusedSpec}
use Rattle.rec_run.specs.Reading.{IsSpecRead, IsSpecReading}
use Rattle.rec_run.proofs.OneDueLemmas.{one_verdict}
use Rattle.rec_serve.specs.Replies.{BreaksAfter, BreaksServing, IsReply, answered_before, unread_fault}
use Rattle.rec_serve.specs.declared.ending.ServeFault.{ServeFault}
use Rattle.rec_serve.proofs.ReplyLemmas.{breaks_at_once}
use Rattle.rec_serve.specs.declared.settings.ServeSettings.{ServeSettings}

-- what a text came to is the one verdict on it
the_reading : (text : List ℕ) (r : Reading Sourced) (v : Verdict) → IsSpecRead text r → SpecVerdict text v → IsSpecReading r v
the_reading text r v (w, h, is) k = subst (IsSpecReading r) (one_verdict text w v h k) is

pub breaks_serving : (s : ServeSettings) (spec known : Option (List ℕ)) (r : Reading Sourced)
    (result : Result Ending ServeFault) (old new : Option (List ℕ)) → IfSome spec (λ text. IsSpecRead text r)
    → IfErr result (λ fault. (v : Verdict) → IsSpecReading r v → BreaksAfter s v known fault old new)
    → IfErr result (λ fault. BreaksServing s spec known fault old new)
breaks_serving s spec known r (Ok x) old new h k = tt
breaks_serving s None known r (Err fault) old new h k = tt
breaks_serving s (Some text) known r (Err fault) old new h k = λ v is. k v (the_reading text r v h is)

pub good_serving : (spec : Option (List ℕ)) (r : Reading Sourced) (result : Result Ending ServeFault) (P : Type 0)
    → IfSome spec (λ text. IsSpecRead text r) → OnOk result ((y : Spec) → IsSpecReading r (Good y) → P) → OnOk result (OnGoodSpec spec P)
good_serving spec r (Err fault) P h k = tt
good_serving None r (Ok x) P h k = tt
good_serving (Some text) r (Ok x) P h k = λ y is. k y (the_reading text r (Good y) h is)

pub refused_serving : (spec : Option (List ℕ)) (r : Reading Sourced) (P : Type 0) → IfSome spec (λ text. IsSpecRead text r)
    → ((v : Verdict) → IsSpecReading r v → IsRefusal v → P) → OnRefusedSpec spec P
refused_serving None r P h k = tt
refused_serving (Some text) r P h k = λ v is refused. k v (the_reading text r v h is) refused

unread_first : (f : RunFault) → answered_before (unread_fault f) ≡ 0
unread_first (unread.Memory lines) = refl
unread_first (unread.Room lines) = refl
unread_first (unread.Deep lines) = refl
unread_first unread.Read = refl
unread_first unread.Write = refl

nothing_front : (text : List ℕ) (old : Option (List ℕ)) → AppendsFront text old old
nothing_front text old = ([], appends_same old, (text, refl))

unread_after : (s : ServeSettings) (v : Verdict) (known : Option (List ℕ)) (fault : ServeFault) (old : Option (List ℕ))
    → answered_before fault ≡ 0 → BreaksAfter s v known fault old old
unread_after s (Good y) known fault old a = breaks_at_once (IsReply y s) known old fault a
unread_after s verdict.Long known fault old a = (a, nothing_front _ old)
unread_after s (verdict.Grammar at) known fault old a = (a, nothing_front _ old)
unread_after s (verdict.Breaks f) known fault old a = (a, nothing_front _ old)

pub breaks_unread : (s : ServeSettings) (spec known : Option (List ℕ)) (f : RunFault) (fault : ServeFault)
    (old : Option (List ℕ)) → fault ≡ unread_fault f → BreaksServing s spec known fault old old
breaks_unread s None known f fault old e = tt
breaks_unread s (Some text) known f fault old e = λ v is. unread_after s v known fault old (ap answered_before e ∙ unread_first f)
