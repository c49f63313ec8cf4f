-- From what was read of the text of terms to what is due for it.
use Rattle.std.proofs.Common.{◌≡◌, ℕ, ◌+◌, List, Option, Some, None, Result, Ok, Err, IfErr, IfOk}
use Rattle.std.proofs.Common.{◌<◌, IfSome, IsErrAnd, IsSome, OnOk, length, take, refl, sym, ap, subst, ◌∙◌, arith}
use Rattle.std.specs.Prelude.{option_map}
use Rattle.std.specs.declared.vec.Vec.{Vec}
use Rattle.std.proofs.lemmas.List.{length-take}
use Rattle.rx_term.specs.Tree.{Tree}
use Rattle.rx_term.specs.Store.{Store, tree_at}
use Rattle.rx_term.specs.declared.Term.{Term as Reference}
use Rattle.rx_text.specs.Verdict.{IsVerdict, Spelt}
use Rattle.rx_text.specs.Verdict as text
use Rattle.rx_table.specs.Opened.{tree_of_table}
use Rattle.rec_syntax.specs.Syntax.{Sourced, Spec}
use Rattle.rec_sorts.specs.SpecRules.{Fits, Good, Verdict}
use Rattle.rec_sorts.specs.TermRules.{broken_by_terms}
use Rattle.rec_sorts.specs.TermsFaults.{IsTermsFault}
use Rattle.rec_sorts.specs.declared.fault.TermsFault.{TermsFault}
use Rattle.rec_sorts.specs.declared.fault.TermsFault.TheVariants as rule
use Rattle.rec_run.specs.GivenTerms.{EndsRefused, HoldsList, HoldsTerms, IsJobAfter, IsJobRead, IsJudged, IsListRead, IsReadAs, IsReadFor, IsReadFrom, IsReady}
use Rattle.rec_run.specs.GivenTerms.{IsRefusal, IsTermsRead, refused_terms, OnGoodSpec, OnRefusedSpec, given_at, job_of, list_refused}
use Rattle.rx_run.specs.Readings.{IsReadingIn, IsTableReason}
use Rattle.rec_run.specs.Output.{GoodTerms, BreaksTerms, NoElement, NoTable, TooLong, Outside, Shown, TermsVerdict, IsGivenVerdict, due_of_terms}
use Rattle.rx_run.specs.Run.{StopsReading}
use Rattle.rec_run.proofs.FaultLemmas.{reading_has_room}
use Rattle.rec_run.specs.Reading.{IsGood, IsSpecRead, IsSpecReading, KeepsText}
use Rattle.rx_run.specs.Refusals.{refusal_due}
use Rattle.rec_run.specs.InputTerms.{IsFrontOf}
use Rattle.rec_run.specs.Run.{HasRoom, Texts, both_texts}
use Rattle.rx_run.specs.declared.ending.RunFault.{RunFault}
use Rattle.rx_run.specs.declared.ending.RunFault.TheVariants as fault
use Rattle.rx_run.specs.declared.ending.Source.{Source}
use Rattle.rx_run.specs.declared.ending.Source.TheVariants as source
use Rattle.rx_run.specs.declared.term.reading.InputForm.{InputForm}
use Rattle.rx_run.specs.declared.term.reading.InputForm.TheVariants as form
use Rattle.rx_run.specs.declared.refusal.Reading.{Reading}
use Rattle.rx_run.specs.declared.refusal.Reading.TheVariants.{Good as GoodSpec, Refused as RefusedSpec}
use Rattle.rx_run.specs.declared.refusal.Reading.TheVariants.{Good as GoodRun, Refused as RefusedRun}
use Rattle.rx_run.specs.declared.refusal.Reason.{Reason}
use Rattle.rx_run.specs.declared.refusal.Reason.TheVariants as reason
use Rattle.rx_run.specs.declared.refusal.Refusal.{Refusal}
use Rattle.rx_run.specs.declared.streams.TheConstants.{LIMIT}
use Rattle.rec_run.specs.declared.spec.reading.Job.{Job}
use Rattle.rec_run.proofs.GivenLemmas.{given_elements, holds_terms, kept_elements}
use Rattle.rec_run.proofs.OneDueLemmas.{one_verdict}
use Rattle.rx_run.proofs.WholeRunLemmas.{same_refusal, short_front}
use Rattle.rec_run.proofs.WholeRunLemmas.{after_refusal}

-- one byte past the limit is enough for the verdict
long_front : (bytes : List ℕ) → 16777216 < length (take (LIMIT + 1) bytes) → 16777216 < length bytes
long_front bytes h = let e = length-take (LIMIT + 1) bytes in omega (arith, e, h)

fitting_front : (input : InputForm) (y : Spec) (bytes : List ℕ) (v : TermsVerdict) → Fits (take (LIMIT + 1) bytes)
    → IsGivenVerdict input y (take (LIMIT + 1) bytes) v → IsGivenVerdict input y bytes v
fitting_front input y bytes v fits h = subst (λ text. IsGivenVerdict input y text v) (short_front bytes fits) h

terms_front : (input : InputForm) (y : Spec) (bytes : List ℕ) (v : TermsVerdict) → IsGivenVerdict input y (take (LIMIT + 1) bytes) v
    → IsGivenVerdict input y bytes v
terms_front form.Term y bytes TooLong h = long_front bytes h
terms_front form.Term y bytes (Outside at) h = fitting_front form.Term y bytes (Outside at) h.0 h
terms_front form.Term y bytes NoTable h = absurd h
terms_front form.Term y bytes (NoElement number) h = absurd h
terms_front form.Term y bytes (BreaksTerms number) h = fitting_front form.Term y bytes (BreaksTerms number) h.0 h
terms_front form.Term y bytes (GoodTerms us) h = fitting_front form.Term y bytes (GoodTerms us) h.0 h
terms_front form.Table y bytes TooLong h = long_front bytes h
terms_front form.Table y bytes (Outside at) h = fitting_front form.Table y bytes (Outside at) h.0 h
terms_front form.Table y bytes NoTable h = fitting_front form.Table y bytes NoTable h.0 h
terms_front form.Table y bytes (NoElement number) h = fitting_front form.Table y bytes (NoElement number) h.0 h
terms_front form.Table y bytes (BreaksTerms number) h = fitting_front form.Table y bytes (BreaksTerms number) h.0 h
terms_front form.Table y bytes (GoodTerms us) h = fitting_front form.Table y bytes (GoodTerms us) h.0 h

-- the verdict on a text of terms says what is due for it
refused_due : (y : Spec) (shown : Shown) (n : ℕ) (r : Refusal) (v : TermsVerdict) → refused_terms v ≡ Some r → refusal_due r ≡ due_of_terms y shown n v
refused_due y shown n r TooLong e = ap refusal_due (same_refusal e)
refused_due y shown n r (Outside at) e = ap refusal_due (same_refusal e)
refused_due y shown n r NoTable e = ap refusal_due (same_refusal e)
refused_due y shown n r (NoElement number) e = ap refusal_due (same_refusal e)
refused_due y shown n r (BreaksTerms number) e = ap refusal_due (same_refusal e)
refused_due y shown n r (GoodTerms ts) e = absurd (cc e)

list_read : (input : InputForm) (y : Spec) (w : Store) (bytes : List ℕ) (r : Reading Reference) → IsTermsRead input y w bytes r
    → IsListRead input y w bytes r
list_read input y w bytes (RefusedRun r) (v, h, is) = λ shown n e.
    (v, subst (λ i. IsGivenVerdict i y bytes v) (sym e) h, refused_due y shown n r v is)
list_read input y w bytes (GoodRun list) (v, h, is) = λ shown n e.
    (v, subst (λ i. IsGivenVerdict i y bytes v) (sym e) h, ap (due_of_terms y shown n) (sym is))

-- and with a good specification what is due for both texts
job_read : (input : InputForm) (w : Store) (checked : Sourced) (bytes : List ℕ) (r : Reading Reference) → IsListRead input checked.spec w bytes r
    → IsReadFor input w checked.spec (Some bytes) (job_of checked r)
job_read input w checked bytes (RefusedRun r) h = h
job_read input w checked bytes (GoodRun list) h = h

-- one byte past the limit is enough for what both texts come to
job_front : (input : InputForm) (w : Store) (checked : Sourced) (given read : Option (List ℕ)) (r : Reading Job)
    → read ≡ option_map (take (LIMIT + 1)) given → IsJobAfter input w read (GoodSpec checked) r → IsJobAfter input w given (GoodSpec checked) r
job_front input w checked None read r e h = subst (λ z. IsJobAfter input w z (GoodSpec checked) r) e h
job_front input w checked (Some bytes) read r e h =
    let (t, (v, is, these), same) = subst (λ z. IsJobAfter input w z (GoodSpec checked) r) e h in
    (t, (v, terms_front input checked.spec bytes v is, these), same)

pub read_given : {Z : Type 0} (input : InputForm) (w : Store) (checked : Sourced) (result : Result (Reading Job) RunFault) (read : Option (Vec ℕ Z))
    (known : Option (Option (List ℕ))) → IfSome known (IsFrontOf read)
    → IfOk result (IsJobAfter input w (option_map (λ v. v.items) read) (GoodSpec checked))
    → IfOk result (λ r. IfSome known (λ given. IsJobAfter input w given (GoodSpec checked) r))
read_given input w checked (Err e) read known front h = tt
read_given input w checked (Ok r) read None front h = tt
read_given input w checked (Ok r) read (Some given) front h = job_front input w checked given _ r front h

-- a refused specification is all that counts
pub refused_first : (input : InputForm) (w : Store) (q : Refusal) (first : Reading Sourced) (known : Option (Option (List ℕ))) → first ≡ RefusedSpec q
    → IfSome known (λ given. IsJobAfter input w given first (RefusedRun q))
refused_first input w q first None e = tt
refused_first input w q first (Some given) e = subst (λ z. IsJobAfter input w given z (RefusedRun q)) (sym e) refl

-- which can be evaluated
pub job_ready : (w : Store) (checked : Sourced) (r : Reading Reference) → HoldsList checked.spec w r → IsReady w (job_of checked r)
job_ready w checked (RefusedRun r) h = tt
job_ready w checked (GoodRun list) h = λ x e. let same : list ≡ x = cc in subst (HoldsTerms checked.spec w) same h

-- input terms whose tree is not a table
no_table : (y : Spec) (w : Store) (bytes : List ℕ) (t : Tree) (of : Source) (r : Reason) → IsVerdict bytes (Spelt t) → of ≡ source.Terms
    → IsTableReason t r → IsTermsRead form.Table y w bytes (RefusedRun (record { text = of; reason = r }))
no_table y w bytes t of reason.NotTable (fits, spelt) e h = (NoTable, (fits, (t, spelt, h)), rw e refl)
no_table y w bytes t of (reason.Element n) (fits, spelt) e h = (NoElement n, (fits, (t, spelt, h.0, h.1)), rw e refl)
no_table y w bytes t of r is e h = absurd h

-- input terms that are rejected before they are checked against a specification
pub no_term : (input : InputForm) (y : Spec) (w : Store) (bytes : List ℕ) (r : Refusal) (v : text.Verdict)
    → IsReadingIn source.Terms input w (RefusedRun r) v → IsVerdict bytes v → IsTermsRead input y w bytes (RefusedRun r)
no_term form.Term y w bytes r text.TooLong e h = (TooLong, h, e)
no_term form.Term y w bytes r (text.Outside at) e h = (Outside at, h, e)
no_term form.Term y w bytes r (Spelt t) e h = absurd (cc e)
no_term form.Table y w bytes r text.TooLong e h = (TooLong, h, e)
no_term form.Table y w bytes r (text.Outside at) e h = (Outside at, h, e)
no_term form.Table y w bytes r (Spelt t) e h = no_table y w bytes t r.text r.reason h e.0 e.1

-- input terms that were checked: a text, and a table
judged_text : (y : Spec) (w : Store) (bytes : List ℕ) (t : Tree) (r : Reading Reference) → IsVerdict bytes (Spelt t) → IsJudged y w t r
    → IsTermsRead form.Term y w bytes r
judged_text y w bytes t (RefusedRun r) (fits, spelt) (number, broken, e) = (BreaksTerms number, (fits, (t, spelt, broken)), ap Some (sym e))
judged_text y w bytes t (GoodRun list) (fits, spelt) (kept, these) = (GoodTerms (given_at w list), (fits, (t, spelt, kept, these)), refl)

judged_table : (y : Spec) (w : Store) (bytes : List ℕ) (t u : Tree) (r : Reading Reference) → IsVerdict bytes (Spelt t) → tree_of_table t ≡ Some u
    → IsJudged y w u r → IsTermsRead form.Table y w bytes r
judged_table y w bytes t u (RefusedRun r) (fits, spelt) opens (number, broken, e) =
    (BreaksTerms number, (fits, (t, u, spelt, opens, broken)), ap Some (sym e))
judged_table y w bytes t u (GoodRun list) (fits, spelt) opens (kept, these) =
    (GoodTerms (given_at w list), (fits, (t, u, spelt, opens, kept, these)), refl)

-- input terms that have a tree, in either form
pub some_term : (input : InputForm) (y : Spec) (w : Store) (bytes : List ℕ) (list : Reference) (v : text.Verdict) (r : Reading Reference)
    → IsReadingIn source.Terms input w (GoodRun list) v → IsVerdict bytes v → IfSome (tree_at w list) (λ t. IsJudged y w t r)
    → IsTermsRead input y w bytes r
some_term form.Term y w bytes list v r (u, here, e) h k =
    judged_text y w bytes u r (subst (IsVerdict bytes) e h) (subst (λ o. IfSome o (λ t. IsJudged y w t r)) here k)
some_term form.Table y w bytes list v r (x, (u, e, opens, here)) h k =
    judged_table y w bytes x u r (subst (IsVerdict bytes) e h) opens (subst (λ o. IfSome o (λ t. IsJudged y w t r)) here k)

-- a list that is not accepted: the rule that it breaks is due
broken_list : (o : Option Tree) (y : Spec) (w : Store) (number : ℕ) → IfSome o (λ t. broken_by_terms y t ≡ Some number)
    → IfSome o (λ t. IsJudged y w t (RefusedRun (record { text = source.Terms; reason = reason.TermsRule number })))
broken_list None y w number h = tt
broken_list (Some t) y w number h = (number, h, refl)

due_refused : (o : Option Tree) (y : Spec) (w : Store) (e : TermsFault) → IfSome o (λ t. IsTermsFault (broken_by_terms y t) e)
    → IfOk (list_refused e) (λ r. IfSome o (λ t. IsJudged y w t r))
due_refused o y w (rule.Rule number) h = broken_list o y w number h
due_refused o y w rule.Memory h = tt

pub list_due : (result : Result (Reading Reference) RunFault) (o : Option Tree) (y : Spec) (w : Store) (e : TermsFault) → result ≡ list_refused e
    → IfSome o (λ t. IsTermsFault (broken_by_terms y t) e) → IfOk result (λ r. IfSome o (λ t. IsJudged y w t r))
list_due result o y w e same h = subst (λ z. IfOk z (λ r. IfSome o (λ t. IsJudged y w t r))) (sym same) (due_refused o y w e h)

holds_refused : (y : Spec) (w : Store) (e : TermsFault) → IfOk (list_refused e) (HoldsList y w)
holds_refused y w (rule.Rule number) = tt
holds_refused y w rule.Memory = tt

pub refused_holds : (y : Spec) (w : Store) (result : Result (Reading Reference) RunFault) (e : TermsFault) → result ≡ list_refused e
    → IfOk result (HoldsList y w)
refused_holds y w result e same = subst (λ z. IfOk z (HoldsList y w)) (sym same) (holds_refused y w e)

list_memory : (e : TermsFault) → IfErr (list_refused e) (λ f. f ≡ fault.Memory 0)
list_memory (rule.Rule number) = tt
list_memory rule.Memory = refl

pub list_fault : (result : Result (Reading Reference) RunFault) (e : TermsFault) → result ≡ list_refused e → IfErr result (λ f. f ≡ fault.Memory 0)
list_fault result e same = subst (λ z. IfErr z (λ f. f ≡ fault.Memory 0)) (sym same) (list_memory e)

-- and one that keeps them
pub good_list : (w : Store) (y : Spec) (list : Reference) → IfSome (tree_at w list) (λ t. broken_by_terms y t ≡ None)
    → IfSome (tree_at w list) (λ t. IsJudged y w t (GoodRun list))
good_list w y list h = by (tree_at w list) refl h
  where
    by : (o : Option Tree) → tree_at w list ≡ o → IfSome o (λ t. broken_by_terms y t ≡ None) → IfSome o (λ t. IsJudged y w t (GoodRun list))
    by None here kept = tt
    by (Some t) here kept =
        let found = kept_elements y t kept in
        (kept, found.1 ∙ ap Some (sym (given_elements w list t found.0 here found.1)))

-- its terms keep the rules
pub list_holds : (w : Store) (y : Spec) (list : Reference) → IsSome (tree_at w list) → IfSome (tree_at w list) (λ t. broken_by_terms y t ≡ None)
    → HoldsTerms y w list
list_holds w y list there h = by (tree_at w list) refl there h
  where
    by : (o : Option Tree) → tree_at w list ≡ o → IsSome o → IfSome o (λ t. broken_by_terms y t ≡ None) → HoldsTerms y w list
    by None here there kept = absurd (cc there)
    by (Some t) here there kept = holds_terms y w list t here kept

-- what both texts came to
read_both : (input : InputForm) (w : Store) (bytes : Option (List ℕ)) (given : Option (Option (List ℕ))) (first : Reading Sourced) (r : Reading Job)
    → IfSome bytes (λ b. IsSpecRead b first) → IfSome bytes (λ b. KeepsText b first) → IfSome given (λ terms. IsJobAfter input w terms first r)
    → IfSome (both_texts bytes given) (λ texts. IsJobRead input w texts r)
read_both input w None given first r h kept k = tt
read_both input w (Some b) None first r h kept k = tt
read_both input w (Some b) (Some terms) first r h kept k = (first, h, kept, k)

pub read_with : (input : InputForm) (w : Store) (result : Result (Reading Job) RunFault) (bytes : Option (List ℕ)) (given : Option (Option (List ℕ)))
    (first : Reading Sourced) → IfSome bytes (λ b. IsSpecRead b first) → IfSome bytes (λ b. KeepsText b first)
    → IfOk result (λ r. IfSome given (λ terms. IsJobAfter input w terms first r))
    → IfOk result (λ r. IfSome (both_texts bytes given) (λ texts. IsJobRead input w texts r))
read_with input w (Err e) bytes given first h kept k = tt
read_with input w (Ok r) bytes given first h kept k = read_both input w bytes given first r h kept k

-- that says what is due for them
due_after : (input : InputForm) (w : Store) (given : Option (List ℕ)) (first : Reading Sourced) (r : Reading Job) (v : Verdict) → IsSpecReading first v
    → IsJobAfter input w given first r → IsReadAs input w v given r
due_after input w given (RefusedSpec q) r v is h = subst (IsReadAs input w v given) (sym h) (λ shown n e. after_refusal v q given shown n is)
due_after input w None (GoodSpec checked) r v is h =
    subst (λ z. IsReadAs input w z None r) (sym is) (subst (IsReadFor input w checked.spec None) (sym h) (λ shown n e. refl))
due_after input w (Some bytes) (GoodSpec checked) r v is (t, k, e) =
    subst (λ z. IsReadAs input w z (Some bytes) r) (sym is) (subst (IsReadFor input w checked.spec (Some bytes)) (sym e)
    (job_read input w checked bytes t (list_read input checked.spec w bytes t k)))

pub due_read : (input : InputForm) (w : Store) (texts : Option Texts) (r : Reading Job) → IfSome texts (λ t. IsJobRead input w t r)
    → IfSome texts (λ t. IsReadFrom input w t r)
due_read input w None r h = tt
due_read input w (Some t) r (first, (v, h, is), kept, after) = λ shown n e. (v, h, due_after input w t.terms first r v is after shown n e)

-- what holds where a refused specification was read holds where its text is refused
pub on_refused : (P : Type 0) (bytes : Option (List ℕ)) (first : Reading Sourced) → IfSome bytes (λ b. IsSpecRead b first)
    → ((v : Verdict) → IsSpecReading first v → IsRefusal v → P) → OnRefusedSpec bytes P
on_refused P None first h k = tt
on_refused P (Some b) first (u, h, came) k = λ v is refused. k u came (subst IsRefusal (one_verdict b v u is h) refused)

pub refused_map : {P Q : Type 0} (bytes : Option (List ℕ)) → (P → Q) → OnRefusedSpec bytes P → OnRefusedSpec bytes Q
refused_map None f h = tt
refused_map (Some b) f h = λ v is refused. f (h v is refused)

pub refused_map₂ : {P Q R : Type 0} (bytes : Option (List ℕ)) → (P → Q → R) → OnRefusedSpec bytes P → OnRefusedSpec bytes Q → OnRefusedSpec bytes R
refused_map₂ None f h k = tt
refused_map₂ (Some b) f h k = λ v is refused. f (h v is refused) (k v is refused)

pub refused_any : {P : Type 0} (bytes : Option (List ℕ)) → P → OnRefusedSpec bytes P
refused_any None h = tt
refused_any (Some b) h = λ v is refused. h

-- a reader's fault is not want of cells
pub read_fault_refused : (r : Result (Reading Job) RunFault) (e : RunFault) → IsErrAnd r (λ f. f ≡ e) → StopsReading e → EndsRefused r
read_fault_refused (Ok x) e h k = absurd h
read_fault_refused (Err f) e h k = subst HasRoom (sym h) (reading_has_room e k)

-- without given terms nothing is read behind a refused specification
-- what was read of a good specification is one
good_reading : (first : Reading Sourced) (v : Verdict) (y : Spec) → IsSpecReading first v → v ≡ Good y → IsGood first
good_reading (RefusedSpec r) v y is e = cc (is, e)
good_reading (GoodSpec checked) v y is e = tt

-- beside a good specification the text of terms is read
pub terms_out : {X E : Type 0} (P : Type 0) (result : Result X E) (bytes : Option (List ℕ)) (first : Reading Sourced)
    → IfSome bytes (λ b. IsSpecRead b first) → OnOk result (IsGood first → P)
    → OnOk result (OnGoodSpec bytes P)
terms_out P (Err e) bytes first h k = tt
terms_out P (Ok x) None first h k = tt
terms_out P (Ok x) (Some b) first (v, h, came) k = λ y is. k (good_reading first v y came (one_verdict b v (Good y) h is))
