-- What a run leaves, by what was written before it ended.
use Rattle.std.proofs.Common.{◌≡◌, ◌∙◌, ℕ, Bool, true, false, List, Option, Result, Ok, Err, IfErr, IfOk, OnOk, ap, inl, inr, refl, sym, subst}
use Rattle.std.specs.Io.KnownBytes.{Appends}
use Rattle.std.specs.Prelude.{◌||◌, IfSome}
use Rattle.rx_text.specs.declared.output.Output.{Output}
use Rattle.rx_run.specs.Due.{Due, done}
use Rattle.rx_run.specs.Refusals.{ending_of, reading_due}
use Rattle.rx_run.specs.Run.{BreaksFor, ConcludesFor, Stops}
use Rattle.rx_run.specs.Streams.{ReportsWrite, is_read, is_write, returns}
use Rattle.rx_run.specs.declared.ending.RunFault.{RunFault}
use Rattle.rx_run.specs.declared.refusal.Reading.{Reading}
use Rattle.rec_run.specs.Depth.{EndsBehind, counts_in, report_with}
use Rattle.rec_run.specs.EvaluatedLines.{ReportsOutput}
use Rattle.rx_run.specs.declared.ending.RunFault.TheVariants.{Write}
use Rattle.rx_run.specs.declared.refusal.Ending.{Ending}
use Rattle.rec_run.specs.declared.spec.counts.Counts.{Counts}
use Rattle.rec_run.specs.declared.spec.due.RunReport.{RunReport}
use Rattle.rx_run.proofs.ReadDueLemmas.{appends_flushed, breaks_read, concludes_by, flush_refused}

module _ (ending : Ending) (mid new : Option (List ℕ)) where
  -- it ended as was said
  pub ends_behind : (written : Result Counts RunFault) (r : Result RunReport RunFault) → EndsBehind written ending mid new r
      → IfOk r (λ report. report.ending ≡ ending)
  ends_behind written (Err f) h = tt
  ends_behind (Ok u) (Ok f) (k, inl e) = let same : f ≡ report_with ending u = cc e in ap (λ (x : RunReport). x.ending) same
  ends_behind (Ok u) (Ok f) (k, inr e) = absurd (cc e)
  ends_behind (Err g) (Ok f) (e, k) = absurd (cc e)

  -- with as many lines as were written
  pub counts_behind : (P : Counts → Type 0) (written : Result Counts RunFault) (r : Result RunReport RunFault) → EndsBehind written ending mid new r
      → IfOk written P → IfOk r (λ report. P (counts_in report))
  counts_behind P written (Err f) h p = tt
  counts_behind P (Ok u) (Ok f) (k, inl e) p =
      let same : f ≡ report_with ending u = cc e in subst P (sym (ap counts_in same)) p
  counts_behind P (Ok u) (Ok f) (k, inr e) p = absurd (cc e)
  counts_behind P (Err g) (Ok f) (e, k) p = absurd (cc e)

  -- all was written and flushed
  pub ok_behind : (text : List ℕ) (old : Option (List ℕ)) (written : Result Counts RunFault) (r : Result RunReport RunFault)
      → EndsBehind written ending mid new r → OnOk written (Appends old mid text) → OnOk r (Appends old new text)
  ok_behind text old written (Err f) h a = tt
  ok_behind text old (Ok u) (Ok f) (k, e) a = appends_flushed text old mid new a k
  ok_behind text old (Err g) (Ok f) (e, k) a = absurd (cc e)

  -- a front was written before a fault
  pub err_behind : (text : List ℕ) (old : Option (List ℕ)) (written : Result Counts RunFault) (r : Result RunReport RunFault)
      → EndsBehind written ending mid new r → OnOk written (Appends old mid text) → IfErr written (λ f. Stops f text old mid)
      → IfErr r (λ f. Stops f text old new)
  err_behind text old written (Ok f) h a s = tt
  err_behind text old (Ok u) (Err f) (k, inl e) a s = absurd (cc e)
  err_behind text old (Ok u) (Err f) (k, inr e) a s = let same : Write ≡ f = cc e in
      subst (λ g. Stops g text old new) same (flush_refused text old mid new a k)
  err_behind text old (Err g) (Err f) (e, k) a s =
      let same : g ≡ f = cc e in
      subst (λ g. Stops g text old new) same (subst (Stops g text old) (sym k) s)

  -- what holds of the fault that stopped it, and of the writer's, holds of its fault
  pub fault_behind : (P : RunFault → Type 0) → P Write → (written : Result Counts RunFault) (r : Result RunReport RunFault)
      → EndsBehind written ending mid new r → IfErr written P → IfErr r P
  fault_behind P write written (Ok f) h p = tt
  fault_behind P write (Ok u) (Err f) (k, inl e) p = absurd (cc e)
  fault_behind P write (Ok u) (Err f) (k, inr e) p = let same : Write ≡ f = cc e in subst P same write
  fault_behind P write (Err g) (Err f) (e, k) p = let same : g ≡ f = cc e in subst P same p

  -- what holds where all was written holds where it ended well
  pub on_behind : (P : Type 0) (written : Result Counts RunFault) (r : Result RunReport RunFault)
      → EndsBehind written ending mid new r → OnOk written P → OnOk r P
  on_behind P written (Err f) h p = tt
  on_behind P (Ok u) (Ok f) (k, e) p = p
  on_behind P (Err g) (Ok f) (e, k) p = absurd (cc e)

-- what it did is what is due
module _ {X T : Type 0} (IsDue : X → Due → Type 0) (lines : T → List ℕ) where
  pub concludes_run : (texts : Option X) (r : Reading T) (result : Result RunReport RunFault) (old new : Option (List ℕ))
      → IfSome texts (λ x. IsDue x (reading_due (λ t. done (lines t)) r)) → IfOk result (λ report. report.ending ≡ ending_of r)
      → OnOk result (Appends old new (reading_due (λ t. done (lines t)) r).text)
      → IfOk result (λ report. ConcludesFor IsDue texts report.ending old new)
  concludes_run texts r (Ok report) old new h e a = concludes_by IsDue lines texts r (Ok report.ending) old new h e a
  concludes_run texts r (Err fault) old new h e a = tt

  pub breaks_run : ((x : X) (d e : Due) → IsDue x d → IsDue x e → d ≡ e) → (texts : Option X) (r : Reading T) (result : Result RunReport RunFault)
      (old new : Option (List ℕ)) → IfSome texts (λ x. IsDue x (reading_due (λ t. done (lines t)) r))
      → IfErr result (λ f. Stops f (reading_due (λ t. done (lines t)) r).text old new) → IfErr result (λ f. BreaksFor IsDue texts f old new)
  breaks_run one texts r (Ok report) old new h s = tt
  breaks_run one texts r (Err fault) old new h s = breaks_read IsDue lines one texts r fault old new h s

-- ---- the output

-- twice is once
or_twice : (a b : Bool) → a || (a || b) ≡ a || b
or_twice true b = refl
or_twice false b = refl

module _ {W : Type 0} (old mid : Output W) where
  -- what was reported of the writer is so from then on
  pub reported : {T : Type 0} (r : Result T RunFault) → ReportsOutput old mid r → ReportsWrite mid mid r
  reported r h = (refl, h.0.1 ∙ sym (ap (λ b. returns is_write r || b) h.0.1 ∙ or_twice (returns is_write r) old.refused))

  -- the same output was written to, and flushed
  pub reports_behind : (new : Output W) (ending : Ending) (before after : Option (List ℕ)) (written : Result Counts RunFault) (r : Result RunReport RunFault)
      → EndsBehind written ending before after r → ReportsOutput old mid written → ReportsWrite mid new r → ReportsOutput old new r
  reports_behind new ending before after (Ok u) r (k, inl e) h w =
      ((w.0 ∙ h.0.0, w.1 ∙ ap (λ b. returns is_write r || b) h.0.1), ap (returns is_read) e)
  reports_behind new ending before after (Ok u) r (k, inr e) h w =
      ((w.0 ∙ h.0.0, w.1 ∙ ap (λ b. returns is_write r || b) h.0.1), ap (returns is_read) e)
  reports_behind new ending before after (Err f) r (e, k) h w = (
    (
      w.0 ∙ h.0.0,
      w.1 ∙ ap (λ b. returns is_write r || b) (h.0.1 ∙ ap (λ b. b || old.refused) (sym (ap (returns is_write) e)))
          ∙ or_twice (returns is_write r) old.refused,
    ),
    ap (returns is_read) e ∙ h.1,
  )
