-- What a run leaves, by what its texts came to.
use Rattle.std.proofs.Common.{◌≡◌, ℕ, Bool, true, List, [], ◌++◌, Option, IfSome, Result, Ok, Err, IfOk, IfErr, OnOk, refl, sym, subst, ◌∙◌, append-nil}
use Rattle.std.specs.Io.KnownBytes.{Appends, Keeps}
use Rattle.rx_run.specs.Due.{Due, done}
use Rattle.rx_run.specs.Refusals.{ending_of, reading_due}
use Rattle.rx_run.specs.Run.{BreaksFor, BreaksForBy, ConcludesFor, IsEnding, Stops, StopsBy}
use Rattle.rx_run.specs.declared.ending.RunFault.{RunFault}
use Rattle.rx_run.specs.declared.ending.RunFault.TheVariants.{Write}
use Rattle.rx_run.specs.declared.refusal.Ending.{Ending}
use Rattle.rx_run.specs.declared.refusal.Reading.{Reading}
use Rattle.rx_run.specs.declared.refusal.Reading.TheVariants.{Refused, Good}
use Rattle.rx_text.proofs.AppendingLemmas.{appends_both, appends_none}
use Rattle.rx_run.proofs.WholeRunLemmas.{breaks_due_by, concludes_due}

-- what was written stays so behind a flush
appends_kept : (old mid new : Option (List ℕ)) (text : List ℕ) → Appends old mid text → Keeps mid new → Appends old new (text ++ [])
appends_kept old mid new text a k = appends_both old mid new text [] a (appends_none mid new k)

-- all was written and flushed
pub appends_flushed : (text : List ℕ) (old mid new : Option (List ℕ)) → Appends old mid text → Keeps mid new → Appends old new text
appends_flushed text old mid new a k = rw append-nil at (appends_kept old mid new text a k)

-- all was written, and the flush was refused
pub flush_refused_by : (counted : Bool) (text : List ℕ) (old mid new : Option (List ℕ)) → Appends old mid text → Keeps mid new
    → StopsBy counted Write text old new
flush_refused_by counted text old mid new a k =
    record { written = text ++ []; appended = appends_kept old mid new text a k; front = ([], sym (append-nil (text ++ []) ∙ append-nil text)); reported = tt }

pub flush_refused : (text : List ℕ) (old mid new : Option (List ℕ)) → Appends old mid text → Keeps mid new → Stops Write text old new
flush_refused text old mid new a k = flush_refused_by true text old mid new a k

-- lines of what a good text came to
module _ {X T : Type 0} (IsDue : X → Due → Type 0) (lines : T → List ℕ) where
  abbrev due : Reading T → Due
  due r = reading_due (λ x. done (lines x)) r

  ending_due : (r : Reading T) → IsEnding (due r) (ending_of r)
  ending_due (Refused r) = refl
  ending_due (Good x) = refl

  -- all was written
  pub concludes_ended : (texts : Option X) (r : Reading T) (ending : Ending) (old new : Option (List ℕ)) → IfSome texts (λ x. IsDue x (due r))
      → ending ≡ ending_of r → Appends old new (due r).text → ConcludesFor IsDue texts ending old new
  concludes_ended texts r ending old new h e a =
      concludes_due IsDue texts (due r) ending old new h (subst (IsEnding (due r)) (sym e) (ending_due r)) a

  -- by how a run ended that wrote all and flushed
  pub concludes_by : (texts : Option X) (r : Reading T) (result : Result Ending RunFault) (old new : Option (List ℕ))
      → IfSome texts (λ x. IsDue x (due r)) → IfOk result (λ e. e ≡ ending_of r) → OnOk result (Appends old new (due r).text)
      → IfOk result (λ e. ConcludesFor IsDue texts e old new)
  concludes_by texts r (Ok ending) old new h e a = concludes_ended texts r ending old new h e a
  concludes_by texts r (Err fault) old new h e a = tt

  -- where one thing is due at most
  module _ (one : (x : X) (d e : Due) → IsDue x d → IsDue x e → d ≡ e) where
    pub breaks_read_by : (counted : Bool) (texts : Option X) (r : Reading T) (fault : RunFault) (old new : Option (List ℕ))
        → IfSome texts (λ x. IsDue x (due r)) → StopsBy counted fault (due r).text old new → BreaksForBy counted IsDue texts fault old new
    breaks_read_by counted texts r fault old new h s = breaks_due_by IsDue counted one texts (due r) fault old new h s

    pub breaks_read : (texts : Option X) (r : Reading T) (fault : RunFault) (old new : Option (List ℕ)) → IfSome texts (λ x. IsDue x (due r))
        → Stops fault (due r).text old new → BreaksFor IsDue texts fault old new
    breaks_read texts r fault old new h s = breaks_read_by true texts r fault old new h s

    pub breaks_result_by : {E : Type 0} (counted : Bool) (texts : Option X) (r : Reading T) (result : Result E RunFault) (old new : Option (List ℕ))
        → IfSome texts (λ x. IsDue x (due r)) → IfErr result (λ f. StopsBy counted f (due r).text old new)
        → IfErr result (λ f. BreaksForBy counted IsDue texts f old new)
    breaks_result_by counted texts r (Ok ending) old new h s = tt
    breaks_result_by counted texts r (Err fault) old new h s = breaks_read_by counted texts r fault old new h s

    pub breaks_by : (texts : Option X) (r : Reading T) (result : Result Ending RunFault) (old new : Option (List ℕ))
        → IfSome texts (λ x. IsDue x (due r)) → IfErr result (λ f. Stops f (due r).text old new) → IfErr result (λ f. BreaksFor IsDue texts f old new)
    breaks_by texts r result old new h s = breaks_result_by true texts r result old new h s
