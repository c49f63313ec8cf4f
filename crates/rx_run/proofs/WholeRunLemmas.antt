-- What a run leaves, by what is due.
use Rattle.std.proofs.Common.{◌≡◌, ℕ, Bool, true, ◌+◌, ◌≤◌, List, [], Option, Some, None, IfSome, length, take, take_all, refl, ap, subst, arith}
use Rattle.std.proofs.lemmas.List.{length-take}
use Rattle.std.specs.Io.KnownBytes.{Appends}
use Rattle.rx_run.specs.Due.{Due}
use Rattle.rx_run.specs.Refusals.{finish_of, place_of}
use Rattle.rx_run.specs.Run.{BreaksFor, BreaksForBy, Concludes, ConcludesFor, Ends, EndsFor, IsEnding, IsPlaced, IsPlacedFor}
use Rattle.rx_run.specs.Run.{Reports, ReportsBy, Stops, StopsBy}
use Rattle.rx_run.specs.declared.ending.RunFault.{RunFault}
use Rattle.rx_run.specs.declared.refusal.Ending.{Ending}
use Rattle.rx_run.specs.declared.refusal.Ending.TheVariants.{Done, Refused}
use Rattle.rx_run.specs.declared.refusal.Refusal.{Refusal}
use Rattle.rx_run.specs.declared.streams.TheConstants.{LIMIT}
use Rattle.rx_text.proofs.AppendingLemmas.{appends_same}

-- how a run ended that is due to end so, and the place of its refusal
ending_finish : (d : Due) (ending : Ending) → IsEnding d ending → d.finish ≡ finish_of ending
ending_finish d Done e = ap (λ (x : Due). x.finish) e
ending_finish d (Refused r) e = ap (λ (x : Due). x.finish) e

ending_place : (d : Due) (ending : Ending) → IsEnding d ending → d.place ≡ place_of ending
ending_place d Done e = ap (λ (x : Due). x.place) e
ending_place d (Refused r) e = ap (λ (x : Due). x.place) e

pub ends_with : (IsDue : Due → Type 0) (ending : Ending) (old new : Option (List ℕ)) → Concludes IsDue ending old new
    → Ends IsDue (finish_of ending) old new
ends_with IsDue ending old new h =
    record { due = h.due; is_due = h.is_due; ends = ending_finish h.due ending h.ends; written = h.written }

pub placed_with : (IsDue : Due → Type 0) (ending : Ending) (old new : Option (List ℕ)) → Concludes IsDue ending old new
    → IsPlaced IsDue (place_of ending)
placed_with IsDue ending old new h =
    record { due = h.due; is_due = h.is_due; placed = ending_place h.due ending h.ends }

module _ {T : Type 0} (IsDue : T → Due → Type 0) where
  pub concludes_due : (texts : Option T) (d : Due) (ending : Ending) (old new : Option (List ℕ))
      → IfSome texts (λ x. IsDue x d) → IsEnding d ending → Appends old new d.text
      → ConcludesFor IsDue texts ending old new
  concludes_due None d ending old new h e w = tt
  concludes_due (Some x) d ending old new h e w = record { due = d; is_due = h; ends = e; written = w }

  -- the same without the refusal
  pub ends_so : (texts : Option T) (ending : Ending) (old new : Option (List ℕ)) → ConcludesFor IsDue texts ending old new
      → EndsFor IsDue texts (finish_of ending) old new
  ends_so None ending old new h = tt
  ends_so (Some x) ending old new h = ends_with (IsDue x) ending old new h

  -- and its place
  pub placed_so : (texts : Option T) (ending : Ending) (old new : Option (List ℕ)) → ConcludesFor IsDue texts ending old new
      → IsPlacedFor IsDue texts (place_of ending)
  placed_so None ending old new h = tt
  placed_so (Some x) ending old new h = placed_with (IsDue x) ending old new h

  -- where one thing is due at most
  pub breaks_due_by : (counted : Bool) → ((x : T) (d e : Due) → IsDue x d → IsDue x e → d ≡ e) → (texts : Option T) (d : Due) (fault : RunFault)
      (old new : Option (List ℕ)) → IfSome texts (λ x. IsDue x d) → StopsBy counted fault d.text old new → BreaksForBy counted IsDue texts fault old new
  breaks_due_by counted one None d fault old new h s = tt
  breaks_due_by counted one (Some x) d fault old new h s = λ e is. subst (λ (z : Due). StopsBy counted fault z.text old new) (one x d e h is) s

  pub breaks_due : ((x : T) (d e : Due) → IsDue x d → IsDue x e → d ≡ e) → (texts : Option T) (d : Due) (fault : RunFault) (old new : Option (List ℕ))
      → IfSome texts (λ x. IsDue x d) → Stops fault d.text old new → BreaksFor IsDue texts fault old new
  breaks_due one texts d fault old new h s = breaks_due_by true one texts d fault old new h s

  -- nothing was written
  pub breaks_unwritten_by : (counted : Bool) (texts : Option T) (fault : RunFault) (old : Option (List ℕ)) → ReportsBy counted fault []
      → BreaksForBy counted IsDue texts fault old old
  breaks_unwritten_by counted None fault old r = tt
  breaks_unwritten_by counted (Some x) fault old r = λ d is. record { written = []; appended = appends_same old; front = (d.text, refl); reported = r }

  pub breaks_unwritten : (texts : Option T) (fault : RunFault) (old : Option (List ℕ)) → Reports fault [] → BreaksFor IsDue texts fault old old
  breaks_unwritten texts fault old r = breaks_unwritten_by true texts fault old r

-- a front within the limit is the whole text
pub short_front : (bytes : List ℕ) → length (take (LIMIT + 1) bytes) ≤ LIMIT → take (LIMIT + 1) bytes ≡ bytes
short_front bytes h = take_all (LIMIT + 1) bytes (let e = length-take (LIMIT + 1) bytes in omega (arith, e, h))

-- two refusals that are one
pub same_refusal : {a b : Refusal} → Some a ≡ Some b → b ≡ a
same_refusal e = cc e
