-- What a run that lists words leaves.
use Rattle.std.proofs.Common.{Result, Ok, Err, ◌≡◌, ℕ, List, [], Option, Some, None, refl, sym, ap, subst, ◌∙◌, arith, inl, inr}
use Rattle.std.proofs.lemmas.Bool.{cases_lt}
use Rattle.std.proofs.lemmas.List.{append-nil, length-take, take_all}
use Rattle.std.specs.Prelude.{◌<◌, ◌≤◌, ◌⊎◌, flat_map, length, take, IfErr, IfOk, IfSome}
use Rattle.std.specs.Io.KnownBytes.{Appends, Keeps}
use Rattle.rx_text.specs.Written.{AppendsFront}
use Rattle.rx_text.proofs.AppendingLemmas.{appends_both, appends_none}
use Rattle.rx_run.specs.Run.{StopsReading}
use Rattle.rx_run.specs.declared.ending.RunFault.{RunFault}
use Rattle.rx_run.specs.declared.ending.RunFault.TheVariants.{Memory, Room, Deep, Read, Write}
use Rattle.rec_syntax.specs.Grammar.{SpecText}
use Rattle.rec_syntax.specs.Length.{longest}
use Rattle.rec_syntax.specs.Syntax.{Spec}
use Rattle.rec_uses.specs.Lines.{chosen, line_of}
use Rattle.rec_uses.specs.Uses.{Use, uses}
use Rattle.rec_uses.specs.Runs.{Concludes, IsDue, IsRefused, IsText, IsTextRead, Stops}
use Rattle.rec_uses.specs.declared.runs.Outcome.{Outcome}
use Rattle.rec_uses.specs.declared.runs.Outcome.TheVariants.{Listed, Refused}
use Rattle.rec_uses.specs.declared.runs.UsesSettings.{UsesSettings}

pub appends_kept : (old mid new : Option (List ℕ)) (xs : List ℕ) → Appends old mid xs → Keeps mid new → Appends old new xs
appends_kept old mid new xs a k = subst (Appends old new) (append-nil xs) (appends_both old mid new xs [] a (appends_none mid new k))

pub front_all : (old new : Option (List ℕ)) (xs : List ℕ) → Appends old new xs → AppendsFront xs old new
front_all old new xs a = (xs, a, ([], sym (append-nil xs)))

-- the lines of the words that are listed
pub due_lines : (settings : UsesSettings) (source text : List ℕ) (y : Spec) (us kept : List Use) → text ≡ source → us ≡ uses y
    → kept ≡ chosen text settings.at us → length source ≤ longest → SpecText source y
    → IsDue settings source (flat_map (line_of settings.name.now source y) kept)
due_lines settings source text y us kept same all some fits spelled = record {
  spec = y;
  fits = fits;
  spelled = spelled;
  are = ap (flat_map (line_of settings.name.now source y)) (some ∙ ap (λ (t : List ℕ). chosen t settings.at us) same
      ∙ ap (chosen source settings.at) all);
}

-- a text was read, or a byte more of it than a text may have
module _ (settings : UsesSettings) (bytes text : List ℕ) (read : text ≡ take 16777217 bytes) where
  due_all : (lines : List ℕ) → IsDue settings text lines → IsDue settings bytes lines
  due_all lines h = by_length (cases_lt (length bytes) 16777217)
    where
      by_length : (length bytes < 16777217) ⊎ (16777217 ≤ length bytes) → IsDue settings bytes lines
      by_length (inl short) = subst (λ t. IsDue settings t lines) (read ∙ take_all 16777217 bytes (omega (arith, short))) h
      by_length (inr long) =
          let size : length text ≡ 16777217 = ap length read ∙ length-take 16777217 bytes ∙ (omega (arith, long)) in
          absurd (omega (arith, size, h.fits))

  refused_all : IsRefused text → IsRefused bytes
  refused_all h = by_length (cases_lt (length bytes) 16777217)
    where
      by_length : (length bytes < 16777217) ⊎ (16777217 ≤ length bytes) → IsRefused bytes
      by_length (inl short) = subst IsRefused (read ∙ take_all 16777217 bytes (omega (arith, short))) h
      by_length (inr long) = inl (omega (arith, long))

  pub concludes_all : (o : Outcome) (old new : Option (List ℕ)) → Concludes settings text o old new → Concludes settings bytes o old new
  concludes_all Listed old new (lines, due, written) = (lines, due_all lines due, written)
  concludes_all (Refused v) old new (refused, kept) = (refused_all refused, kept)

  pub stops_all : (fault : RunFault) (old new : Option (List ℕ)) → Stops settings text fault old new → Stops settings bytes fault old new
  stops_all (Memory lines) old new h = h
  stops_all (Room lines) old new h = h
  stops_all (Deep lines) old new h = h
  stops_all Read old new h = h
  stops_all Write old new (lines, due, written) = (lines, due_all lines due, written)

-- a text was not read
keeps_same : (old : Option (List ℕ)) → Keeps old old
keeps_same None = tt
keeps_same (Some xs) = refl

stops_unread_of : (settings : UsesSettings) (text : List ℕ) (f : RunFault) (old : Option (List ℕ)) → StopsReading f → Stops settings text f old old
stops_unread_of settings text (Memory lines) old h = (h, keeps_same old)
stops_unread_of settings text (Room lines) old h = absurd h
stops_unread_of settings text (Deep lines) old h = absurd h
stops_unread_of settings text Read old h = keeps_same old
stops_unread_of settings text Write old h = absurd h

pub stops_unread : (settings : UsesSettings) (known : Option (List ℕ)) (f : RunFault) (old : Option (List ℕ)) → StopsReading f
    → IfSome known (λ text. Stops settings text f old old)
stops_unread settings None f old h = tt
stops_unread settings (Some text) f old h = stops_unread_of settings text f old h

module _ (settings : UsesSettings) (text : List ℕ) (old new : Option (List ℕ)) (r : Result Outcome RunFault) where
  pub run_concludes : (known : Option (List ℕ)) → IfSome known (λ bytes. text ≡ take 16777217 bytes)
      → IfOk r (λ o. Concludes settings text o old new) → IfOk r (λ o. IfSome known (λ bytes. Concludes settings bytes o old new))
  run_concludes known h k = elim r as (λ q. IfOk q (λ o. Concludes settings text o old new)
      → IfOk q (λ o. IfSome known (λ bytes. Concludes settings bytes o old new))) [
        | Err f ↦ λ _. tt
        | Ok o ↦ λ p. by_known known h o p
      ] k
    where
      by_known : (known : Option (List ℕ)) → IfSome known (λ bytes. text ≡ take 16777217 bytes) → (o : Outcome) → Concludes settings text o old new
          → IfSome known (λ bytes. Concludes settings bytes o old new)
      by_known None h o p = tt
      by_known (Some bytes) h o p = concludes_all settings bytes text h o old new p

  pub run_stops : (known : Option (List ℕ)) → IfSome known (λ bytes. text ≡ take 16777217 bytes)
      → IfErr r (λ f. Stops settings text f old new) → IfErr r (λ f. IfSome known (λ bytes. Stops settings bytes f old new))
  run_stops known h k = elim r as (λ q. IfErr q (λ f. Stops settings text f old new)
      → IfErr q (λ f. IfSome known (λ bytes. Stops settings bytes f old new))) [
        | Err f ↦ λ p. by_known known h f p
        | Ok o ↦ λ _. tt
      ] k
    where
      by_known : (known : Option (List ℕ)) → IfSome known (λ bytes. text ≡ take 16777217 bytes) → (f : RunFault) → Stops settings text f old new
          → IfSome known (λ bytes. Stops settings bytes f old new)
      by_known None h f p = tt
      by_known (Some bytes) h f p = stops_all settings bytes text h f old new p

  pub run_text : (known : Option (List ℕ)) → IfSome known (λ bytes. text ≡ take 16777217 bytes)
      → IfOk r (IsText text) → IfOk r (λ o. IfSome known (IsTextRead o))
  run_text known h k = elim r as (λ q. IfOk q (IsText text) → IfOk q (λ o. IfSome known (IsTextRead o))) [
    | Err f ↦ λ _. tt
    | Ok o ↦ λ p. by_known known h o p
  ] k
    where
      by_known : (known : Option (List ℕ)) → IfSome known (λ bytes. text ≡ take 16777217 bytes) → (o : Outcome) → IsText text o → IfSome known (IsTextRead o)
      by_known None h o p = tt
      by_known (Some bytes) h o p = subst (λ t. IsText t o) h p
