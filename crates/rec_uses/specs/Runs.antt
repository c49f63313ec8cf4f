-- The outcome of a run that lists the words of a specification.
use Rattle.std.specs.Prelude.{ℕ, ◌≡◌, ◌<◌, ◌≤◌, ◌⊎◌, List, Option, length, take}
use Rattle.std.specs.Io.KnownBytes.{Appends, Keeps}
use Rattle.rx_text.specs.Written.{AppendsFront}
use Rattle.rec_syntax.specs.Grammar.{SpecText}
use Rattle.rec_syntax.specs.Length.{longest}
use Rattle.rec_syntax.specs.Place.{IsFaultPlace}
use Rattle.rec_syntax.specs.Syntax.{Spec}
use Rattle.rx_run.specs.declared.ending.RunFault.{RunFault}
use Rattle.rx_run.specs.declared.ending.RunFault.TheVariants.{Memory, Room, Deep, Read, Write}
use Rattle.rec_uses.specs.Lines.{uses_lines}
use Rattle.rec_uses.specs.declared.runs.Outcome.{Outcome}
use Rattle.rec_uses.specs.declared.runs.Outcome.TheVariants.{Listed, Refused}
use Rattle.rec_uses.specs.declared.runs.UsesSettings.{UsesSettings}

-- IsDue settings text lines: the lines of the specification that the text spells
pub record IsDue (settings : UsesSettings) (text lines : List ℕ) : Type 0 where
  pub spec : Spec
  pub fits : length text ≤ longest
  pub spelled : SpecText text spec
  pub are : lines ≡ uses_lines settings.name.now text settings.at spec

-- IsRefused text: the text is too long or outside the grammar
abbrev pub IsRefused : List ℕ → Type 0
IsRefused text = (longest < length text) ⊎ ((at : ℕ) × IsFaultPlace text at)

-- Concludes settings text outcome old new: the lines were written, or the text was refused and
-- nothing was written
abbrev pub Concludes : UsesSettings → List ℕ → Outcome → Option (List ℕ) → Option (List ℕ)
    → Type 0
Concludes settings text Listed old new =
    (lines : List ℕ) × IsDue settings text lines × Appends old new lines
Concludes settings text (Refused read) old new = IsRefused text × Keeps old new

-- IsText text outcome, IsTextRead outcome bytes: the text in the outcome is the one that was
-- read: at most the first 16,777,217 bytes of the input
abbrev pub IsText : List ℕ → Outcome → Type 0
IsText text Listed = Unit {0}
IsText text (Refused read) = read.items ≡ text

abbrev pub IsTextRead : Outcome → List ℕ → Type 0
IsTextRead outcome bytes = IsText (take 16777217 bytes) outcome

-- Stops settings text fault old new: the run ended with an error; only if the writer failed, a
-- prefix of the lines may have been written
abbrev pub Stops : UsesSettings → List ℕ → RunFault → Option (List ℕ) → Option (List ℕ) → Type 0
Stops settings text (Memory lines) old new = (lines ≡ 0) × Keeps old new
Stops settings text (Room lines) old new = ⊥
Stops settings text (Deep lines) old new = ⊥
Stops settings text Read old new = Keeps old new
Stops settings text Write old new =
    (lines : List ℕ) × IsDue settings text lines × AppendsFront lines old new
