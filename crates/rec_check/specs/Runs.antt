-- The outcome of a check.
--     AreFound text v fs              the findings for a text with this verdict
--     Tells name text end old new     it is done, and wrote the lines of all findings
--     Stops name text fault old new   it ended with an error
use Rattle.std.specs.Prelude.{ℕ, ◌≡◌, List, ◌++◌, Option, Some}
use Rattle.std.specs.Io.KnownBytes.{Appends, Keeps}
use Rattle.rx_text.specs.Written.{AppendsFront}
use Rattle.rec_syntax.specs.Syntax.{Spec}
use Rattle.rec_syntax.specs.Grammar.{SpecText}
use Rattle.rec_sorts.specs.SpecRules.{Verdict, Long, Grammar, Breaks, Good, SpecVerdict, fault}
use Rattle.rx_run.specs.declared.ending.RunFault.{RunFault}
use Rattle.rx_run.specs.declared.ending.RunFault.TheVariants.{Memory, Room, Deep, Read, Write}
use Rattle.rec_check.specs.Errors.{AreErrors}
use Rattle.rec_check.specs.Findings.{Found, AreInOrder, AreUncovered, found_alone, judgement_of}
use Rattle.rec_check.specs.Findings.{warnings}
use Rattle.rec_check.specs.Lines.{lines_of}
use Rattle.rec_check.specs.Silenced.{unsilenced}
use Rattle.rec_check.specs.declared.finding.Kind.TheVariants.{TooLong, Outside}
use Rattle.rec_check.specs.declared.runs.Judgement.{Judgement}

-- AreFound text v fs: the findings for the verdict: all errors, or the warnings with some missing
-- cases, but not those that comments silence
abbrev pub AreFound : List ℕ → Verdict → List Found → Type 0
AreFound text Long fs = fs ≡ found_alone TooLong 0
AreFound text (Grammar at) fs = fs ≡ found_alone Outside at
AreFound text (Breaks f) fs =
    (y : Spec) × SpecText text y × (fault y ≡ Some f) × AreErrors y f fs
AreFound text (Good y) fs = (us : List Found) × AreUncovered y us
    × AreInOrder (unsilenced text (warnings text y ++ us)) fs

-- Examined text found end: the findings in a text, by its verdict
pub record Examined (text : List ℕ) (found : List Found) (end : Judgement) : Type 0 where
  pub verdict : Verdict
  pub is : SpecVerdict text verdict
  pub are : AreFound text verdict found
  pub ends : end ≡ judgement_of verdict found

-- Tells name text end old new: the lines of all findings were written
pub record Tells (name text : List ℕ) (end : Judgement) (old new : Option (List ℕ)) : Type 0 where
  pub found : List Found
  pub examined : Examined text found end
  pub written : Appends old new (lines_of name text found)

-- TellsFront name text old new: a prefix of the lines of all findings was written
pub record TellsFront (name text : List ℕ) (old new : Option (List ℕ)) : Type 0 where
  pub found : List Found
  pub end : Judgement
  pub examined : Examined text found end
  pub written : AppendsFront (lines_of name text found) old new

-- Stops name text fault old new: the run ended with an error; only if the writer failed, something
-- may have been written
abbrev pub Stops : List ℕ → List ℕ → RunFault → Option (List ℕ) → Option (List ℕ) → Type 0
Stops name text (Memory lines) old new = (lines ≡ 0) × Keeps old new
Stops name text (Room lines) old new = ⊥
Stops name text (Deep lines) old new = ⊥
Stops name text Read old new = Keeps old new
Stops name text Write old new = TellsFront name text old new
