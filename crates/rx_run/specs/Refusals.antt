-- Rejected inputs: the error line and the location of each error.
use Rattle.std.specs.Prelude.{ℕ, List, ◌++◌, Option, Some, None, codes, decimal}
use Rattle.rx_text.specs.Verdict as term
use Rattle.rx_run.specs.Due.{Due, refused}
use Rattle.rx_run.specs.declared.ending.Finish.{Finish}
use Rattle.rx_run.specs.declared.ending.Finish.TheVariants as finish
use Rattle.rx_run.specs.declared.ending.Named.TheVariants as named
use Rattle.rx_run.specs.declared.ending.Place.{Place}
use Rattle.rx_run.specs.declared.ending.Source.{Source}
use Rattle.rx_run.specs.declared.ending.Source.TheVariants as source
use Rattle.rx_run.specs.declared.refusal.Ending.{Ending}
use Rattle.rx_run.specs.declared.refusal.Ending.TheVariants as ending
use Rattle.rx_run.specs.declared.refusal.Reading.{Reading}
use Rattle.rx_run.specs.declared.refusal.Reading.TheVariants as reading
use Rattle.rx_run.specs.declared.refusal.Reason.{Reason}
use Rattle.rx_run.specs.declared.refusal.Reason.TheVariants as reason
use Rattle.rx_run.specs.declared.refusal.Refusal.{Refusal}

-- word_of text: the start of the error line for an input, such as `!spec `
abbrev pub word_of : Source → List ℕ
word_of source.Spec = codes "!spec "
word_of source.Terms = codes "!terms "
word_of source.Term = codes "!term "
word_of source.Pattern = codes "!pattern "
word_of source.Args = codes "!args "

-- name_of r: the error code, such as `S5`
abbrev pub name_of : Reason → List ℕ
name_of reason.Long = codes "L1"
name_of (reason.Grammar at) = codes "G"
name_of (reason.Rule number at) = codes "S" ++ decimal number
name_of (reason.Outside at) = codes "A"
name_of (reason.TermsRule number) = codes "T" ++ decimal number
name_of reason.Unknown = codes "P1"
name_of reason.Annotated = codes "P2"
name_of reason.Unlisted = codes "T1"
name_of reason.Count = codes "M1"
name_of reason.Kind = codes "M2"
name_of reason.NotTable = codes "R1"
name_of (reason.Element number) = codes "R2"

-- place_by text r: the location of the error; only `G`, `S1` to `S11` and `A` have one
abbrev pub place_by : Source → Reason → Option Place
place_by text (reason.Grammar at) = Some (record { text = text; rule = named.G; at = at })
place_by text (reason.Rule number at) =
    Some (record { text = text; rule = named.S number; at = at })
place_by text (reason.Outside at) = Some (record { text = text; rule = named.A; at = at })
place_by text _ = None

-- refusal_due r: the specified result for a rejected input: its error line and location
abbrev pub refusal_due : Refusal → Due
refusal_due r = refused (word_of r.text) (name_of r.reason) (place_by r.text r.reason)

-- reading_due next r: the error line if the input was rejected, otherwise `next` of its value
abbrev pub reading_due : {T : Type 0} → (T → Due) → Reading T → Due
reading_due next (reading.Refused r) = refusal_due r
reading_due next (reading.Good x) = next x

-- ending_of r: the end of a run: rejected with this error, or done
abbrev pub ending_of : {T : Type 0} → Reading T → Ending
ending_of (reading.Refused r) = ending.Refused r
ending_of (reading.Good x) = ending.Done

-- finish_of e: the end of a run without the error
abbrev pub finish_of : Ending → Finish
finish_of ending.Done = finish.Done
finish_of (ending.Refused r) = finish.Refused

-- place_of e: the location of the error, if an input was rejected and the error has a location
abbrev pub place_of : Ending → Option Place
place_of ending.Done = None
place_of (ending.Refused r) = place_by r.text r.reason

-- refused_text text v: the error for a verdict on the text of a term; `None` if the text spells a
-- tree
abbrev pub refused_text : Source → term.Verdict → Option Refusal
refused_text text term.TooLong = Some (record { text = text; reason = reason.Long })
refused_text text (term.Outside at) = Some (record { text = text; reason = reason.Outside at })
refused_text text (term.Spelt t) = None
