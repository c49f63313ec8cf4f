-- Results of reading a term from a text, or from the text of a table.
use Rattle.std.specs.Prelude.{ℕ, ◌≡◌, List, Some, Result, IfErr, IfOk}
use Rattle.rx_term.specs.Steps.{Grows}
use Rattle.rx_term.specs.Store.{Store, tree_at}
use Rattle.rx_term.specs.Tree.{Tree}
use Rattle.rx_term.specs.declared.Term.{Term}
use Rattle.rx_text.specs.Verdict.{Verdict, Spelt, IsVerdict}
use Rattle.rx_table.specs.Opened.{broken_by_table, broken_element, tree_of_table}
use Rattle.rx_run.specs.Refusals.{refused_text}
use Rattle.rx_run.specs.Run.{RanOut}
use Rattle.rx_run.specs.TermRuns.{IsReadingOf}
use Rattle.rx_run.specs.declared.ending.RunFault.{RunFault}
use Rattle.rx_run.specs.declared.ending.Source.{Source}
use Rattle.rx_run.specs.declared.refusal.Reading.{Reading}
use Rattle.rx_run.specs.declared.refusal.Reading.TheVariants as reading
use Rattle.rx_run.specs.declared.refusal.Reason.{Reason}
use Rattle.rx_run.specs.declared.refusal.Reason.TheVariants as reason
use Rattle.rx_run.specs.declared.refusal.Refusal.{Refusal}
use Rattle.rx_run.specs.declared.term.reading.InputForm.{InputForm}
use Rattle.rx_run.specs.declared.term.reading.InputForm.TheVariants as form

-- IsTableReason t r: `r` is why the tree is not a table
abbrev pub IsTableReason : Tree → Reason → Type 0
IsTableReason t reason.NotTable = broken_by_table t ≡ Some 1
IsTableReason t (reason.Element n) = (broken_by_table t ≡ Some 2) × (broken_element t ≡ Some n)
IsTableReason t r = ⊥

-- IsRefusedTable text r v: `r` is the error for a verdict on the input `text`, which is that of a
-- table
abbrev pub IsRefusedTable : Source → Refusal → Verdict → Type 0
IsRefusedTable text r (Spelt t) = (r.text ≡ text) × IsTableReason t r.reason
IsRefusedTable text r v = refused_text text v ≡ Some r

-- IsReadingOfTable text w r v: `r` is the result for this verdict on the input `text`, which is that
-- of a table: its error, or a reference to the table's tree in the store
abbrev pub IsReadingOfTable : Source → Store → Reading Term → Verdict → Type 0
IsReadingOfTable text w (reading.Refused r) v = IsRefusedTable text r v
IsReadingOfTable text w (reading.Good t) v = (x : Tree)
    × ((u : Tree) × (v ≡ Spelt x) × (tree_of_table x ≡ Some u) × (tree_at w t ≡ Some u))

-- IsReadingIn text form w r v: `r` is the result for this verdict on the input `text`, which is read
-- in this form
abbrev pub IsReadingIn : Source → InputForm → Store → Reading Term → Verdict → Type 0
IsReadingIn text form.Term = IsReadingOf text
IsReadingIn text form.Table = IsReadingOfTable text

-- Parses text form bytes old new r: the bytes of the input `text` were read in this form into a
-- store: the result for their verdict, or the error `Memory`, or `Room` with a filled store
pub record Parses (text : Source) (form : InputForm) (bytes : List ℕ) (old new : Store)
    (r : Result (Reading Term) RunFault) : Type 0 where
  pub read : IfOk r
      (λ reading. (v : Verdict) × IsReadingIn text form new reading v × IsVerdict bytes v)
  pub grows : Grows old new
  pub fault : IfErr r (RanOut old new)
