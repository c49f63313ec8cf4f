-- Results of reading the text of one term from an input, and its lines.
use Rattle.std.specs.Prelude.{ℕ, ◌++◌, List, Option, IfSome, Result, IfErr, OnOk}
use Rattle.rx_term.specs.Parts.{part_count}
use Rattle.rx_term.specs.Store.{Store}
use Rattle.rx_term.specs.Tree.{Tree}
use Rattle.rx_term.specs.declared.Term.{Term}
use Rattle.rx_text.specs.Output.{Writes, contents_of}
use Rattle.rx_text.specs.Verdict.{Verdict, IsVerdict}
use Rattle.rx_text.specs.declared.output.Output.{Output}
use Rattle.rx_run.specs.Run.{Stops, StopsWriting}
use Rattle.rx_run.specs.Streams.{ReportsWrite}
use Rattle.rx_run.specs.Readings.{IsReadingIn}
use Rattle.rx_run.specs.TermRuns.{cells_line, table_line, term_line}
use Rattle.rx_run.specs.declared.ending.RunFault.{RunFault}
use Rattle.rx_run.specs.declared.ending.Source.TheVariants as source
use Rattle.rx_run.specs.declared.refusal.Reading.{Reading}
use Rattle.rx_run.specs.declared.term.output.Line.{Line}
use Rattle.rx_run.specs.declared.term.output.Line.TheVariants as line
use Rattle.rx_run.specs.declared.term.reading.InputForm.{InputForm}

-- IsGivenIn form known w r: `r` is the result for some verdict, which is the verdict on the text if
-- the text is known
abbrev pub IsGivenIn : InputForm → Option (List ℕ) → Store → Reading Term → Type 0
IsGivenIn form known w r = (v : Verdict) × IsReadingIn source.Term form w r v
    × IfSome known (λ bytes. IsVerdict bytes v)

-- line_of it: this line of a tree
abbrev pub line_of : Line → Tree → List ℕ
line_of line.Text = term_line
line_of line.Table = table_line

-- counted_lines line t: a line of a tree, and a line with the number of its different parts
abbrev pub counted_lines : (Tree → List ℕ) → Tree → List ℕ
counted_lines line t = line t ++ cells_line (part_count t)

-- WritesLines contents text old new r: the text was written, or a prefix of it, and an error counts
-- its complete lines
pub record WritesLines {W : Type 0} (contents : W → Option (List ℕ)) (text : List ℕ)
    (old new : Output W) (r : Result (Unit {0}) RunFault) : Type 0 where
  pub ok : OnOk r (Writes contents old new text)
  pub err : IfErr r (λ fault. Stops fault text (contents_of contents old) (contents_of contents new))
  pub writing : IfErr r StopsWriting
  pub reports : ReportsWrite old new r
