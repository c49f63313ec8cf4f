-- The specified output of runs on the text of one term.
use Rattle.std.specs.Prelude.{ℕ, ◌≡◌, List, [], ◌++◌, Option, Some, None, codes, decimal, IfSome}
use Rattle.std.specs.Prelude.{Bool, true, false, IsSome, Result, IfErr, IfOk, OnOk, length, nat_le}
use Rattle.std.specs.Prelude.{if◌then◌else◌}
use Rattle.std.specs.Option.{option_map_or}
use Rattle.rx_term.specs.Tree.{Tree}
use Rattle.rx_term.specs.Parts.{part_count}
use Rattle.rx_term.specs.Store.{Store, tree_at}
use Rattle.rx_term.specs.declared.Term.{Term}
use Rattle.rx_text.specs.Canon.{canon}
use Rattle.rx_text.specs.Input.{remaining_in}
use Rattle.rx_text.specs.Output.{contents_of}
use Rattle.rx_text.specs.Verdict.{Verdict, TooLong, Outside, Spelt, IsVerdict}
use Rattle.rx_text.specs.declared.input.Input.{Input}
use Rattle.rx_text.specs.declared.output.Output.{Output}
use Rattle.rx_table.specs.Opened.{broken_by_table, broken_element, tree_of_table}
use Rattle.rx_table.specs.Table.{table}
use Rattle.rx_run.specs.Due.{Due, done, refused}
use Rattle.rx_run.specs.Refusals.{reading_due, refused_text}
use Rattle.rx_run.specs.Run.{BreaksForBy, ConcludesFor, IsNotDeep, IsReadOut}
use Rattle.rx_run.specs.Streams.{ReportsBoth}
use Rattle.rx_run.specs.declared.ending.RunFault.{RunFault}
use Rattle.rx_run.specs.declared.ending.Source.{Source}
use Rattle.rx_run.specs.declared.ending.Source.TheVariants as source
use Rattle.rx_run.specs.declared.ending.Named.TheVariants as named
use Rattle.rx_run.specs.declared.refusal.Ending.{Ending}
use Rattle.rx_run.specs.declared.refusal.Ending.TheVariants as ending
use Rattle.rx_run.specs.declared.refusal.Reading.{Reading}
use Rattle.rx_run.specs.declared.refusal.Reading.TheVariants as reading
use Rattle.rx_run.specs.declared.refusal.Reason.{Reason}
use Rattle.rx_run.specs.declared.refusal.Reason.TheVariants as reason
use Rattle.rx_run.specs.declared.term.output.TermLines.{TermLines}
use Rattle.rx_run.specs.declared.term.output.TermLines.TheVariants.{Text, TextAndCells, Within}
use Rattle.rx_run.specs.declared.term.output.TermLines.TheVariants.{Table, TableAndCells}
use Rattle.rx_run.specs.declared.term.reading.InputForm.{InputForm}
use Rattle.rx_run.specs.declared.term.reading.InputForm.TheVariants as form

-- term_line t: the printed form of a tree and a line end
abbrev pub term_line : Tree → List ℕ
term_line t = canon t ++ codes "\n"

-- cells_line n: the line `cells n`
abbrev pub cells_line : ℕ → List ℕ
cells_line n = codes "cells " ++ decimal n ++ codes "\n"

-- share_lines t: the line of a tree, and a line with the number of its different parts
abbrev pub share_lines : Tree → List ℕ
share_lines t = term_line t ++ cells_line (part_count t)

-- within_line n t: the printed form of a tree, or `!bytes` and the number `n` if it has more bytes;
-- and a line end
abbrev pub within_line : ℕ → Tree → List ℕ
within_line n t =
    (if nat_le (length (canon t)) n then canon t else codes "!bytes " ++ decimal n) ++ codes "\n"

-- table_line t: the printed form of the table of a tree and a line end
abbrev pub table_line : Tree → List ℕ
table_line t = canon (table t) ++ codes "\n"

-- table_share_lines t: the line of the table of a tree, and a line with the number of the tree's
-- different parts
abbrev pub table_share_lines : Tree → List ℕ
table_share_lines t = table_line t ++ cells_line (part_count t)

-- due_of lines v: the error line if the text is too long or malformed, otherwise `lines` of its
-- tree
abbrev pub due_of : (Tree → List ℕ) → Verdict → Due
due_of lines TooLong = refused (codes "!term ") (codes "L1") None
due_of lines (Outside at) = refused (codes "!term ") (codes "A")
    (Some (record { text = source.Term; rule = named.A; at = at }))
due_of lines (Spelt t) = done (lines t)

-- table_due lines t: the error line if the tree of the text is not a table, otherwise `lines` of the
-- table's tree
abbrev pub table_due : (Tree → List ℕ) → Tree → Due
table_due lines t =
    option_map_or (λ rule. refused (codes "!term ") (codes "R" ++ decimal rule) None)
    (broken_by_table t) (done (option_map_or lines (tree_of_table t) []))

-- due_of_table lines v: the error line if the text is too long, malformed or not a table, otherwise
-- `lines` of the table's tree
abbrev pub due_of_table : (Tree → List ℕ) → Verdict → Due
due_of_table lines TooLong = due_of lines TooLong
due_of_table lines (Outside at) = due_of lines (Outside at)
due_of_table lines (Spelt t) = table_due lines t

-- due_in form lines v: the specified result for the verdict on a text that is read in this form
abbrev pub due_in : InputForm → (Tree → List ℕ) → Verdict → Due
due_in form.Term = due_of
due_in form.Table = due_of_table

-- lines_for it: the lines of a tree that this form of output selects
abbrev pub lines_for : TermLines → Tree → List ℕ
lines_for Text = term_line
lines_for (Within n) = within_line n
lines_for Table = table_line
lines_for TextAndCells = share_lines
lines_for TableAndCells = table_share_lines

-- IsDueIn form lines bytes d: `d` is the specified result for a text that is read in this form, if
-- `lines` are written for its tree
abbrev pub IsDueIn : InputForm → (Tree → List ℕ) → List ℕ → Due → Type 0
IsDueIn form lines bytes d = (v : Verdict) × IsVerdict bytes v × (d ≡ due_in form lines v)

-- IsDueOf lines bytes d: `d` is the specified result for a text, if `lines` are written for its
-- tree
abbrev pub IsDueOf : (Tree → List ℕ) → List ℕ → Due → Type 0
IsDueOf lines bytes d = (v : Verdict) × IsVerdict bytes v × (d ≡ due_of lines v)

-- IsTermDue bytes d: the specified result if the term is printed
abbrev pub IsTermDue : List ℕ → Due → Type 0
IsTermDue bytes d = IsDueOf term_line bytes d

-- IsShareDue bytes d: the specified result if the term is printed and its cells are counted
abbrev pub IsShareDue : List ℕ → Due → Type 0
IsShareDue bytes d = IsDueOf share_lines bytes d

-- reclaims_others it: whether garbage collection frees everything except the term
abbrev pub reclaims_others : TermLines → Bool
reclaims_others Text = false
reclaims_others (Within n) = false
reclaims_others Table = false
reclaims_others TextAndCells = true
reclaims_others TableAndCells = true

-- IsUnrooted collects w: if everything except the term is freed, no term of the store is protected
abbrev pub IsUnrooted : Bool → Store → Type 0
IsUnrooted false w = Unit {0}
IsUnrooted true w = (t : ℕ) → w.roots t ≡ 0

-- lines_at lines w t: `lines` of the tree of a term; nothing if the store does not have the term
abbrev pub lines_at : (Tree → List ℕ) → Store → Term → List ℕ
lines_at lines w t = option_map_or lines (tree_at w t) []

-- line_at w t: the printed form of a term and a line end
abbrev pub line_at : Store → Term → List ℕ
line_at w t = lines_at term_line w t

-- due_at lines w r: the specified result after reading: the error line, or `lines` of the term
abbrev pub due_at : (Tree → List ℕ) → Store → Reading Term → Due
due_at lines w r = reading_due (λ t. done (lines_at lines w t)) r

-- IsReadingOf text w r v: `r` is the result for this verdict: the same error, or a reference to its
-- tree in the store
abbrev pub IsReadingOf : Source → Store → Reading Term → Verdict → Type 0
IsReadingOf text w (reading.Refused r) v = refused_text text v ≡ Some r
IsReadingOf text w (reading.Good t) v = (u : Tree) × (tree_at w t ≡ Some u) × (v ≡ Spelt u)

-- IsElementOf r bytes: if the error is `R2`, its number is that of the first element of the text's
-- list that does not open
abbrev pub IsElementOf : Reason → List ℕ → Type 0
IsElementOf (reason.Element n) bytes =
    (t : Tree) × IsVerdict bytes (Spelt t) × (broken_element t ≡ Some n)
IsElementOf r bytes = Unit {0}

-- NamesElement ending bytes: if the input is rejected with `R2`, the number of the element is right
abbrev pub NamesElement : Ending → List ℕ → Type 0
NamesElement ending.Done bytes = Unit {0}
NamesElement (ending.Refused r) bytes = IsElementOf r.reason bytes

-- IsTermHeld w r: the store has the term, if the text was not rejected
abbrev pub IsTermHeld : Store → Reading Term → Type 0
IsTermHeld w (reading.Refused r) = Unit {0}
IsTermHeld w (reading.Good t) = IsSome (tree_at w t)

-- RunsOnTerm form lines counted remaining contents: what a run on the text of a term leaves: `lines`
-- of the term of an input that is read in this form, or its error line, or a prefix of these; if
-- `counted` is true, an error counts the complete lines
pub record RunsOnTerm {R W : Type 0} (form : InputForm) (lines : Tree → List ℕ) (counted : Bool)
    (remaining : R → Option (List ℕ)) (contents : W → Option (List ℕ)) (input input' : Input R)
    (out out' : Output W) (r : Result Ending RunFault) : Type 0 where
  pub ends : IfOk r (λ ending. ConcludesFor (IsDueIn form lines) (remaining_in remaining input)
      ending (contents_of contents out) (contents_of contents out'))
  pub element : IfOk r (λ ending. IfSome (remaining_in remaining input) (NamesElement ending))
  pub fault : IfErr r (λ fault. BreaksForBy counted (IsDueIn form lines)
      (remaining_in remaining input) fault (contents_of contents out) (contents_of contents out'))
  pub no_depth : IfErr r IsNotDeep
  pub input_read : OnOk r
      (IsReadOut (remaining_in remaining input) (remaining_in remaining input'))
  pub reports : ReportsBoth input input' out out' r
