-- The specified output of runs that print the text of one term for readers.
use Rattle.std.specs.Prelude.{ℕ, Bool, true, false, List, ◌++◌, codes}
use Rattle.rx_term.specs.Tree.{Tree}
use Rattle.rx_run.specs.Due.{Due}
use Rattle.rx_run.specs.TermRuns.{IsDueIn, IsDueOf}
use Rattle.rx_run.specs.declared.term.reading.InputForm.{InputForm}
use Rattle.rx_render.specs.Graph.{graph_text}
use Rattle.rx_render.specs.Laid.{laid}
use Rattle.rx_render.specs.declared.layout.Indentation.{Indentation}
use Rattle.rx_render.specs.declared.runs.Look.{Look}
use Rattle.rx_render.specs.declared.runs.Look.TheVariants.{Indented, Graph}

-- indented_lines l t: the text over several lines, and a line end
abbrev pub indented_lines : Indentation → Tree → List ℕ
indented_lines l t = laid l t ++ codes "\n"

-- IsIndentedDue l bytes d: the specified result if the text over several lines is written
abbrev pub IsIndentedDue : Indentation → List ℕ → Due → Type 0
IsIndentedDue l bytes d = IsDueOf (indented_lines l) bytes d

-- IsDotDue n bytes d: the specified result if the shared graph with at most `n` nodes is written
abbrev pub IsDotDue : ℕ → List ℕ → Due → Type 0
IsDotDue n bytes d = IsDueOf (graph_text n) bytes d

-- IsDotDueIn form n bytes d: the specified result if the shared graph of the term of a text in this
-- form is written
abbrev pub IsDotDueIn : InputForm → ℕ → List ℕ → Due → Type 0
IsDotDueIn form n bytes d = IsDueIn form (graph_text n) bytes d

-- lines_for it: the lines of a tree in this form
abbrev pub lines_for : Look → Tree → List ℕ
lines_for (Indented l) = indented_lines l
lines_for (Graph n) = graph_text n

-- reclaims_others it: whether garbage collection frees everything except the term
abbrev pub reclaims_others : Look → Bool
reclaims_others (Indented l) = false
reclaims_others (Graph n) = true
