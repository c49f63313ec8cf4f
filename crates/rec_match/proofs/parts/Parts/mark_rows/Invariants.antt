use Rattle.std.proofs.Common.{length}
use Rattle.rec_match.specs.Inner.Marking.{HasMarks}
use Rattle.rec_match.proofs.parts.Parts.mark_rows.Given as goal

abbrev pub invariant-loop-row : goal.invariant-loop-row
invariant-loop-row l = HasMarks l.marks (length l.fn.marks.marked.items)
