use Rattle.std.proofs.Common.{length}
use Rattle.rec_match.specs.Inner.Marking.{HasMarks}
use Rattle.rec_match.proofs.parts.Parts.mark_row.Given as goal

abbrev pub invariant-loop-code : goal.invariant-loop-code
invariant-loop-code l = HasMarks l.marks (length l.fn.marks.marked.items)
