use Rattle.std.proofs.Common.{◌-◌, length}
use Rattle.rec_syntax.proofs.AnsweringLemmas.{Reads}
use Rattle.rec_syntax.proofs.ExpectingLemmas.{Reached}
use Rattle.rec_syntax.proofs.reader.Reader.read_to_fault.Given as goal

abbrev pub invariant-loop-lexeme : goal.invariant-loop-lexeme
invariant-loop-lexeme l = Reads l.fn.self.source (Reached l.fn.self.source.items) l.from l.due l.self

abbrev pub decreases-loop-lexeme : goal.decreases-loop-lexeme
decreases-loop-lexeme l = length l.fn.self.source.items - l.from
