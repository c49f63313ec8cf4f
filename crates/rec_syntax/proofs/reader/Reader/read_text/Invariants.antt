use Rattle.std.proofs.Common.{◌-◌, length}
use Rattle.rec_syntax.proofs.AnsweringLemmas.{Decides, Reads}
use Rattle.rec_syntax.proofs.reader.Reader.read_text.Given as goal

abbrev pub invariant-loop-due : goal.invariant-loop-due
invariant-loop-due l = Reads l.fn.self.source (Decides l.fn.self.source.items) l.from l.due l.self

abbrev pub decreases-loop-due : goal.decreases-loop-due
decreases-loop-due l = length l.fn.self.source.items - l.from
