use Rattle.std.proofs.Common.{◌-◌, length}
use Rattle.rx_text.proofs.DecidingLemmas.{Reads}
use Rattle.rx_text.proofs.ExpectingLemmas.{Reached}
use Rattle.rx_text.proofs.reader.expected.read_to_fault.Given as goal

abbrev pub invariant-loop-lexeme : goal.invariant-loop-lexeme
invariant-loop-lexeme l = Reads l.bytes (Reached l.bytes) l.from l.due l.reader

abbrev pub decreases-loop-lexeme : goal.decreases-loop-lexeme
decreases-loop-lexeme l = length l.bytes - l.from
