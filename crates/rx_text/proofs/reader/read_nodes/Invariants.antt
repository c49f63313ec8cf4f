use Rattle.std.proofs.Common.{◌-◌, length}
use Rattle.rx_text.proofs.DecidingLemmas.{Decides, Reads}
use Rattle.rx_text.proofs.reader.read_nodes.Given as goal

abbrev pub invariant-loop-due : goal.invariant-loop-due
invariant-loop-due l = Reads l.bytes (Decides l.bytes) l.from l.due l.reader

abbrev pub decreases-loop-due : goal.decreases-loop-due
decreases-loop-due l = length l.bytes - l.from
