use Rattle.std.proofs.Common.{ℕ, List, length}
use Rattle.rx_text.proofs.QuotingLemmas.{IsReading}
use Rattle.rx_text.proofs.quoted_name.quoted_length.Given as goal

-- the bytes so far stand for some name
abbrev pub invariant-loop-first : goal.invariant-loop-first
invariant-loop-first l = (name : List ℕ) × IsReading l.bytes l.rest name

abbrev pub decreases-loop-first : goal.decreases-loop-first
decreases-loop-first l = length l.rest
