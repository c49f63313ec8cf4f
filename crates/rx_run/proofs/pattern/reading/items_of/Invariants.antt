use Rattle.rx_run.proofs.PatternTermLemmas.{IsPartWay, left_at}
use Rattle.rx_run.proofs.pattern.reading.items_of.Given as goal

-- the items before what is left were found
abbrev pub invariant-loop-found : goal.invariant-loop-found
invariant-loop-found g l = IsPartWay (g.B.TermBank.store l.bank) l.fn.list l.found.items l.rest

abbrev pub decreases-loop-found : goal.decreases-loop-found
decreases-loop-found g l = left_at (g.B.TermBank.store l.bank) l.rest
