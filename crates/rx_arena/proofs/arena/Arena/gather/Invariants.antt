use Rattle.rx_arena.proofs.DealingLemmas.{Gathering}
use Rattle.rx_arena.proofs.arena.Arena.gather.Given as goal

abbrev pub invariant-loop-from : goal.invariant-loop-from
invariant-loop-from l = Gathering l.fn.self l.from l.self
