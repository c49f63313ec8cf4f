use Rattle.std.proofs.Common.{◌≡◌, ◌++◌, ◌-◌, take, drop}
use Rattle.rec_engine.proofs.heap.work.repeat.Given as goal

abbrev pub invariant-loop-i : goal.invariant-loop-i
invariant-loop-i l = l.work.items ≡ l.fn.work.items ++ take (l.i - l.from) (drop l.from l.fn.work.items)
