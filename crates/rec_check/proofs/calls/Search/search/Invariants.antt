use Rattle.std.specs.Prelude.{IfSome}
use Rattle.rec_check.specs.Inner.Grounds.{IsExampleOf}
use Rattle.rec_check.proofs.calls.Search.search.Given as goal

abbrev pub invariant-loop-next : goal.invariant-loop-next
invariant-loop-next l = IfSome l.found (IsExampleOf l.self.asker.checked.now.spec l.goal.operator)
