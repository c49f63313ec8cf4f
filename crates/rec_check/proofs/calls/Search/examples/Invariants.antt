use Rattle.std.proofs.Common.{take, ◌-◌, length}
use Rattle.rec_check.specs.Findings.{ShowCalls, as_diagnostics}
use Rattle.rec_check.proofs.calls.Search.examples.Given as goal

-- the examples of the operators so far
abbrev pub invariant-loop-operator : goal.invariant-loop-operator
invariant-loop-operator l = ShowCalls l.self.asker.checked.now.spec
    (take (l.operator - length l.self.asker.checked.now.spec.constructors) l.self.asker.checked.now.spec.operators) (as_diagnostics l.examples.items)
