use Rattle.std.proofs.Common.{◌≡◌, ◌++◌, [], take}
use Rattle.rec_check.specs.Findings.{as_diagnostics, never_tried}
use Rattle.rec_check.proofs.rewriting.Rewriter.push_never_tried.Given as goal

-- those of the rules so far
abbrev pub invariant-loop-i : goal.invariant-loop-i
invariant-loop-i l = as_diagnostics l.found.items ≡ as_diagnostics l.initial.found.items ++ never_tried l.self.checked.now.source l.self.checked.now.spec []
    (take l.i l.self.checked.now.spec.rules)
