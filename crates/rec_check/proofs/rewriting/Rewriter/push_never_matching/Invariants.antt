use Rattle.std.proofs.Common.{◌≡◌, ◌++◌, take}
use Rattle.std.specs.Prelude.{flat_map}
use Rattle.rec_syntax.specs.Syntax.{arguments}
use Rattle.rec_check.specs.Findings.{as_diagnostics, never_matching_in}
use Rattle.rec_check.specs.Rewriting.{postorder_all}
use Rattle.rec_check.proofs.rewriting.Rewriter.push_never_matching.Given as goal

-- those of the rules so far
abbrev pub invariant-loop-rule : goal.invariant-loop-rule
invariant-loop-rule l = as_diagnostics l.found.items ≡ as_diagnostics l.initial.found.items
    ++ flat_map (λ r. never_matching_in l.self.checked.now.source l.self.checked.now.spec (postorder_all (arguments r.left)))
    (take l.rule l.self.checked.now.spec.rules)
