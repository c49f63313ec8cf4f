use Rattle.std.proofs.Common.{◌≡◌, ◌++◌, get_or, take}
use Rattle.rec_syntax.specs.Syntax.{Rule, arguments}
use Rattle.rec_check.specs.Findings.{as_diagnostics, never_matching_in}
use Rattle.rec_check.specs.Rewriting.{postorder_all}
use Rattle.rec_check.proofs.rewriting.Rewriter.push_inner_words.Given as goal

-- those of the arguments so far
abbrev pub invariant-loop-i : goal.invariant-loop-i
invariant-loop-i l = (r : Rule) → as_diagnostics l.found.items ≡ as_diagnostics l.initial.found.items
    ++ never_matching_in l.self.checked.now.source l.self.checked.now.spec
    (take l.i (postorder_all (arguments (get_or l.self.checked.now.spec.rules l.rule r).left)))
