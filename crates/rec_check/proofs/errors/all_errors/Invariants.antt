use Rattle.std.proofs.Common.{take}
use Rattle.std.specs.Prelude.{flat_map}
use Rattle.rec_check.specs.Errors.{all_rules, errors_of}
use Rattle.rec_check.specs.Findings.{HasSame, as_diagnostics}
use Rattle.rec_check.proofs.errors.all_errors.Given as goal

abbrev pub invariant-loop-rule : goal.invariant-loop-rule
invariant-loop-rule l = HasSame (flat_map (errors_of l.syntax.spec) (take l.rule-index all_rules)) (as_diagnostics l.found.items)
