use Rattle.rec_check.specs.Errors.{all_rules}
use Rattle.rec_check.specs.Findings.{as_diagnostics}
use Rattle.rec_check.proofs.RunLemmas.{errors_turn}
use Rattle.rec_check.proofs.errors.all_errors.Goals as goal

pub loop-rule-preserved : goal.loop-rule-preserved
loop-rule-preserved c =
    errors_turn c.args.syntax.now.spec all_rules c.loop-rule.rule-index _ (as_diagnostics c.loop-rule.found.items)
    (as_diagnostics c.push_errors.new.found.items) c.loop-rule-test.true c.loop-rule.invariant c.in_ok-push_errors.ensures
