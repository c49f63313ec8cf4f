use Rattle.std.proofs.Common.{subst, sym, List}
use Rattle.rec_check.specs.Findings.{AreUncovered, as_diagnostics}
use Rattle.rec_check.specs.declared.finding.Diagnostic.{Diagnostic}
use Rattle.rec_check.proofs.UncoveredLemmas.{show_none}
use Rattle.rec_check.proofs.calls.uncovered_calls.Goals as goal

pub returns-else-is_small : goal.returns-else-is_small
returns-else-is_small c =
    let y = c.args.checked.now.spec in
    subst (λ (es : List Diagnostic). AreUncovered y (as_diagnostics es)) (sym c.new.ensures.items) (show_none y y.operators)
