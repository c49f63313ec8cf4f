use Rattle.std.proofs.Common.{subst}
use Rattle.std.specs.Prelude.{IfOk}
use Rattle.rec_syntax.specs.Syntax.{Sourced}
use Rattle.rec_check.specs.Findings.{AreUncovered, as_diagnostics}
use Rattle.rec_check.proofs.calls.find_examples.Goals as goal

pub returns : goal.returns
returns c = subst (λ (x : Sourced). IfOk c.examples.result (λ v. AreUncovered x.spec (as_diagnostics v.items))) c.in_ok-search.ensures.same
    c.examples.ensures
