use Rattle.std.proofs.Common.{subst}
use Rattle.std.specs.Prelude.{◌≡◌, None}
use Rattle.rec_sorts.specs.SpecRules.{fault}
use Rattle.rec_sorts.proofs.checked.Checked.syntax.Goals as goal

pub returns-clause-kept : goal.returns-clause-kept
returns-clause-kept c = subst (λ v. fault v.spec ≡ None) c.self.view_is c.self.invariant.kept
