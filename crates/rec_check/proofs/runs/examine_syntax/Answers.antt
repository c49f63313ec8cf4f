use Rattle.std.proofs.Common.{sym, subst}
use Rattle.rec_syntax.specs.Grammar.{SpecText}
use Rattle.rec_syntax.specs.Syntax.{Sourced}
use Rattle.rec_sorts.specs.SpecRules.{Fits}
use Rattle.rec_check.proofs.runs.examine_syntax.Goals as goal

pub examine_good-requires-clause-fits : goal.examine_good-requires-clause-fits
examine_good-requires-clause-fits c = subst (λ (s : Sourced). Fits s.source) (sym c.in-Ok.ensures.ok.0) (subst Fits (sym c.requires.same) c.requires.fits)

pub examine_good-requires-clause-spelled : goal.examine_good-requires-clause-spelled
examine_good-requires-clause-spelled c = subst (λ (s : Sourced). SpecText s.source s.spec) (sym c.in-Ok.ensures.ok.0)
    (subst (λ t. SpecText t c.args.syntax.spec) (sym c.requires.same) c.requires.spelled)
