use Rattle.std.proofs.Common.{sym, ap, subst, ◌∙◌}
use Rattle.rec_syntax.specs.Syntax.{Sourced}
use Rattle.rec_sorts.specs.SpecRules.{Good}
use Rattle.rec_check.specs.Findings.{as_diagnostics, judgement_of}
use Rattle.rec_check.specs.Runs.{Examined}
use Rattle.rec_check.specs.Silenced.{unsilenced}
use Rattle.rec_check.proofs.RunLemmas.{good_examined}
use Rattle.rec_check.proofs.runs.examine_good.Goals as goal

pub returns : goal.returns
returns c =
    let s = c.args.checked.now in
    let all = as_diagnostics c.in_ok-found.found.items in
    let kept = c.in_ok-diagnostics.ensures
    ∙ ap (λ text. unsilenced text all) (c.source.ensures.text ∙ ap (λ (x : Sourced). x.source) c.syntax.ensures.same) in
    subst (λ fs. Examined s.source fs c.judge.result) (sym kept)
    (good_examined s.source s.spec (as_diagnostics c.in_ok-missing.missing.items) all c.judge.result c.requires.fits c.requires.spelled c.syntax.ensures.kept
    c.in_ok-missing.ensures c.in_ok-found.ensures
    (c.judge.ensures s.spec ∙ ap (λ ds. judgement_of (Good s.spec) (as_diagnostics ds)) c.deref.ensures.value ∙ ap (judgement_of (Good s.spec)) kept))
