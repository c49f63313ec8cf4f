use Rattle.std.proofs.Common.{refl, ap, ◌∙◌}
use Rattle.rx_run.specs.declared.ending.RunFault.TheVariants.{Write}
use Rattle.rx_run.proofs.ErrorLemmas.{if_err_at}
use Rattle.rec_uses.specs.Inner.Values.{as_uses}
use Rattle.rec_uses.proofs.RunLemmas.{appends_kept, due_lines, front_all}
use Rattle.rec_uses.proofs.runs.list_syntax.Goals as goal

pub returns-in_err-write_uses-clause-fault : goal.returns-in_err-write_uses-clause-fault
returns-in_err-write_uses-clause-fault g c =
    if_err_at c.from_residual-in_err-write_uses.result _ Write c.from_residual-in_err-write_uses.ensures.1 (
      _,
      due_lines c.args.settings.now c.args.syntax.now.source _ c.args.syntax.now.spec _ _ c.source.ensures.text c.in_ok-uses.ensures
          (ap as_uses c.deref.ensures.value ∙ c.in_ok-kept.ensures) c.requires.fits c.requires.spelled,
      c.in_err-write_uses.ensures.err,
    )

pub returns-in_err-flush-clause-fault : goal.returns-in_err-flush-clause-fault
returns-in_err-flush-clause-fault g c =
    if_err_at c.from_residual-in_err-flush.result _ Write c.from_residual-in_err-flush.ensures.1 (
      _,
      due_lines c.args.settings.now c.args.syntax.now.source _ c.args.syntax.now.spec _ _ c.source.ensures.text c.in_ok-uses.ensures
          (ap as_uses c.deref.ensures.value ∙ c.in_ok-kept.ensures) c.requires.fits c.requires.spelled,
      front_all _ _ _ (appends_kept _ _ _ _ c.in_ok-write_uses.ensures.ok c.in_err-flush.ensures.kept),
    )

pub returns-clause-output : goal.returns-clause-output
returns-clause-output g c = (
  refl,
  (
    _,
    due_lines c.args.settings.now c.args.syntax.now.source _ c.args.syntax.now.spec _ _ c.source.ensures.text c.in_ok-uses.ensures
        (ap as_uses c.deref.ensures.value ∙ c.in_ok-kept.ensures) c.requires.fits c.requires.spelled,
    appends_kept _ _ _ _ c.in_ok-write_uses.ensures.ok c.in_ok-flush.ensures.kept,
  ),
)
