use Rattle.std.proofs.Common.{subst, sym}
use Rattle.rx_run.specs.declared.ending.RunFault.TheVariants.{Write}
use Rattle.rx_run.proofs.ErrorLemmas.{if_err_at}
use Rattle.rec_check.specs.Findings.{as_diagnostics}
use Rattle.rec_check.specs.Runs.{Examined}
use Rattle.rec_check.proofs.RunLemmas.{appends_kept, front_all}
use Rattle.rec_check.proofs.runs.check_text_to.Goals as goal

pub returns-in_err-flush-clause-fault : goal.returns-in_err-flush-clause-fault
returns-in_err-flush-clause-fault g c =
    let end = c.in_ok-examination.examination.judgement in
    if_err_at c.from_residual-in_err-flush.result _ Write c.from_residual-in_err-flush.ensures.1
    (record {
      found = as_diagnostics c.deref.result.now;
      end = end;
      examined = subst (λ ds. Examined c.args.text.now (as_diagnostics ds) end) (sym c.deref.ensures.value) c.in_ok-examination.ensures;
      written = front_all _ _ _ (appends_kept _ _ _ _ c.in_ok-write_diagnostics.ensures.ok c.in_err-flush.ensures.kept);
    })
