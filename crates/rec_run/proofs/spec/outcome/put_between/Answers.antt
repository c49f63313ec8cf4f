use Rattle.std.proofs.Common.{◌++◌}
use Rattle.rx_text.proofs.AppendingLemmas.{appends_both, front_after, front_before, on_err}
use Rattle.rec_run.proofs.spec.outcome.put_between.Goals as goal

pub returns-in_err-put-clause-err : goal.returns-in_err-put-clause-err
returns-in_err-put-clause-err g c =
    on_err c.from_residual.result (front_before _ _ (c.args.left.now ++ c.args.text.now) c.args.right.now
    (front_before _ _ c.args.left.now c.args.text.now c.in_err-put.ensures.front))

pub returns-in_err-put-2-clause-err : goal.returns-in_err-put-2-clause-err
returns-in_err-put-2-clause-err g c =
    on_err c.from_residual-in_err-put-2.result
    (front_before _ _ (c.args.left.now ++ c.args.text.now) c.args.right.now
    (front_after _ _ _ c.args.left.now c.args.text.now c.in_ok-put.ensures.written c.in_err-put-2.ensures.front))

pub returns-in_err-put-3-clause-err : goal.returns-in_err-put-3-clause-err
returns-in_err-put-3-clause-err g c =
    on_err c.from_residual-in_err-put-3.result
    (front_after _ _ _ (c.args.left.now ++ c.args.text.now) c.args.right.now
    (appends_both _ _ _ c.args.left.now c.args.text.now c.in_ok-put.ensures.written c.in_ok-put-2.ensures.written) c.in_err-put-3.ensures.front)
