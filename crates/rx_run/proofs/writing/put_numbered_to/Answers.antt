use Rattle.std.proofs.Common.{subst, ◌∙◌}
use Rattle.std.specs.Prelude.{decimal}
use Rattle.rx_text.specs.Written.{AppendsFront}
use Rattle.rx_text.proofs.AppendingLemmas.{front_after, front_before, on_err}
use Rattle.rx_run.proofs.writing.put_numbered_to.Goals as goal

pub returns-in_err-put-clause-err : goal.returns-in_err-put-clause-err
returns-in_err-put-clause-err g c =
    on_err c.from_residual.result (front_before _ _ c.args.text.now (decimal c.args.n) c.in_err-put.ensures.front)

pub returns-in_err-put-2-clause-err : goal.returns-in_err-put-2-clause-err
returns-in_err-put-2-clause-err g c =
    on_err c.from_residual-in_err-put-2.result
    (front_after _ _ _ c.args.text.now (decimal c.args.n) c.in_ok-put.ensures.written
    (subst (λ text. AppendsFront text (g.W.Write.contents c.put.new.self.writer.now) (g.W.Write.contents c.put-2.new.self.writer.now))
    (c.as_bytes.ensures.value ∙ c.format.ensures.text) c.in_err-put-2.ensures.front))
