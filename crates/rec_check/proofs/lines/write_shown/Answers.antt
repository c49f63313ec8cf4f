use Rattle.std.proofs.Common.{subst, rules}
use Rattle.std.specs.Prelude.{codes}
use Rattle.rx_text.specs.Written.{AppendsFront}
use Rattle.rx_text.proofs.AppendingLemmas.{front_after, front_before, on_err}
use Rattle.rec_check.proofs.WordLemmas.{shown-some}
use Rattle.rec_check.proofs.lines.write_shown.Goals as goal

pub returns-in_err-put-clause-err : goal.returns-in_err-put-clause-err
returns-in_err-put-clause-err g c =
    let shown = c.args.shown.now in
    on_err c.from_residual.result
    (subst (λ text. AppendsFront text (g.W.Write.contents c.args.out.now.writer.now) (g.W.Write.contents c.put.new.self.writer.now))
    (shown-some shown (search rules))
    (front_before _ _ (codes ": ") shown c.in_err-put.ensures.front))

pub returns-in_err-put-2-clause-err : goal.returns-in_err-put-2-clause-err
returns-in_err-put-2-clause-err g c =
    let shown = c.args.shown.now in
    on_err c.from_residual-in_err-put-2.result
    (subst (λ text. AppendsFront text (g.W.Write.contents c.args.out.now.writer.now) (g.W.Write.contents c.put-2.new.self.writer.now))
    (shown-some shown (search rules))
    (front_after _ _ _ (codes ": ") shown c.in_ok-put.ensures.written c.in_err-put-2.ensures.front))
