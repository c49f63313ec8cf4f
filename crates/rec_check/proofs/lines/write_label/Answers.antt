use Rattle.std.proofs.Common.{subst}
use Rattle.std.specs.Io.KnownBytes.{Appends}
use Rattle.rx_text.specs.Written.{AppendsFront}
use Rattle.rx_text.proofs.AppendingLemmas.{appends_both, front_after, front_before, on_err}
use Rattle.rec_check.specs.Lines.{label_of, severity_of}
use Rattle.rec_check.proofs.lines.write_label.Goals as goal

pub returns-in_err-put-clause-err : goal.returns-in_err-put-clause-err
returns-in_err-put-clause-err g c =
    let k = c.args.kind in
    on_err c.from_residual.result
    (front_before _ _ (severity_of k) (label_of k)
    (subst (λ text. AppendsFront text (g.W.Write.contents c.args.out.now.writer.now) (g.W.Write.contents c.put.new.self.writer.now))
    c.severity.ensures c.in_err-put.ensures.front))

pub returns-in_err-put-2-clause-err : goal.returns-in_err-put-2-clause-err
returns-in_err-put-2-clause-err g c =
    let k = c.args.kind in
    on_err c.from_residual-in_err-put-2.result
    (front_after _ _ _ (severity_of k) (label_of k)
    (subst (Appends (g.W.Write.contents c.args.out.now.writer.now) (g.W.Write.contents c.put.new.self.writer.now)) c.severity.ensures
    c.in_ok-put.ensures.written)
    (subst (λ text. AppendsFront text (g.W.Write.contents c.put.new.self.writer.now) (g.W.Write.contents c.put-2.new.self.writer.now))
    c.label.ensures c.in_err-put-2.ensures.front))

pub returns-clause-ok : goal.returns-clause-ok
returns-clause-ok g c =
    let k = c.args.kind in
    appends_both _ _ _ (severity_of k) (label_of k)
    (subst (Appends (g.W.Write.contents c.args.out.now.writer.now) (g.W.Write.contents c.put.new.self.writer.now)) c.severity.ensures
    c.in_ok-put.ensures.written)
    (subst (Appends (g.W.Write.contents c.put.new.self.writer.now) (g.W.Write.contents c.put-2.new.self.writer.now)) c.label.ensures
    c.in_ok-put-2.ensures.written)
