use Rattle.std.proofs.Common.{◌++◌, subst}
use Rattle.std.specs.Prelude.{codes}
use Rattle.std.specs.Io.KnownBytes.{Appends}
use Rattle.rx_text.specs.Written.{AppendsFront}
use Rattle.rx_text.proofs.AppendingLemmas.{appends_both, front_after, front_before, on_err}
use Rattle.rec_check.specs.Lines.{code_of}
use Rattle.rec_check.proofs.lines.write_code.Goals as goal

pub returns-in_err-put-clause-err : goal.returns-in_err-put-clause-err
returns-in_err-put-clause-err g c =
    let code = code_of c.args.kind in
    on_err c.from_residual.result
    (front_before _ _ (codes " [" ++ code) (codes "]\n") (front_before _ _ (codes " [") code c.in_err-put.ensures.front))

pub returns-in_err-put-2-clause-err : goal.returns-in_err-put-2-clause-err
returns-in_err-put-2-clause-err g c =
    let code = code_of c.args.kind in
    on_err c.from_residual-in_err-put-2.result
    (front_before _ _ (codes " [" ++ code) (codes "]\n") (front_after _ _ _ (codes " [") code c.in_ok-put.ensures.written
    (subst (λ text. AppendsFront text (g.W.Write.contents c.put.new.self.writer.now) (g.W.Write.contents c.put-2.new.self.writer.now))
    c.code.ensures c.in_err-put-2.ensures.front)))

pub returns-in_err-put-3-clause-err : goal.returns-in_err-put-3-clause-err
returns-in_err-put-3-clause-err g c =
    let code = code_of c.args.kind in
    on_err c.from_residual-in_err-put-3.result
    (front_after _ _ _ (codes " [" ++ code) (codes "]\n")
    (appends_both _ _ _ (codes " [") code c.in_ok-put.ensures.written
    (subst (Appends (g.W.Write.contents c.put.new.self.writer.now) (g.W.Write.contents c.put-2.new.self.writer.now)) c.code.ensures
    c.in_ok-put-2.ensures.written))
    c.in_err-put-3.ensures.front)

pub returns-clause-ok : goal.returns-clause-ok
returns-clause-ok g c =
    let code = code_of c.args.kind in
    appends_both _ _ _ (codes " [" ++ code) (codes "]\n")
    (appends_both _ _ _ (codes " [") code c.in_ok-put.ensures.written
    (subst (Appends (g.W.Write.contents c.put.new.self.writer.now) (g.W.Write.contents c.put-2.new.self.writer.now)) c.code.ensures
    c.in_ok-put-2.ensures.written))
    c.in_ok-put-3.ensures.written
