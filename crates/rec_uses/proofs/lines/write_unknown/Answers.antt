use Rattle.std.proofs.Common.{◌++◌, subst}
use Rattle.std.specs.Prelude.{codes}
use Rattle.std.specs.Io.KnownBytes.{Appends}
use Rattle.rx_text.specs.Written.{AppendsFront}
use Rattle.rx_text.proofs.AppendingLemmas.{appends_both, front_after, front_before, on_err}
use Rattle.rec_uses.specs.Lines.{unknown_kind}
use Rattle.rec_uses.proofs.lines.write_unknown.Goals as goal

pub returns-in_err-put-clause-err : goal.returns-in_err-put-clause-err
returns-in_err-put-clause-err g c =
    let kind = unknown_kind c.args.used.now.role in
    let bytes = c.args.used.now.word.bytes.now in
    on_err c.from_residual.result
    (front_before _ _ (kind ++ bytes) (codes ": -\n") (front_before _ _ kind bytes
    (subst (λ text. AppendsFront text (g.W.Write.contents c.args.out.now.writer.now) (g.W.Write.contents c.put.new.self.writer.now))
    c.unknown.ensures c.in_err-put.ensures.front)))

pub returns-in_err-put-2-clause-err : goal.returns-in_err-put-2-clause-err
returns-in_err-put-2-clause-err g c =
    let kind = unknown_kind c.args.used.now.role in
    let bytes = c.args.used.now.word.bytes.now in
    on_err c.from_residual-in_err-put-2.result
    (front_before _ _ (kind ++ bytes) (codes ": -\n") (front_after _ _ _ kind bytes
    (subst (λ text. Appends (g.W.Write.contents c.args.out.now.writer.now) (g.W.Write.contents c.put.new.self.writer.now) text)
    c.unknown.ensures c.in_ok-put.ensures.written) c.in_err-put-2.ensures.front))

pub returns-in_err-put-3-clause-err : goal.returns-in_err-put-3-clause-err
returns-in_err-put-3-clause-err g c =
    let kind = unknown_kind c.args.used.now.role in
    let bytes = c.args.used.now.word.bytes.now in
    on_err c.from_residual-in_err-put-3.result
    (front_after _ _ _ (kind ++ bytes) (codes ": -\n") (appends_both _ _ _ kind bytes
    (subst (λ text. Appends (g.W.Write.contents c.args.out.now.writer.now) (g.W.Write.contents c.put.new.self.writer.now) text)
    c.unknown.ensures c.in_ok-put.ensures.written) c.in_ok-put-2.ensures.written) c.in_err-put-3.ensures.front)
