use Rattle.std.proofs.Common.{[], ◌∷◌}
use Rattle.std.specs.Prelude.{true}
use Rattle.rx_text.specs.Canon.{name_text}
use Rattle.rx_text.proofs.AppendingLemmas.{on_err, err_within}
use Rattle.rx_text.proofs.PrintedNameLemmas.{begun_name, byte_front, quote_front, name_ends}
use Rattle.rx_text.proofs.names.put_name.Goals as goal

pub returns-in_err-put-clause-front : goal.returns-in_err-put-clause-front
returns-in_err-put-clause-front g c = rw c.if-not-quoted.false (on_err _ (quote_front _ _ c.args.name.now c.in_err-put.ensures.front))

pub returns-in_err-put_quoted_byte-clause-front : goal.returns-in_err-put_quoted_byte-clause-front
returns-in_err-put_quoted_byte-clause-front g c =
    rw c.if-not-quoted.false (on_err _ (byte_front _ _ _ c.args.name.now c.loop-byte.byte-index c.loop-byte-test.true c.loop-byte.invariant.0
    c.in_err-put_quoted_byte.ensures.front))

pub returns-clause-front : goal.returns-clause-front
returns-clause-front g c =
    let name = c.args.name.now in
    let i = c.loop-byte.byte-index in
    rw c.if-not-quoted.false (err_within c.put-3.result (g.W.Write.contents c.args.out.now.writer.now) (g.W.Write.contents c.loop-byte.out.writer.now)
    (g.W.Write.contents c.put-3.new.self.writer.now) (name_text name true) (begun_name name i) (34 ∷ []) []
    (name_ends name i c.loop-byte-test.false) c.loop-byte.invariant.0 c.put-3.ensures.front)
