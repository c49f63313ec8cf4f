use Rattle.std.proofs.Common.{◌∷◌, [], ◌++◌, refl}
use Rattle.rx_text.specs.Canon.{name_text}
use Rattle.rx_text.proofs.AppendingLemmas.{err_within, front_before, on_err}
use Rattle.rx_text.proofs.writer.put_operator.Goals as goal

pub returns-in_err-put_name-clause-front : goal.returns-in_err-put_name-clause-front
returns-in_err-put_name-clause-front g c =
    on_err _ (front_before (g.W.Write.contents c.args.out.now.writer.now) (g.W.Write.contents c.put_name.new.out.writer.now)
    (name_text c.args.name.now c.args.quoted) (40 ∷ []) c.in_err-put_name.ensures.front)

pub returns-clause-front : goal.returns-clause-front
returns-clause-front g c =
    let name = name_text c.args.name.now c.args.quoted in
    err_within c.put.result (g.W.Write.contents c.args.out.now.writer.now) (g.W.Write.contents c.put_name.new.out.writer.now)
    (g.W.Write.contents c.put.new.self.writer.now) (name ++ 40 ∷ []) name (40 ∷ []) [] refl c.in_ok-put_name.ensures.written c.put.ensures.front
