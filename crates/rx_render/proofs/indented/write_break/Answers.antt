use Rattle.std.proofs.Common.{◌∷◌, [], ap, sym, ◌∙◌, append-nil}
use Rattle.std.specs.Prelude.{replicate, length}
use Rattle.rx_text.proofs.AppendingLemmas.{err_within, front_before, on_err}
use Rattle.rx_render.specs.Laid.{new_line}
use Rattle.rx_render.proofs.indented.write_break.Goals as goal

pub returns-in_err-put-clause-front : goal.returns-in_err-put-clause-front
returns-in_err-put-clause-front g c =
    on_err _ (front_before (g.W.Write.contents c.args.out.now.writer.now) (g.W.Write.contents c.put.new.self.writer.now) (10 ∷ [])
    (replicate (length c.args.blanks.now) 32) c.in_err-put.ensures.front)

pub returns-clause-front : goal.returns-clause-front
returns-clause-front g c =
    let blanks = c.args.blanks.now in
    err_within c.put-2.result (g.W.Write.contents c.args.out.now.writer.now) (g.W.Write.contents c.put.new.self.writer.now)
    (g.W.Write.contents c.put-2.new.self.writer.now) (new_line (length blanks)) (10 ∷ []) blanks []
    (ap (λ xs. 10 ∷ xs) (sym c.requires.blank ∙ sym (append-nil blanks))) c.in_ok-put.ensures.written c.put-2.ensures.front
