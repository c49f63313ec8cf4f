use Rattle.std.proofs.Common.{◌++◌, subst}
use Rattle.std.specs.Prelude.{codes, decimal}
use Rattle.std.specs.Io.KnownBytes.{Appends}
use Rattle.rx_text.specs.Written.{AppendsFront}
use Rattle.rx_text.proofs.AppendingLemmas.{front_after, front_before, on_err}
use Rattle.rx_run.proofs.term.output.write_cells.Goals as goal

pub returns-in_err-put_numbered_to-clause-err : goal.returns-in_err-put_numbered_to-clause-err
returns-in_err-put_numbered_to-clause-err g c =
    on_err c.from_residual.result
    (front_before _ _ (codes "cells " ++ decimal c.args.cells) (codes "\n")
    (subst (λ n. AppendsFront (codes "cells " ++ decimal n) (g.W.Write.contents c.args.out.now.writer.now)
    (g.W.Write.contents c.put_numbered_to.new.out.writer.now)) c.from.ensures c.in_err-put_numbered_to.ensures.err))

pub returns-in_err-put-clause-err : goal.returns-in_err-put-clause-err
returns-in_err-put-clause-err g c =
    on_err c.from_residual-in_err-put.result
    (front_after _ _ _ (codes "cells " ++ decimal c.args.cells) (codes "\n")
    (subst (λ n. Appends (g.W.Write.contents c.args.out.now.writer.now) (g.W.Write.contents c.put_numbered_to.new.out.writer.now)
    (codes "cells " ++ decimal n)) c.from.ensures c.in_ok-put_numbered_to.ensures.ok)
    c.in_err-put.ensures.front)
