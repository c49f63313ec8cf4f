use Rattle.rx_text.proofs.AppendingLemmas.{front_before, on_err}
use Rattle.rec_uses.specs.Inner.Tables.{AreTables}
use Rattle.rec_uses.specs.Inner.Values.{as_use}
use Rattle.rec_uses.specs.Lines.{description, place_text}
use Rattle.rec_uses.proofs.LineLemmas.{err_behind}
use Rattle.rec_uses.proofs.lines.write_use.Goals as goal

pub returns-in_err-write_place-clause-err : goal.returns-in_err-write_place-clause-err
returns-in_err-write_place-clause-err g c =
    on_err c.from_residual.result (λ text y h. front_before _ _ (place_text c.args.name.now c.args.spot) (description text y (as_use c.args.used.now))
    c.in_err-write_place.ensures.err)

pub returns-clause-err : goal.returns-clause-err
returns-clause-err g c =
    err_behind c.write_description.result (λ text y. AreTables text y c.args.tables.now) (λ text y. description text y (as_use c.args.used.now)) _ _ _
    (place_text c.args.name.now c.args.spot) c.in_ok-write_place.ensures.ok c.write_description.ensures.err
