use Rattle.std.proofs.Common.{◌++◌}
use Rattle.std.specs.Prelude.{codes, decimal}
use Rattle.rx_text.proofs.AppendingLemmas.{appends_both, front_after, front_before, on_err}
use Rattle.rec_uses.proofs.lines.write_place.Goals as goal

pub returns-in_err-put-clause-err : goal.returns-in_err-put-clause-err
returns-in_err-put-clause-err g c =
    let name = c.args.name.now in
    let line = codes ":" ++ decimal c.args.spot.line in
    let column = codes ":" ++ decimal c.args.spot.column in
    on_err c.from_residual.result
    (front_before _ _ (name ++ line ++ column) (codes ": ") (front_before _ _ (name ++ line) column (front_before _ _ name line c.in_err-put.ensures.front)))

pub returns-in_err-put_numbered_to-clause-err : goal.returns-in_err-put_numbered_to-clause-err
returns-in_err-put_numbered_to-clause-err g c =
    let name = c.args.name.now in
    let line = codes ":" ++ decimal c.args.spot.line in
    let column = codes ":" ++ decimal c.args.spot.column in
    on_err c.from_residual-in_err-put_numbered_to.result
    (front_before _ _ (name ++ line ++ column) (codes ": ") (front_before _ _ (name ++ line) column
    (front_after _ _ _ name line c.in_ok-put.ensures.written c.in_err-put_numbered_to.ensures.err)))

pub returns-in_err-put_numbered_to-2-clause-err : goal.returns-in_err-put_numbered_to-2-clause-err
returns-in_err-put_numbered_to-2-clause-err g c =
    let name = c.args.name.now in
    let line = codes ":" ++ decimal c.args.spot.line in
    let column = codes ":" ++ decimal c.args.spot.column in
    on_err c.from_residual-in_err-put_numbered_to-2.result
    (front_before _ _ (name ++ line ++ column) (codes ": ") (front_after _ _ _ (name ++ line) column
    (appends_both _ _ _ name line c.in_ok-put.ensures.written c.in_ok-put_numbered_to.ensures.ok) c.in_err-put_numbered_to-2.ensures.err))

pub returns-in_err-put-2-clause-err : goal.returns-in_err-put-2-clause-err
returns-in_err-put-2-clause-err g c =
    let name = c.args.name.now in
    let line = codes ":" ++ decimal c.args.spot.line in
    let column = codes ":" ++ decimal c.args.spot.column in
    on_err c.from_residual-in_err-put-2.result
    (front_after _ _ _ (name ++ line ++ column) (codes ": ") (appends_both _ _ _ (name ++ line) column
    (appends_both _ _ _ name line c.in_ok-put.ensures.written c.in_ok-put_numbered_to.ensures.ok) c.in_ok-put_numbered_to-2.ensures.ok)
    c.in_err-put-2.ensures.front)
