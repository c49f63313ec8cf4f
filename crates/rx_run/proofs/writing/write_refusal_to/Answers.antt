use Rattle.std.proofs.Common.{◌++◌}
use Rattle.std.specs.Prelude.{codes}
use Rattle.rx_run.specs.Refusals.{name_of, word_of}
use Rattle.rx_text.proofs.AppendingLemmas.{appends_both, front_after, front_before, on_err}
use Rattle.rx_run.proofs.writing.write_refusal_to.Goals as goal

pub returns-in_err-write_word-clause-err : goal.returns-in_err-write_word-clause-err
returns-in_err-write_word-clause-err g c =
    let word = word_of c.args.refusal.text in
    let name = name_of c.args.refusal.reason in
    on_err c.from_residual.result (front_before _ _ (word ++ name) (codes "\n") (front_before _ _ word name c.in_err-write_word.ensures.err))

pub returns-in_err-write_name-clause-err : goal.returns-in_err-write_name-clause-err
returns-in_err-write_name-clause-err g c =
    let word = word_of c.args.refusal.text in
    let name = name_of c.args.refusal.reason in
    on_err c.from_residual-in_err-write_name.result
    (front_before _ _ (word ++ name) (codes "\n") (front_after _ _ _ word name c.in_ok-write_word.ensures.ok c.in_err-write_name.ensures.err))

pub returns-in_err-put-clause-err : goal.returns-in_err-put-clause-err
returns-in_err-put-clause-err g c =
    let word = word_of c.args.refusal.text in
    let name = name_of c.args.refusal.reason in
    on_err c.from_residual-in_err-put.result
    (front_after _ _ _ (word ++ name) (codes "\n") (appends_both _ _ _ word name c.in_ok-write_word.ensures.ok c.in_ok-write_name.ensures.ok)
    c.in_err-put.ensures.front)
