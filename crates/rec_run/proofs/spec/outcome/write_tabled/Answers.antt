use Rattle.std.specs.Io.KnownBytes.{Appends}
use Rattle.rx_term.specs.Store.{tree_at}
use Rattle.rx_text.specs.Canon.{canon}
use Rattle.rx_text.specs.Written.{AppendsFront}
use Rattle.rx_table.specs.Table.{table}
use Rattle.rec_run.specs.EvaluatedLines.{figures_of}
use Rattle.rec_run.specs.GivenTerms.{item_at}
use Rattle.rec_run.proofs.EvaluatedLemmas.{of_held}
use Rattle.rec_run.proofs.PrintedLemmas.{on_err_of}
use Rattle.rx_run.proofs.ErrorLemmas.{on_ok_of}
use Rattle.rx_text.proofs.AppendingLemmas.{appends_both, front_after, front_before, on_err}
use Rattle.rec_run.proofs.spec.outcome.write_tabled.Goals as goal

pub returns-in_err-write_table_to-clause-err : goal.returns-in_err-write_table_to-clause-err
returns-in_err-write_table_to-clause-err g c =
    let w = g.B.TermBank.store c.args.bank.now in
    let numbers = figures_of c.args.run.settings w c.args.valued.term c.args.valued.steps in
    on_err c.from_residual.result
    (front_before _ _ (canon (table (item_at w c.args.valued.term))) numbers
    (of_held (tree_at w c.args.valued.term) (λ u. AppendsFront (canon (table u)) (g.W.Write.contents c.args.out.now.writer.now)
    (g.W.Write.contents c.write_table_to.new.out.writer.now)) c.requires.held c.in_err-write_table_to.ensures.front))

pub returns-clause-err : goal.returns-clause-err
returns-clause-err g c =
    let w = g.B.TermBank.store c.args.bank.now in
    let numbers = figures_of c.args.run.settings w c.args.valued.term c.args.valued.steps in
    let before = of_held (tree_at w c.args.valued.term) (λ u. Appends (g.W.Write.contents c.args.out.now.writer.now)
    (g.W.Write.contents c.write_table_to.new.out.writer.now) (canon (table u))) c.requires.held c.in_ok-write_table_to.ensures.written in
    on_err_of c.write_figures.result (front_after _ _ _ (canon (table (item_at w c.args.valued.term))) numbers before) c.write_figures.ensures.err

pub returns-clause-ok : goal.returns-clause-ok
returns-clause-ok g c =
    let w = g.B.TermBank.store c.args.bank.now in
    let numbers = figures_of c.args.run.settings w c.args.valued.term c.args.valued.steps in
    let before = of_held (tree_at w c.args.valued.term) (λ u. Appends (g.W.Write.contents c.args.out.now.writer.now)
    (g.W.Write.contents c.write_table_to.new.out.writer.now) (canon (table u))) c.requires.held c.in_ok-write_table_to.ensures.written in
    on_ok_of c.write_figures.result (appends_both _ _ _ (canon (table (item_at w c.args.valued.term))) numbers before) c.write_figures.ensures.ok
