use Rattle.rx_term.specs.Store.{tree_at}
use Rattle.rx_run.specs.Run.{fault_of_write}
use Rattle.rx_run.proofs.ErrorLemmas.{if_err_at}
use Rattle.rx_run.specs.declared.ending.RunFault.TheVariants.{Write}
use Rattle.rx_render.proofs.FaultLemmas.{end_refused, stops_laid}
use Rattle.rx_render.proofs.runs.write_indented_lines.Goals as goal

pub returns-in_err-put-clause-err : goal.returns-in_err-put-clause-err
returns-in_err-put-clause-err g c =
    if_err_at c.from_residual-in_err-put.result _ Write c.from_residual-in_err-put.ensures.1
    (end_refused c.args.indentation (tree_at (g.B.TermBank.store c.args.bank.now) c.args.t) (g.W.Write.contents c.args.out.now.writer.now)
    (g.W.Write.contents c.write_indented_to.new.out.writer.now) (g.W.Write.contents c.put.new.self.writer.now) c.requires.held
    c.in_ok-write_indented_to.ensures.written c.in_err-put.ensures.front)

pub returns-in_err-write_indented_to-clause-err : goal.returns-in_err-write_indented_to-clause-err
returns-in_err-write_indented_to-clause-err g c =
    let f = c.in_err-write_indented_to.field-0.0 in
    if_err_at c.from_residual.result _ (fault_of_write f) c.from_residual.ensures.1
    (stops_laid f c.args.indentation (tree_at (g.B.TermBank.store c.args.bank.now) c.args.t) (g.W.Write.contents c.args.out.now.writer.now)
    (g.W.Write.contents c.write_indented_to.new.out.writer.now) c.requires.held c.in_err-write_indented_to.ensures.front)
