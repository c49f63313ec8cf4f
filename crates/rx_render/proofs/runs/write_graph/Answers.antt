use Rattle.std.proofs.Common.{List, ℕ, subst, sym}
use Rattle.std.specs.Io.KnownBytes.{Appends}
use Rattle.rx_run.specs.Run.{StopsBy, fault_of_write}
use Rattle.rx_run.proofs.ErrorLemmas.{if_err_at}
use Rattle.rx_render.specs.Graph.{graph_text}
use Rattle.std.proofs.Common.{false}
use Rattle.rx_render.proofs.FaultLemmas.{stops_front}
use Rattle.rx_render.proofs.RunLemmas.{counted_tree, lines_held}
use Rattle.rx_render.proofs.runs.write_graph.Goals as goal

pub write_graph_to-requires-clause-counted : goal.write_graph_to-requires-clause-counted
write_graph_to-requires-clause-counted g c =
    counted_tree (g.B.TermBank.store c.args.bank.now) (g.B.TermBank.store c.keep_alone-cells.new.bank) c.args.t c.keep_alone-cells.result c.requires.held
    c.keep_alone-cells.ensures.kept c.keep_alone-cells.ensures.counted

pub returns-clause-ok : goal.returns-clause-ok
returns-clause-ok g c =
    let old = g.B.TermBank.store c.args.bank.now in
    let new = g.B.TermBank.store c.keep_alone-cells.new.bank in
    subst (Appends (g.W.Write.contents c.args.out.now.writer.now) (g.W.Write.contents c.write_graph_to.new.out.writer.now))
    (sym (lines_held (graph_text c.args.nodes) old new c.args.t c.requires.held c.keep_alone-cells.ensures.kept)) c.in_ok-write_graph_to.ensures.written

pub returns-in_err-write_graph_to-clause-err : goal.returns-in_err-write_graph_to-clause-err
returns-in_err-write_graph_to-clause-err g c =
    let old = g.B.TermBank.store c.args.bank.now in
    let new = g.B.TermBank.store c.keep_alone-cells.new.bank in
    let f = c.in_err-write_graph_to.field-0.0 in
    if_err_at c.from_residual.result _ (fault_of_write f) c.from_residual.ensures.1
    (subst (λ (text : List ℕ). StopsBy false (fault_of_write f) text (g.W.Write.contents c.args.out.now.writer.now)
    (g.W.Write.contents c.write_graph_to.new.out.writer.now))
    (sym (lines_held (graph_text c.args.nodes) old new c.args.t c.requires.held c.keep_alone-cells.ensures.kept))
    (stops_front f _ _ _ c.in_err-write_graph_to.ensures.front))
