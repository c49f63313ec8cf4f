use Rattle.std.proofs.Common.{◌-◌, refl}
use Rattle.rx_term.specs.Walks.{held_tree}
use Rattle.rx_text.proofs.AppendingLemmas.{on_err}
use Rattle.rx_render.proofs.DrawingLemmas.{closing_front, graph_written, heading_front, parts_front, rest_front}
use Rattle.rx_render.proofs.drawing.write_graph_to.Goals as goal

pub returns-in_err-put-clause-front : goal.returns-in_err-put-clause-front
returns-in_err-put-clause-front g c =
    let k = c.args.extent.nodes in
    let n = c.args.extent.cells in
    let u = held_tree (g.B.TermBank.store c.args.bank.now) c.args.t in
    on_err c.from_residual.result (heading_front k n (n - k) u c.requires.counted refl (g.W.Write.contents c.args.out.now.writer.now)
    (g.W.Write.contents c.put.new.self.writer.now) c.in_err-put.ensures.front)

pub returns-in_err-write_parts-clause-front : goal.returns-in_err-write_parts-clause-front
returns-in_err-write_parts-clause-front g c =
    let k = c.args.extent.nodes in
    let n = c.args.extent.cells in
    let u = held_tree (g.B.TermBank.store c.args.bank.now) c.args.t in
    on_err c.from_residual-in_err-write_parts.result
    (parts_front k n (n - k) u c.requires.counted refl (g.W.Write.contents c.args.out.now.writer.now) (g.W.Write.contents c.put.new.self.writer.now)
    c.in_ok-put.ensures.written (g.W.Write.contents c.write_parts.new.out.writer.now) c.in_err-write_parts.ensures.front)

pub returns-in_err-write_rest-clause-front : goal.returns-in_err-write_rest-clause-front
returns-in_err-write_rest-clause-front g c =
    let k = c.args.extent.nodes in
    let n = c.args.extent.cells in
    let u = held_tree (g.B.TermBank.store c.args.bank.now) c.args.t in
    on_err c.from_residual-in_err-write_rest.result
    (rest_front k n c.saturating_sub.result u c.requires.counted c.saturating_sub.ensures (g.W.Write.contents c.args.out.now.writer.now)
    (g.W.Write.contents c.put.new.self.writer.now) c.in_ok-put.ensures.written (g.W.Write.contents c.write_parts.new.out.writer.now)
    c.in_ok-write_parts.ensures.written
    (g.W.Write.contents c.write_rest.new.out.writer.now) c.in_err-write_rest.ensures.front)

pub returns-in_err-put-2-clause-front : goal.returns-in_err-put-2-clause-front
returns-in_err-put-2-clause-front g c =
    let k = c.args.extent.nodes in
    let n = c.args.extent.cells in
    let u = held_tree (g.B.TermBank.store c.args.bank.now) c.args.t in
    on_err c.from_residual-in_err-put-2.result
    (closing_front k n c.saturating_sub.result u c.requires.counted c.saturating_sub.ensures (g.W.Write.contents c.args.out.now.writer.now)
    (g.W.Write.contents c.put.new.self.writer.now) c.in_ok-put.ensures.written (g.W.Write.contents c.write_parts.new.out.writer.now)
    c.in_ok-write_parts.ensures.written
    (g.W.Write.contents c.write_rest.new.out.writer.now) c.in_ok-write_rest.ensures.written (g.W.Write.contents c.put-2.new.self.writer.now)
    c.in_err-put-2.ensures.front)

pub returns-clause-written : goal.returns-clause-written
returns-clause-written g c =
    let k = c.args.extent.nodes in
    let n = c.args.extent.cells in
    let u = held_tree (g.B.TermBank.store c.args.bank.now) c.args.t in
    graph_written k n c.saturating_sub.result u c.requires.counted c.saturating_sub.ensures (g.W.Write.contents c.args.out.now.writer.now)
    (g.W.Write.contents c.put.new.self.writer.now) c.in_ok-put.ensures.written (g.W.Write.contents c.write_parts.new.out.writer.now)
    c.in_ok-write_parts.ensures.written
    (g.W.Write.contents c.write_rest.new.out.writer.now) c.in_ok-write_rest.ensures.written (g.W.Write.contents c.put-2.new.self.writer.now)
    c.in_ok-put-2.ensures.written
