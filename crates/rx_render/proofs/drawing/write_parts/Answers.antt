use Rattle.std.proofs.Common.{◌<◌, arith, min, rules}
use Rattle.rx_term.specs.Parts.{part_count}
use Rattle.rx_term.specs.Walks.{held_tree}
use Rattle.rx_text.proofs.AppendingLemmas.{on_err}
use Rattle.rx_render.proofs.DrawingLemmas.{drawn_on, drawn_stopped}
use Rattle.rx_render.proofs.drawing.write_parts.Goals as goal

pub returns-in_err-write_part-clause-front : goal.returns-in_err-write_part-clause-front
returns-in_err-write_part-clause-front g c =
    let w = g.B.TermBank.store c.args.bank.now in
    let u = held_tree w c.args.t in
    let l = c.loop-number in
    let most = min c.args.extent.nodes c.args.extent.cells in
    let counted = c.requires.counted in
    let passed = c.loop-number-test.true in
    let within : l.number < most = omega (arith, passed) in
    let lt : l.number < part_count u = omega (arith, counted, within) in
    on_err c.from_residual.result
    (drawn_stopped w u c.args.extent.nodes l.number (g.W.Write.contents c.args.out.now.writer.now) (g.W.Write.contents l.out.writer.now) l.graph
    l.invariant.0 lt (g.W.Write.contents c.write_part.new.out.writer.now) most within c.in_err-write_part.ensures.front)

pub loop-number-preserved : goal.loop-number-preserved
loop-number-preserved g c =
    let w = g.B.TermBank.store c.args.bank.now in
    let u = held_tree w c.args.t in
    let l = c.loop-number in
    let counted = c.requires.counted in
    let passed = c.loop-number-test.true in
    let lt : l.number < part_count u = omega (arith, counted, passed) in (
      drawn_on w u c.args.extent.nodes l.number (g.W.Write.contents c.args.out.now.writer.now) (g.W.Write.contents l.out.writer.now) l.graph
          l.invariant.0 lt (g.W.Write.contents c.write_part.new.out.writer.now) c.write_part.new.graph c.in_ok-write_part.ensures.passed
          c.in_ok-write_part.ensures.written,
      search rules,
      search rules,
    )
