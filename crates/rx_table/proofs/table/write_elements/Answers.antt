use Rattle.std.proofs.Common.{rules}
use Rattle.rx_text.proofs.AppendingLemmas.{on_err}
use Rattle.rx_table.specs.Inner.Elements.{elements_of, style_of}
use Rattle.rx_table.proofs.ElementLemmas.{printing-ends, printing-next, printing-stopped}
use Rattle.rx_table.proofs.table.write_elements.Goals as goal

pub returns-in_err-write_element-clause-front : goal.returns-in_err-write_element-clause-front
returns-in_err-write_element-clause-front g c =
    let p = c.args.printer.now in
    let w = g.B.TermBank.store p.bank.now in
    let l = c.loop-index in
    on_err _ (printing-stopped w (style_of p.numbers w) p.numbers.parts.now.terms.keys p.numbers.numbers.now (elements_of g.B.TermBank.store p)
    (g.W.Write.contents c.args.out.now.writer.now) (g.W.Write.contents l.out.writer.now) l.index l.invariant.0 c.requires.can.each
    c.loop-index-test.true (g.W.Write.contents c.write_element.new.out.writer.now) c.in_err-write_element.ensures.front)

pub loop-index-preserved : goal.loop-index-preserved
loop-index-preserved g c =
    let p = c.args.printer.now in
    let w = g.B.TermBank.store p.bank.now in
    let l = c.loop-index in (
      printing-next w (style_of p.numbers w) p.numbers.parts.now.terms.keys p.numbers.numbers.now (elements_of g.B.TermBank.store p)
          (g.W.Write.contents c.args.out.now.writer.now) (g.W.Write.contents l.out.writer.now) l.index l.invariant.0 c.requires.can.each
          c.loop-index-test.true (g.W.Write.contents c.write_element.new.out.writer.now) c.in_ok-write_element.ensures.written,
      search rules,
      search rules,
    )
