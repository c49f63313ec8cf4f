use Rattle.std.proofs.Common.{◌≡◌}
use Rattle.rx_text.specs.Output.{IsSameOutput}
use Rattle.rx_table.specs.Inner.Elements.{elements_of, style_of}
use Rattle.rx_table.specs.Inner.Walk.{trees_of}
use Rattle.rx_table.proofs.ElementLemmas.{Printing}
use Rattle.rx_table.proofs.table.write_elements.Given as goal

-- the elements of the parts so far were written
abbrev pub invariant-loop-index : goal.invariant-loop-index
invariant-loop-index g l =
    let p = l.fn.printer in
    let w = g.B.TermBank.store p.bank.now in
    Printing (style_of p.numbers w) (trees_of w p.numbers.parts.now.terms.keys) p.numbers.numbers.now (elements_of g.B.TermBank.store p)
    (g.W.Write.contents l.fn.out.writer.now) (g.W.Write.contents l.out.writer.now) l.index
    × (l.out.refused ≡ l.fn.out.refused) × IsSameOutput l.fn.out l.out
