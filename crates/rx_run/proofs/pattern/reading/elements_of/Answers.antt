use Rattle.std.proofs.Common.{sym}
use Rattle.rx_run.proofs.PatternTermLemmas.{found_elements, listed}
use Rattle.rx_run.proofs.pattern.reading.elements_of.Goals as goal

pub returns-in_ok-items_of-in-Nil : goal.returns-in_ok-items_of-in-Nil
returns-in_ok-items_of-in-Nil g c =
    let w = g.B.TermBank.store c.args.bank.now in
    found_elements w c.args.t _ (listed w c.args.t c.kind.result c.anns.result c.kind.ensures c.in-Nil.is c.anns.ensures (sym c.if-is_some.ensures))
    c.in_ok-items_of-in-Nil.ensures
