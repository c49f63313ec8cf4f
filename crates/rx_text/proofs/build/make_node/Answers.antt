use Rattle.rx_term.proofs.StoreLemmas.{Grows-Makes, Grows-Refuses}
use Rattle.rx_text.proofs.MakingLemmas.{integer_made}
use Rattle.rx_text.proofs.build.make_node.Goals as goal

pub returns-in_ok-int-in-Integer-clause-made : goal.returns-in_ok-int-in-Integer-clause-made
returns-in_ok-int-in-Integer-clause-made g c = λ trees held.
    let fits = rw c.in-Integer.is at c.requires.name in
    rw c.in-Integer.is (integer_made (g.B.TermBank.store c.args.bank.now) (g.B.TermBank.store c.int.new.self) c.in-Integer.value
    c.in_ok-int-in-Integer.field-0 c.args.made.now.items trees fits c.in_ok-int-in-Integer.ensures held)

pub returns-in_err-int-in-Integer-clause-grows : goal.returns-in_err-int-in-Integer-clause-grows
returns-in_err-int-in-Integer-clause-grows g c = Grows-Refuses c.in_err-int-in-Integer.ensures

pub returns-in_ok-int-in-Integer-clause-grows : goal.returns-in_ok-int-in-Integer-clause-grows
returns-in_ok-int-in-Integer-clause-grows g c = Grows-Makes c.in_ok-int-in-Integer.ensures
