use Rattle.std.proofs.Common.{None, arith, sym, ◌∙◌}
use Rattle.rx_table.proofs.ElementLemmas.{number-found, number-missing}
use Rattle.rx_table.proofs.table.ElementsNumbers.number_of.Goals as goal

pub returns-in-Some-get : goal.returns-in-Some-get
returns-in-Some-get c w in_store held =
    let found = c.get.ensures.lookup.4 (omega arith) None in
    let number = rw c.in-Some-get.is at found in
    number ∙ sym (number-found w in_store.sound c.args.self.now.parts.now.terms.keys c.args.self.now.numbers.now c.args.t.0 in_store.there held
    c.in-Some.index (sym c.in-Some.ensures.index))

pub returns-in-None-get : goal.returns-in-None-get
returns-in-None-get c w in_store held =
    let found = c.get.ensures.lookup.4 (omega arith) None in
    let number = rw c.in-None-get.is at found in
    number ∙ sym (number-found w in_store.sound c.args.self.now.parts.now.terms.keys c.args.self.now.numbers.now c.args.t.0 in_store.there held
    c.in-Some.index (sym c.in-Some.ensures.index))

pub returns-in-None : goal.returns-in-None
returns-in-None c w in_store held =
    sym (number-missing w in_store.sound c.args.self.now.parts.now.terms.keys c.args.self.now.numbers.now c.args.t.0 in_store.there held
    (sym c.in-None.ensures.index))
