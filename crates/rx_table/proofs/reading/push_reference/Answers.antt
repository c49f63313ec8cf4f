use Rattle.std.proofs.Common.{◌≡◌, ◌<◌, None, Some, w32, to_z, of_z, ap, length, sym, ◌∙◌, arith}
use Rattle.std.proofs.lemmas.Int.{to_z-of_z}
use Rattle.rx_term.specs.Tree.{list_of, none}
use Rattle.rx_term.proofs.StoreLemmas.{Grows-Makes, Grows-refl}
use Rattle.rx_table.specs.Opened.{element}
use Rattle.rx_table.specs.Inner.Reading.{after_number, never}
use Rattle.rx_table.proofs.ReadingLemmas.{found-pushed, lost-pushed}
use Rattle.rx_table.proofs.reading.push_reference.Goals as goal

pub returns-in_ok-push-in-Some-clause-stack : goal.returns-in_ok-push-in-Some-clause-stack
returns-in_ok-push-in-Some-clause-stack g c = λ ts s.
    let w = g.B.TermBank.store c.args.bank.now in
    let terms = c.args.stack.now.terms in
    let few : length terms.items < never = omega (arith, terms.ok.0, terms.ok.1, terms.small) in
    let same : to_z w32 (of_z w32 c.args.number) ≡ c.args.number = to_z-of_z w32 c.args.number c.ranges.number in
    let got : element terms.items c.args.number ≡ Some c.in-Some.term = sym (rw (c.deref.ensures.value, same) at c.in-Some.ensures) in
    found-pushed w w (Grows-refl w) ts c.args.stack.now c.push.new.self s few c.args.number c.in-Some.term c.after_number.result
    (c.after_number.ensures ∙ ap after_number same) c.in_ok-push-in-Some.ensures.terms c.in_ok-push-in-Some.ensures.needs got

pub returns-in_ok-push-in-None-clause-stack : goal.returns-in_ok-push-in-None-clause-stack
returns-in_ok-push-in-None-clause-stack g c = λ ts s.
    let terms = c.args.stack.now.terms in
    let few : length terms.items < never = omega (arith, terms.ok.0, terms.ok.1, terms.small) in
    let same : to_z w32 (of_z w32 c.args.number) ≡ c.args.number = to_z-of_z w32 c.args.number c.ranges.number in
    let lost : element terms.items c.args.number ≡ None = sym (rw (c.deref.ensures.value, same) at c.in-None.ensures) in
    let m = c.in_ok-term-in-None.ensures in
    lost-pushed (g.B.TermBank.store c.args.bank.now) (g.B.TermBank.store c.nil.new.self) (Grows-Makes m) ts c.args.stack.now c.push-in-None.new.self s few
    c.args.number c.in_ok-term-in-None.term c.after_number.result (c.after_number.ensures ∙ ap after_number same) c.in_ok-push-in-None.ensures.terms c.in_ok-push-in-None.ensures.needs
    (list_of none) m.made lost
