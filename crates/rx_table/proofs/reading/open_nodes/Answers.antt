use Rattle.std.proofs.Common.{◌≡◌, ◌++◌, ◌∷◌, ◌<◌, [], ap, length, refl, reverse, ◌∙◌, arith}
use Rattle.std.specs.Prelude.{option_to_list}
use Rattle.rx_table.specs.Inner.Reading.{Fit, IsBroken}
use Rattle.rx_table.proofs.ReadingLemmas.{elements-need, no-elements, some-terms, table-broken, table-opened}
use Rattle.rx_table.proofs.reading.open_nodes.Goals as goal

pub returns-in_default-clause-not_table : goal.returns-in_default-clause-not_table
returns-in_default-clause-not_table g c = λ e t nodes.
    let last = c.elements_of.ensures.none c.in_default.is in
    no-elements c.args.bytes.now c.args.nodes.now last.0 t nodes c.requires.proper last.1

pub read_elements-requires-clause-enough : goal.read_elements-requires-clause-enough
read_elements-requires-clause-enough g c =
    (elements-need c.args.bytes.now c.args.nodes.now c.in-Some.elements.now c.requires.nodes.0 c.requires.nodes.1 c.requires.proper
    c.in-Some.ensures.some).0

pub read_elements-requires-clause-proper : goal.read_elements-requires-clause-proper
read_elements-requires-clause-proper g c =
    (elements-need c.args.bytes.now c.args.nodes.now c.in-Some.elements.now c.requires.nodes.0 c.requires.nodes.1 c.requires.proper
    c.in-Some.ensures.some).1

pub read_elements-requires-clause-names : goal.read_elements-requires-clause-names
read_elements-requires-clause-names g c =
    (elements-need c.args.bytes.now c.args.nodes.now c.in-Some.elements.now c.requires.nodes.0 c.requires.nodes.1 c.requires.proper
    c.in-Some.ensures.some).2

pub returns-in-Some-first_broken-clause-rule : goal.returns-in-Some-first_broken-clause-rule
returns-in-Some-first_broken-clause-rule g c = λ n e t nodes.
    let stack = c.in_ok-stack.stack in
    let broken : IsBroken stack.needs.items c.in-Some-first_broken.number = rw c.deref.ensures.value at c.in-Some-first_broken.ensures.broken in
    (table-broken (g.B.TermBank.store c.read_elements.new.bank) c.args.bytes.now c.args.nodes.now c.in-Some.elements.now t nodes c.in-Some.ensures.some
    stack c.in_ok-stack.ensures.stack c.in-Some-first_broken.number broken).0

pub returns-in-Some-first_broken-clause-element : goal.returns-in-Some-first_broken-clause-element
returns-in-Some-first_broken-clause-element g c = λ n e t nodes.
    let stack = c.in_ok-stack.stack in
    let broken : IsBroken stack.needs.items c.in-Some-first_broken.number = rw c.deref.ensures.value at c.in-Some-first_broken.ensures.broken in
    let found = (table-broken (g.B.TermBank.store c.read_elements.new.bank) c.args.bytes.now c.args.nodes.now c.in-Some.elements.now t nodes
    c.in-Some.ensures.some stack c.in_ok-stack.ensures.stack c.in-Some-first_broken.number broken).1 in
    let same : c.in-Some-first_broken.number ≡ n = cc e in
    rw same at found

pub unwrap-requires : goal.unwrap-requires
unwrap-requires g c =
    let stack = c.in_ok-stack.stack in
    let some = some-terms (g.B.TermBank.store c.read_elements.new.bank) c.args.bytes.now c.args.nodes.now c.in-Some.elements.now c.requires.nodes.0
    c.requires.nodes.1 c.in-Some.ensures.some stack c.in_ok-stack.ensures.stack in
    c.pop.ensures.variant.1 (omega (arith, some, stack.terms.ok.0))

pub returns-clause-opened : goal.returns-clause-opened
returns-clause-opened g c = λ t nodes.
    let stack = c.in_ok-stack.stack in
    let popped : stack.terms.items ≡ c.pop.new.self.items ++ c.unwrap.result ∷ [] =
    c.pop.ensures.items ∙ ap (λ o. c.pop.new.self.items ++ option_to_list o) c.unwrap.ensures in
    let fit : Fit (reverse stack.needs.items) = (rw c.deref.ensures.value at c.in-None.ensures.fit) refl in
    table-opened (g.B.TermBank.store c.read_elements.new.bank) c.args.bytes.now c.args.nodes.now c.in-Some.elements.now t nodes c.in-Some.ensures.some
    stack c.in_ok-stack.ensures.stack c.pop.new.self.items c.unwrap.result popped fit
