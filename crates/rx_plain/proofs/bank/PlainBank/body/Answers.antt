use Rattle.std.proofs.Common.{◌≡◌, Some, is_some, sym, ap, ◌∙◌}
use Rattle.rx_plain.specs.Slots.{heap_of, cell_of, cell_in}
use Rattle.rx_plain.proofs.ReadingLemmas.{held-cell, held-within, held-index, read-cell, body-there}
use Rattle.rx_plain.proofs.bank.PlainBank.body.Goals as goal

pub index-requires : goal.index-requires
index-requires c = held-index c.args.self.now c.args.t c.requires

pub unwrap-requires : goal.unwrap-requires
unwrap-requires c =
    let b = c.args.self.now in
    let x = held-cell b c.args.t.0 c.requires in
    let read = read-cell b.slots.items c.args.t.0 c.index.result.now (held-within b c.args.t c.requires) c.index.ensures in
    body-there c.index.result.now.body (ap is_some (sym read ∙ x.1))

pub returns-clause-holds : goal.returns-clause-holds
returns-clause-holds c =
    let b = c.args.self.now in
    read-cell b.slots.items c.args.t.0 c.index.result.now (held-within b c.args.t c.requires) c.index.ensures ∙ ap cell_in c.unwrap.ensures

pub returns-clause-tree : goal.returns-clause-tree
returns-clause-tree c =
    let b = c.args.self.now in
    let x = held-cell b c.args.t.0 c.requires in
    let holds : heap_of b.slots.items c.args.t.0 ≡ Some (cell_of c.unwrap.result) =
    read-cell b.slots.items c.args.t.0 c.index.result.now (held-within b c.args.t c.requires) c.index.ensures ∙ ap cell_in c.unwrap.ensures in
    let same : x.0 ≡ cell_of c.unwrap.result = cc in
    rw same at x.2
