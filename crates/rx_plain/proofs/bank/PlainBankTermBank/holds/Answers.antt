use Rattle.std.proofs.Common.{is_some, sym, ap, ◌∙◌}
use Rattle.std.proofs.lemmas.Option.{slice_get_past}
use Rattle.rx_plain.specs.Slots.{heap_of, cell_at}
use Rattle.rx_plain.specs.Inner.Soundness.{cell-held}
use Rattle.rx_plain.proofs.ReadingLemmas.{cell-there, read-cell}
use Rattle.rx_plain.proofs.bank.PlainBankTermBank.holds.Goals as goal

pub returns-in-Some : goal.returns-in-Some
returns-in-Some c =
    let b = c.args.self.now in
    let xs = c.deref.result.now in
    let same = c.deref.ensures.value in
    let read = read-cell xs c.args.t.0 c.in-Some.slot.now c.in-Some.ensures.lookup.3.0 c.in-Some.ensures.lookup.1 in
    c.is_some.ensures ∙ sym (cell-there c.in-Some.slot.now.body) ∙ ap is_some (sym read) ∙ ap (λ ys. is_some (heap_of ys c.args.t.0)) same
    ∙ sym (cell-held b c.args.t.0)

pub returns-in-None : goal.returns-in-None
returns-in-None c =
    let b = c.args.self.now in
    let xs = c.deref.result.now in
    let past = ap cell_at (slice_get_past xs c.args.t.0 c.in-None.ensures.lookup.3) in
    ap is_some (sym past) ∙ ap (λ ys. is_some (heap_of ys c.args.t.0)) c.deref.ensures.value ∙ sym (cell-held b c.args.t.0)
