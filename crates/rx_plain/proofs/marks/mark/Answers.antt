use Rattle.std.proofs.Common.{arith, refl, get_or, None, false, true}
use Rattle.rx_plain.specs.declared.slots.Slot.{Slot}
use Rattle.rx_plain.proofs.MarkLemmas.{one-fewer}
use Rattle.rx_plain.proofs.marks.mark.Goals as goal

pub returns-clause-fresh : goal.returns-clause-fresh
returns-clause-fresh c =
    let d : Slot = record { body = None; roots = 0; mark = false } in
    let s = get_or c.args.slots.now c.args.t.0 d in
    let y : Slot = record { body = s.body; roots = s.roots; mark = true } in
    let e = one-fewer c.args.slots.now c.args.t.0 d y c.requires c.if-slot.false refl in
    omega (arith, e)
