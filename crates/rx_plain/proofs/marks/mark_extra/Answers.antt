use Rattle.std.proofs.Common.{get_or, arith, subst, sym}
use Rattle.rx_term.specs.declared.Term.{Term}
use Rattle.rx_plain.specs.Marks.{Marks}
use Rattle.rx_plain.proofs.MarkLemmas.{Marks-trans, within-after, take-one}
use Rattle.rx_term.proofs.BankLemmas.{place-in}
use Rattle.rx_plain.proofs.marks.mark_extra.Goals as goal

pub mark-requires : goal.mark-requires
mark-requires c =
    let d : Term = record { 0 = 0 } in
    let t = get_or c.args.extra.now c.loop-t.t-index d in
    within-after c.loop-t.invariant t.0 (c.requires t (place-in c.args.extra.now c.loop-t.t-index d (omega arith)))

pub loop-t-preserved : goal.loop-t-preserved
loop-t-preserved c =
    let d : Term = record { 0 = 0 } in
    let e = take-one c.args.extra.now c.loop-t.t-index d (omega arith) in
    subst (Marks c.args.slots.now c.mark.new.slots) (sym e) (Marks-trans c.loop-t.invariant c.mark.ensures.marks)
