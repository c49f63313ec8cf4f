use Rattle.std.proofs.Common.{subst}
use Rattle.rx_plain.specs.Marks.{Marks}
use Rattle.rx_plain.proofs.MarkLemmas.{not-false, below-marked, body-links}
use Rattle.rx_plain.proofs.marks.mark_below.Goals as goal

pub mark_links-requires : goal.mark_links-requires
mark_links-requires c = body-links c.args.slots.now c.args.place c.slot_at-slot.result c.in-Some.body c.requires.within c.slot_at-slot.ensures c.in-Some.is

pub returns-in-Some-clause-marks : goal.returns-in-Some-clause-marks
returns-in-Some-clause-marks c = subst (Marks c.args.slots.now c.mark_links.new.slots)
    (below-marked c.args.slots.now c.args.place c.slot_at-slot.result c.in-Some.body c.slot_at-slot.ensures
    (not-false c.slot_at-slot.result.mark c.if-not-slot.false) c.in-Some.is) c.mark_links.ensures.marks
