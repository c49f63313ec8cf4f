use Rattle.std.proofs.Common.{◌+◌, arith, refl, sym, subst}
use Rattle.rx_plain.specs.Marks.{Progress}
use Rattle.rx_plain.proofs.MarkLemmas.{Keeps-refl, Keeps-trans, OnlyLinked-refl, OnlyLinked-trans, OnlyLinked-below, LinksWithin-kept, Progress-step}
use Rattle.rx_plain.proofs.marks.pass.Goals as goal
use Rattle.rx_plain.proofs.marks.pass.Goals.{then-fresh, else-fresh}

pub loop-place-init : goal.loop-place-init
loop-place-init c = record {
  keeps = Keeps-refl c.args.slots.now;
  only = OnlyLinked-refl c.args.slots.now;
  progress = (refl, λ t lt. absurd (omega arith));
}

pub mark_below-below-requires-clause-within : goal.mark_below-below-requires-clause-within
mark_below-below-requires-clause-within c = LinksWithin-kept c.loop-place.invariant.keeps c.requires

pub loop-place-preserved : goal.loop-place-preserved
loop-place-preserved c =
    let old = c.args.slots.now in
    let now = c.loop-place.slots in
    let next = c.mark_below-below.new.slots in
    let m = c.mark_below-below.ensures.marks in
    let step = Progress-step old now next c.loop-place.place c.loop-place.fresh c.mark_below-below.result c.loop-place.invariant.progress m
    c.mark_below-below.ensures.fresh in
    record {
      keeps = Keeps-trans c.loop-place.invariant.keeps m.keeps;
      only = OnlyLinked-trans old now next c.loop-place.invariant.keeps c.loop-place.invariant.only (OnlyLinked-below now next c.loop-place.place m);
      progress = elim c.if-fresh.branch [
        | then-fresh w ↦ subst (λ b. Progress b old next (c.loop-place.place + 1)) (sym w.fresh-is) (step.0 w.if-fresh.true)
        | else-fresh w ↦ subst (λ b. Progress b old next (c.loop-place.place + 1)) (sym w.fresh-is) (step.1 w.if-fresh.false)
      ];
    }
