use Rattle.std.proofs.Common.{arith}
use Rattle.rx_plain.specs.Marks.{root_marked}
use Rattle.rx_plain.proofs.SweepLemmas.{rewrite-turn}
use Rattle.rx_plain.proofs.marks.mark_roots.Goals as goal

pub loop-place-preserved : goal.loop-place-preserved
loop-place-preserved c =
    let len = c.loop-place.auto.slots in
    rewrite-turn root_marked c.args.slots.now c.loop-place.slots c.loop-place.place c.mark_if_rooted-slot.result _ c.loop-place.invariant (let h =
    c.loop-place-test.true in omega arith) c.mark_if_rooted-slot.ensures
