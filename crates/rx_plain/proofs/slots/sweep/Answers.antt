use Rattle.std.proofs.Common.{arith}
use Rattle.rx_plain.specs.Slots.{swept_of}
use Rattle.rx_plain.proofs.SweepLemmas.{rewrite-turn}
use Rattle.rx_plain.proofs.slots.sweep.Goals as goal

pub loop-i-preserved : goal.loop-i-preserved
loop-i-preserved c =
    let len = c.loop-i.auto.slots in
    rewrite-turn swept_of c.args.slots.now c.loop-i.slots c.loop-i.i c.sweep_slot-slot.result _ c.loop-i.invariant (let h = c.loop-i-test.true in
    omega arith) c.sweep_slot-slot.ensures
