use Rattle.std.proofs.Common.{◌≤◌, arith, length}
use Rattle.rx_plain.specs.Inner.Soundness.{taken-le}
use Rattle.rx_plain.proofs.bank.PlainBankTermBank.spare.Goals as goal
use Rattle.rx_plain.proofs.bank.PlainBankTermBank.spare.Goals.{then-room-self, else-room-self}

pub overflow_sub-result : goal.overflow_sub-result
overflow_sub-result c =
    let b = c.args.self.now in
    let p = taken-le b in
    let q : length b.slots.items ≤ b.cap = b.bounded in
    let r = b.slots.ok in
    let s = c.capacity-room.ensures in
    elim c.if-room-self.branch [ then-room-self w ↦ omega arith | else-room-self w ↦ omega arith ]
