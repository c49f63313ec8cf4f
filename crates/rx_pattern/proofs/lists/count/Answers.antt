use Rattle.std.proofs.Common.{arith}
use Rattle.rx_pattern.proofs.TailLemmas.{count-cells}
use Rattle.rx_pattern.proofs.lists.count.Goals as goal

pub returns : goal.returns
returns g c = λ ts e.
    let lt = count-cells (g.B.TermBank.store c.args.bank.now) (g.met.B.TermBank.sound c.args.bank.now) ts c.args.list e in
    let i = (c.loop-counted.invariant ts e).2 in
    absurd (omega (arith, lt, i))
