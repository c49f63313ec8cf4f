use Rattle.rec_engine.proofs.RootLemmas.{ready-protected}
use Rattle.rec_engine.proofs.engine.Engine.protect.Goals as goal

pub invariant_of-self : goal.invariant_of-self
invariant_of-self g c =
    let m = c.self.inside.machine in (
      c.self.invariant.0,
      ready-protected m.checked.spec m.code (g.B.TermBank.store m.heap.bank) (g.B.TermBank.store c.protect.new.self) m.heap.pace
          c.args.t c.protect.result c.protect.ensures c.self.invariant.1,
    )
