use Rattle.rec_engine.proofs.RootLemmas.{ready-counted}
use Rattle.rec_engine.proofs.engine.Engine.unprotect.Goals as goal

pub invariant_of-self : goal.invariant_of-self
invariant_of-self g c =
    let m = c.self.inside.machine in (
      c.self.invariant.0,
      ready-counted m.checked.spec m.code (g.B.TermBank.store m.heap.bank) (g.B.TermBank.store c.unprotect.new.self) m.heap.pace
          c.args.t _ c.unprotect.ensures c.self.invariant.1,
    )
