use Rattle.rec_engine.proofs.KnownConstantLemmas.{known-reclaimed}
use Rattle.rec_engine.proofs.heap.pace.Pace.reclaim.Goals as goal

pub returns-clause-known : goal.returns-clause-known
returns-clause-known g c = known-reclaimed (g.B.TermBank.store c.args.bank.now) (g.B.TermBank.store c.reclaim.new.self) c.args.kept.now
    c.args.self.now _ c.reclaim.ensures c.clear.ensures c.retain_held.ensures.retains
