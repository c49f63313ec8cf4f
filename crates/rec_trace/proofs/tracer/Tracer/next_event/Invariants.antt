use Rattle.std.proofs.Common.{vec_len}
use Rattle.rec_engine.specs.Engine.{SameEngine}
use Rattle.rec_trace.specs.Lists.{Stays}
use Rattle.rec_trace.proofs.StepLemmas.{SameTrace}
use Rattle.rec_trace.proofs.tracer.Tracer.next_event.Given as goal

abbrev pub invariant-turns : goal.invariant-turns
invariant-turns g l = record {
  same : SameEngine l.fn.engine l.engine;
  stays : Stays (g.B.TermBank.store l.fn.engine.bank) (g.B.TermBank.store l.engine.bank) l.fn.self.saved.list l.self.saved.list;
  trace : SameTrace l.fn.engine.spec (g.B.TermBank.store l.fn.engine.bank) (g.B.TermBank.store l.engine.bank) l.fn.self l.self;
}

abbrev pub decreases-turns : goal.decreases-turns
decreases-turns g l = vec_len l.self.row.steps
