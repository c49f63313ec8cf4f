use Rattle.std.proofs.Common.{◌≡◌, ◌≤◌, take, vec_len}
use Rattle.rec_sorts.specs.Evaluation.{Call}
use Rattle.rec_engine.specs.Engine.{SameEngine}
use Rattle.rec_trace.specs.Lists.{Stays}
use Rattle.rec_trace.proofs.RunLemmas.{Running}
use Rattle.rec_trace.proofs.tracer.Tracer.run.Given as goal

abbrev pub invariant-steps : goal.invariant-steps
invariant-steps g l = record {
  within : l.floor ≤ vec_len l.self.row.steps;
  same : SameEngine l.fn.engine l.engine;
  stays : Stays (g.B.TermBank.store l.fn.engine.bank) (g.B.TermBank.store l.engine.bank) l.fn.self.saved.list l.self.saved.list;
  running : Running (Call l.fn.engine.spec) l.fn.engine.spec (g.B.TermBank.store l.fn.engine.bank) (g.B.TermBank.store l.engine.bank)
      l.fn.self l.self l.floor;
  below : take l.floor l.self.row.steps.items ≡ take l.floor l.fn.self.row.steps.items;
}

abbrev pub decreases-steps : goal.decreases-steps
decreases-steps g l = vec_len l.self.row.steps
