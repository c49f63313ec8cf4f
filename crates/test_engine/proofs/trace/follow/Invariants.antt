use Rattle.rec_engine.specs.Engine.{SameEngine}
use Rattle.rec_trace.specs.Tracing.{Stands}
use Rattle.test_engine.proofs.trace.follow.Given as goal

-- the trace can go on, of the same engine
abbrev pub invariant-loop-asked : goal.invariant-loop-asked
invariant-loop-asked g l = record {
  same : SameEngine l.fn.engine l.engine;
  stands : Stands l.fn.engine.spec (g.B.TermBank.store l.engine.bank) l.tracer;
}
