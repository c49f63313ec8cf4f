use Rattle.std.proofs.Common.{◌≡◌, ◌-◌, drop, length}
use Rattle.rec_sorts.specs.Evaluation.{Eval, first_rule}
use Rattle.rec_engine.specs.Engine.{SameEngine}
use Rattle.rec_trace.specs.Lists.{Stays}
use Rattle.rec_trace.specs.Tracing.{IsSame, on_top, stack_at}
use Rattle.rec_trace.proofs.tracer.Tracer.find.Given as goal

abbrev pub invariant-rules : goal.invariant-rules
invariant-rules g l = record {
  same : SameEngine l.fn.engine l.engine;
  stays : Stays (g.B.TermBank.store l.fn.engine.bank) (g.B.TermBank.store l.engine.bank) l.fn.self.saved.list l.self.saved.list;
  state : IsSame l.fn.engine.spec (g.B.TermBank.store l.fn.engine.bank) (g.B.TermBank.store l.engine.bank) l.fn.self l.self;
  comes : (let y = l.fn.engine.spec in let u = on_top (stack_at (g.B.TermBank.store l.fn.engine.bank) l.fn.self) in
      first_rule y (Eval y) (drop l.from y.rules) l.self.left u ≡ first_rule y (Eval y) y.rules l.fn.self.left u);
}

abbrev pub decreases-rules : goal.decreases-rules
decreases-rules g l = length l.fn.engine.spec.rules - l.from
