use Rattle.std.proofs.Common.{◌≡◌, drop}
use Rattle.rec_syntax.specs.Syntax.{Rule}
use Rattle.rec_sorts.specs.Binding.{Substitution}
use Rattle.rec_sorts.specs.Evaluation.{Holds}
use Rattle.rec_engine.specs.Engine.{SameEngine}
use Rattle.rec_trace.specs.Lists.{Stays}
use Rattle.rec_trace.specs.Inner.Sides.{IsMatch}
use Rattle.rec_trace.specs.Tracing.{IsSame, on_top, stack_at}
use Rattle.rec_trace.proofs.tracer.Tracer.conditions.Given as goal

abbrev pub invariant-loop-i : goal.invariant-loop-i
invariant-loop-i g l = record {
  same : SameEngine l.fn.engine l.engine;
  stays : Stays (g.B.TermBank.store l.fn.engine.bank) (g.B.TermBank.store l.engine.bank) l.fn.self.saved.list l.self.saved.list;
  state : IsSame l.fn.engine.spec (g.B.TermBank.store l.fn.engine.bank) (g.B.TermBank.store l.engine.bank) l.fn.self l.self;
  comes : (r : Rule) (s : Substitution) → IsMatch l.fn.engine.spec l.rule (on_top (stack_at (g.B.TermBank.store l.fn.engine.bank) l.fn.self)) r s
      → Holds l.fn.engine.spec l.self.left s (drop l.i r.conditions) ≡ Holds l.fn.engine.spec l.fn.self.left s r.conditions;
}
