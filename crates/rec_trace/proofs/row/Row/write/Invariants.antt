use Rattle.std.proofs.Common.{[], vec_len}
use Rattle.rx_term.specs.Steps.{Keeps}
use Rattle.rec_engine.specs.Engine.{SameEngine}
use Rattle.rec_trace.proofs.WholeLemmas.{Writing}
use Rattle.rec_trace.proofs.row.Row.write.Given as goal

abbrev pub invariant-steps : goal.invariant-steps
invariant-steps g l = record {
  same : SameEngine l.fn.engine l.engine;
  keeps : Keeps (g.B.TermBank.store l.fn.engine.bank) (g.B.TermBank.store l.engine.bank) [];
  writing : Writing l.fn.engine.spec (g.B.TermBank.store l.fn.engine.bank) (g.B.TermBank.store l.engine.bank) l.fn.self l.self;
}

abbrev pub decreases-steps : goal.decreases-steps
decreases-steps g l = vec_len l.self.steps
