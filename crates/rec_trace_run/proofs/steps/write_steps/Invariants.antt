use Rattle.std.proofs.Common.{◌≡◌, length}
use Rattle.rx_text.specs.Output.{IsSameOutput}
use Rattle.rec_engine.specs.Engine.{SameEngine}
use Rattle.rec_trace.specs.Tracing.{Stands, rest_of}
use Rattle.rec_trace_run.specs.Inner.Pages.{IsSamePage}
use Rattle.rec_trace_run.specs.Inner.Telling.{IsWithin}
use Rattle.rec_trace_run.proofs.StepLemmas.{SoFar}
use Rattle.rec_trace_run.proofs.steps.write_steps.Given as goal

-- the firings so far were told, and the rest of the trace is left
abbrev pub invariant-turns : goal.invariant-turns
invariant-turns g l = record {
  same : SameEngine l.fn.engine l.engine;
  stands : Stands l.fn.engine.spec (g.B.TermBank.store l.engine.bank) l.tracer;
  within : IsWithin l.telling.options.run.steps (rest_of l.fn.engine.spec (g.B.TermBank.store l.engine.bank) l.tracer);
  so_far : SoFar g.W.Write.contents l.fn.engine.spec (rest_of l.fn.engine.spec (g.B.TermBank.store l.fn.engine.bank) l.fn.tracer)
      (rest_of l.fn.engine.spec (g.B.TermBank.store l.engine.bank) l.tracer) l.telling l.fn.section l.section l.fn.page l.page;
  refused : l.page.out.now.refused ≡ l.fn.page.out.now.refused;
  same_output : IsSameOutput l.fn.page.out.now l.page.out.now;
  same_page : IsSamePage l.fn.page l.page;
}

abbrev pub decreases-turns : goal.decreases-turns
decreases-turns g l = length (rest_of l.fn.engine.spec (g.B.TermBank.store l.engine.bank) l.tracer).firings
