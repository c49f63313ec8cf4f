use Rattle.std.proofs.Common.{subst, sym}
use Rattle.rec_syntax.specs.Syntax.{Spec}
use Rattle.rec_trace.specs.Tracing.{rest_of}
use Rattle.rec_trace_run.specs.Inner.Telling.{IsWithin}
use Rattle.rec_trace_run.proofs.BeginLemmas.{begun-within}
use Rattle.rec_trace_run.proofs.firings.write_section.Goals as goal

pub write_steps-requires-clause-within : goal.write_steps-requires-clause-within
write_steps-requires-clause-within g c =
    let y = c.args.engine.now.spec in
    let w = g.B.TermBank.store c.tracer.new.engine.bank in
    let n = c.args.telling.now.options.run.steps in
    let t = c.requires.beginning.0 in
    subst (λ (z : Spec). IsWithin n (rest_of z w c.in-Ok.tracer)) (sym c.tracer.ensures.same.spec)
    (begun-within y w n c.in-Ok.tracer t (c.in-Ok.ensures.begins t c.requires.beginning.1))
