use Rattle.std.proofs.Common.{◌≤◌, subst, sym}
use Rattle.rec_syntax.specs.Syntax.{Spec}
use Rattle.rec_trace.specs.Tracing.{HasFiredAt, Stands}
use Rattle.rec_trace_run.specs.Inner.Telling.{HasTold, IsTelling}
use Rattle.rec_trace_run.proofs.StepLemmas.{event-fired, fired-left, fired-stands, told-part, value-left}
use Rattle.rec_trace_run.proofs.next.next_part.Goals as goal

pub overflow_sub-steps : goal.overflow_sub-steps
overflow_sub-steps g c =
    subst (λ k. k ≤ c.args.telling.now.options.run.steps) (sym c.left.ensures)
    (value-left c.args.engine.now.spec (g.B.TermBank.store c.args.engine.now.bank) (g.B.TermBank.store c.next_event.new.engine.bank) c.args.tracer.now
    c.next_event.new.self c.in_ok-next_event.field-0 c.in-Value.term c.args.telling.now.options.run.steps c.in-Value.is
    c.in_ok-next_event.ensures.event c.requires.within)

pub next_line-requires-clause-fired : goal.next_line-requires-clause-fired
next_line-requires-clause-fired g c =
    let w = g.B.TermBank.store c.args.engine.now.bank in
    let w' = g.B.TermBank.store c.next_event.new.engine.bank in
    let f = event-fired c.args.engine.now.spec w w' c.args.tracer.now c.next_event.new.self c.in_ok-next_event.field-0 c.in-Fired.rule c.in-Fired.redex
    c.in-Fired.is c.in_ok-next_event.ensures.event in (
      w,
      c.args.tracer.now,
      subst (λ (z : Spec). HasFiredAt z w w' c.args.tracer.now c.next_event.new.self c.in-Fired.rule c.in-Fired.redex)
          (sym c.next_event.ensures.same.spec) f,
    )

pub next_line-requires-clause-stands : goal.next_line-requires-clause-stands
next_line-requires-clause-stands g c =
    let w' = g.B.TermBank.store c.next_event.new.engine.bank in
    subst (λ (z : Spec). Stands z w' c.next_event.new.self) (sym c.next_event.ensures.same.spec)
    (fired-stands c.args.engine.now.spec w' c.next_event.new.self c.in_ok-next_event.field-0 c.in-Fired.rule c.in-Fired.redex
    c.in-Fired.is c.in_ok-next_event.ensures.stands)

pub next_line-requires-clause-left : goal.next_line-requires-clause-left
next_line-requires-clause-left g c =
    let y = c.args.engine.now.spec in
    let w = g.B.TermBank.store c.args.engine.now.bank in
    let w' = g.B.TermBank.store c.next_event.new.engine.bank in
    let f = event-fired y w w' c.args.tracer.now c.next_event.new.self c.in_ok-next_event.field-0 c.in-Fired.rule c.in-Fired.redex
    c.in-Fired.is c.in_ok-next_event.ensures.event in
    (fired-left y w w' c.args.tracer.now c.next_event.new.self c.in-Fired.rule c.in-Fired.redex
    c.args.telling.now.options.run.steps f c.requires.within).0

pub next_line-requires-clause-telling : goal.next_line-requires-clause-telling
next_line-requires-clause-telling g c = (
  c.requires.telling.0,
  subst (λ (z : Spec). IsTelling c.requires.telling.0 z c.args.telling.now) (sym c.next_event.ensures.same.spec) c.requires.telling.1,
)

pub returns-in_ok-line-in-Fired-clause-part : goal.returns-in_ok-line-in-Fired-clause-part
returns-in_ok-line-in-Fired-clause-part g c =
    let w = g.B.TermBank.store c.args.engine.now.bank in
    let w' = g.B.TermBank.store c.next_event.new.engine.bank in
    let w2 = g.B.TermBank.store c.next_line.new.engine.bank in
    let old = c.args.tracer.now in
    let new = c.next_event.new.self in
    let telling = c.args.telling.now in
    let same = c.next_event.ensures.same.spec in
    let line = c.in_ok-line-in-Fired.line in
    let f = subst (λ (z : Spec). HasFiredAt z w w' old new c.in-Fired.rule c.in-Fired.redex) (sym same)
    (event-fired c.args.engine.now.spec w w' old new c.in_ok-next_event.field-0 c.in-Fired.rule c.in-Fired.redex
    c.in-Fired.is c.in_ok-next_event.ensures.event) in
    let told = told-part c.next_event.new.engine.spec w w' w2 old new c.next_line.new.tracer telling c.args.section.now c.next_line.new.section line
    c.in-Fired.rule c.in-Fired.redex f c.in_ok-line-in-Fired.ensures.rest c.in_ok-line-in-Fired.ensures.stands c.next_line.ensures.bounds
    (λ source before is seen. c.in_ok-line-in-Fired.ensures.line source w old before is seen f) in
    subst (λ (z : Spec). HasTold z w w2 old c.next_line.new.tracer telling c.args.section.now c.next_line.new.section line) same told
