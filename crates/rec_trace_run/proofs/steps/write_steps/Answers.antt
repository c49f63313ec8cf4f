use Rattle.std.proofs.Common.{◌≡◌, ◌∙◌, [], ap, refl, subst}
use Rattle.std.specs.Prelude.{Err}
use Rattle.rec_syntax.specs.Syntax.{Spec}
use Rattle.rec_engine.specs.declared.engine.Outcome.{Outcome}
use Rattle.rec_trace.proofs.ListLemmas.{same_both}
use Rattle.rec_trace.specs.Tracing.{rest_of}
use Rattle.rec_trace_run.specs.Inner.Telling.{HasTold, IsEnd, IsPart, section_lines}
use Rattle.rec_trace_run.specs.declared.section.Section.{Section}
use Rattle.rec_trace_run.specs.Traces.{picked_lines, shown_by}
use Rattle.rec_trace.specs.Lines.{joined}
use Rattle.rec_trace_run.proofs.PageLemmas.{breaks-after, engine-trace, fault-trace, trace-on, writes-at, writes-err, writes-ok}
use Rattle.rec_trace_run.proofs.StepLemmas.{so-far-all, so-far-breaks, so-far-more, so-far-none, so-far-seen, so-far-stops}
use Rattle.rec_trace_run.proofs.TellingLemmas.{within-next}
use Rattle.rec_trace_run.proofs.steps.write_steps.Goals as goal

pub turns-init : goal.turns-init
turns-init g c = record {
  same = record { spec = refl; options = refl };
  stands = c.requires.stands;
  within = c.requires.within;
  so_far = so-far-none g.W.Write.contents c.args.engine.now.spec c.args.telling.now
      (rest_of c.args.engine.now.spec (g.B.TermBank.store c.args.engine.now.bank) c.args.tracer.now) c.args.section.now c.args.page.now c.requires.none;
  refused = refl;
  same_output = refl;
  same_page = refl;
}

pub turns-preserved : goal.turns-preserved
turns-preserved g c =
    let y = c.args.engine.now.spec in
    let w = g.B.TermBank.store c.turns.engine.bank in
    let w' = g.B.TermBank.store c.next_part.new.engine.bank in
    let telling = c.args.telling.now in
    let i = c.turns.invariant in
    let old = c.turns.tracer in
    let new = c.next_part.new.tracer in
    let line = c.in-Ok-Rewrite.line in
    let part = subst (IsPart c.turns.engine.spec w w' old new telling c.turns.section c.next_part.new.section) c.in-Ok-Rewrite.field-0-is
    c.in-Ok-Rewrite.ensures.part in
    let h = subst (λ (z : Spec). HasTold z w w' old new telling c.turns.section c.next_part.new.section line) i.same.spec part in
    record {
      same = same_both i.same c.next_part.ensures.same;
      stands = h.stands;
      within = (within-next telling.options.run.steps h.firing (rest_of y w' new) (rest_of y w old) h.next i.within).1;
      so_far = so-far-more g.W.Write.contents y telling (rest_of y (g.B.TermBank.store c.args.engine.now.bank) c.args.tracer.now)
          c.args.section.now c.args.page.now (rest_of y w old) (rest_of y w' new) h.firing c.turns.section c.next_part.new.section line
          c.turns.page c.print_some.new.page i.so_far h.next h.told h.bounds c.in_ok-print_some-in-Ok-Rewrite.ensures.ok;
      refused = c.in_ok-print_some-in-Ok-Rewrite.ensures.reports.0.1 ∙ i.refused;
      same_output = c.in_ok-print_some-in-Ok-Rewrite.ensures.reports.0.0 ∙ i.same_output;
      same_page = c.in_ok-print_some-in-Ok-Rewrite.ensures.reports.2 ∙ i.same_page;
    }

pub returns-in_err-print_some-in-Ok-Rewrite-clause-text : goal.returns-in_err-print_some-in-Ok-Rewrite-clause-text
returns-in_err-print_some-in-Ok-Rewrite-clause-text g c =
    let y = c.args.engine.now.spec in
    let w = g.B.TermBank.store c.turns.engine.bank in
    let w' = g.B.TermBank.store c.next_part.new.engine.bank in
    let telling = c.args.telling.now in
    let i = c.turns.invariant in
    let old = c.turns.tracer in
    let new = c.next_part.new.tracer in
    let line = c.in-Ok-Rewrite.line in
    let first = rest_of y (g.B.TermBank.store c.args.engine.now.bank) c.args.tracer.now in
    let fault = c.in_err-print_some-in-Ok-Rewrite.field-0.0 in
    let part = subst (IsPart c.turns.engine.spec w w' old new telling c.turns.section c.next_part.new.section) c.in-Ok-Rewrite.field-0-is
    c.in-Ok-Rewrite.ensures.part in
    let h = subst (λ (z : Spec). HasTold z w w' old new telling c.turns.section c.next_part.new.section line) i.same.spec part in
    λ source is. writes-at g.W.Write.contents c.args.page.now c.print_some.new.page
    (joined (section_lines c.args.section.now (picked_lines source (shown_by telling.options) telling.options.run.steps first.firings)))
    c.from_residual.result fault c.from_residual.ensures.1
    (so-far-breaks g.W.Write.contents y telling first c.args.section.now c.args.page.now (rest_of y w old) (rest_of y w' new) h.firing c.turns.section
    c.next_part.new.section line c.turns.page c.print_some.new.page i.so_far h.next h.told fault c.in_err-print_some-in-Ok-Rewrite.ensures.err source is)

pub returns-in_err-print_some-in-Ok-Rewrite-clause-reports : goal.returns-in_err-print_some-in-Ok-Rewrite-clause-reports
returns-in_err-print_some-in-Ok-Rewrite-clause-reports g c =
    let e = c.next_part.new.engine in
    let i = c.turns.invariant in
    fault-trace (g.B.TermBank.store e.bank) e.memo c.args.page.now c.print_some.new.page c.turns.page c.from_residual.result
    c.in_err-print_some-in-Ok-Rewrite.field-0.0 c.from_residual.ensures.1
    (record { output = i.same_output; refused = i.refused; page = i.same_page }) c.in_err-print_some-in-Ok-Rewrite.ensures.reports

pub returns-in-Err-clause-text : goal.returns-in-Err-clause-text
returns-in-Err-clause-text g c =
    let y = c.args.engine.now.spec in
    let w = g.B.TermBank.store c.turns.engine.bank in
    let i = c.turns.invariant in
    let telling = c.args.telling.now in
    let fault = c.engine_fault.result in
    let first = rest_of y (g.B.TermBank.store c.args.engine.now.bank) c.args.tracer.now in
    λ source is. writes-err g.W.Write.contents c.args.page.now c.turns.page
    (joined (section_lines c.args.section.now (picked_lines source (shown_by telling.options) telling.options.run.steps first.firings))) fault
    (so-far-stops g.W.Write.contents y telling first c.args.section.now c.args.page.now (rest_of y w c.turns.tracer) c.turns.section c.turns.page i.so_far
    fault (λ text. breaks-after g.W.Write.contents c.turns.page text c.in-Err.fault fault c.engine_fault.ensures) source is)

pub returns-in-Err-clause-reports : goal.returns-in-Err-clause-reports
returns-in-Err-clause-reports g c =
    let e = c.next_part.new.engine in
    let i = c.turns.invariant in
    trace-on (g.B.TermBank.store e.bank) e.memo c.args.page.now c.turns.page {T = Outcome} c.turns.page (Err c.engine_fault.result) c.engine_fault.result
    refl (record { output = i.same_output; refused = i.refused; page = i.same_page })
    (engine-trace c.turns.page (g.B.TermBank.store e.bank) e.memo c.in-Err.fault _ c.engine_fault.result c.in-Err.ensures.room c.engine_fault.ensures)

pub returns-in-Ok-End-clause-seen : goal.returns-in-Ok-End-clause-seen
returns-in-Ok-End-clause-seen g c =
    let y = c.args.engine.now.spec in
    let w = g.B.TermBank.store c.turns.engine.bank in
    let w' = g.B.TermBank.store c.next_part.new.engine.bank in
    let telling = c.args.telling.now in
    let i = c.turns.invariant in
    let first = rest_of y (g.B.TermBank.store c.args.engine.now.bank) c.args.tracer.now in
    let part = subst (IsPart c.turns.engine.spec w w' c.turns.tracer c.next_part.new.tracer telling c.turns.section c.next_part.new.section)
    c.in-Ok-End.field-0-is c.in-Ok-End.ensures.part in
    let none = subst (λ (z : Spec). (rest_of z w c.turns.tracer).firings ≡ []) i.same.spec part.1 in
    λ source is. ap (λ (s : Section). s.seen) part.0
    ∙ so-far-seen g.W.Write.contents y telling first c.args.section.now c.args.page.now (rest_of y w c.turns.tracer) c.turns.section c.turns.page i.so_far
    none source is

pub returns-in-Ok-End-clause-text : goal.returns-in-Ok-End-clause-text
returns-in-Ok-End-clause-text g c =
    let y = c.args.engine.now.spec in
    let w = g.B.TermBank.store c.turns.engine.bank in
    let w' = g.B.TermBank.store c.next_part.new.engine.bank in
    let telling = c.args.telling.now in
    let i = c.turns.invariant in
    let first = rest_of y (g.B.TermBank.store c.args.engine.now.bank) c.args.tracer.now in
    let part = subst (IsPart c.turns.engine.spec w w' c.turns.tracer c.next_part.new.tracer telling c.turns.section c.next_part.new.section)
    c.in-Ok-End.field-0-is c.in-Ok-End.ensures.part in
    let none = subst (λ (z : Spec). (rest_of z w c.turns.tracer).firings ≡ []) i.same.spec part.1 in
    λ source is. writes-ok g.W.Write.contents c.args.page.now c.turns.page
    (joined (section_lines c.args.section.now (picked_lines source (shown_by telling.options) telling.options.run.steps first.firings))) c.in-Ok-End.outcome
    (so-far-all g.W.Write.contents y telling first c.args.section.now c.args.page.now (rest_of y w c.turns.tracer) c.turns.section c.turns.page i.so_far
    none source is)

pub returns-in-Ok-End-clause-end : goal.returns-in-Ok-End-clause-end
returns-in-Ok-End-clause-end g c =
    let w = g.B.TermBank.store c.turns.engine.bank in
    let w' = g.B.TermBank.store c.next_part.new.engine.bank in
    let telling = c.args.telling.now in
    let n = telling.options.run.steps in
    let i = c.turns.invariant in
    let outcome = c.in-Ok-End.outcome in
    let part = subst (IsPart c.turns.engine.spec w w' c.turns.tracer c.next_part.new.tracer telling c.turns.section c.next_part.new.section)
    c.in-Ok-End.field-0-is c.in-Ok-End.ensures.part in
    subst (λ o. IsEnd w' n o outcome) i.so_far.outcome
    (subst (λ (z : Spec). IsEnd w' n (rest_of z w c.turns.tracer).outcome outcome) i.same.spec part.2)
