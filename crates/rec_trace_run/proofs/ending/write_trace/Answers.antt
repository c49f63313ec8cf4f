use Rattle.std.proofs.Common.{List, ap, subst, sym, ◌∙◌}
use Rattle.std.specs.Prelude.{ℕ, ◌++◌, Err, Ok, codes}
use Rattle.rec_syntax.specs.Syntax.{Spec, Term}
use Rattle.rec_sorts.specs.Binding.{tree_of}
use Rattle.rec_engine.specs.declared.engine.Outcome.{Outcome}
use Rattle.rec_trace.specs.Lines.{joined, value_line}
use Rattle.rec_trace.specs.Trace.{Trace}
use Rattle.rec_trace_run.specs.Inner.Pages.{Breaks, Prints, WritesText}
use Rattle.rec_trace_run.specs.Inner.Telling.{EndsIn, IsTelling, IsTermOf, end_text, first_text, lines_of}
use Rattle.rec_trace_run.specs.Picks.{picks_by, shown_lines}
use Rattle.rec_trace_run.specs.Traces.{shown_by, task_text}
use Rattle.rec_trace_run.proofs.PageLemmas.{breaks-before, breaks-behind, prints-both, writes-at, writes-ok}
use Rattle.rec_trace_run.proofs.TellingLemmas.{ends-limited, task-parts, value-end}
use Rattle.rec_trace_run.proofs.ending.write_trace.Goals as goal

pub returns-in_err-write_first-clause-text : goal.returns-in_err-write_first-clause-text
returns-in_err-write_first-clause-text g c =
    let y = c.args.engine.now.spec in
    let o = c.args.telling.now.options in
    let n = o.run.steps in
    let page1 = c.write_first.new.page in
    let fault = c.in_err-write_first.field-0.0 in
    λ source task is begun notes.
    let first = first_text (shown_by o) (tree_of task.term) in
    let steps = joined (shown_lines (picks_by o.picked) (lines_of source y o task.term)) in
    let last = value_line o.run.count n task.notes (Trace y n task.term).outcome in
    writes-at g.W.Write.contents c.args.page.now page1 (task_text source y (shown_by o) n task) c.from_residual.result fault c.from_residual.ensures.1
    (subst (λ text. Breaks g.W.Write.contents c.args.page.now page1 text fault) (sym (task-parts source y (shown_by o) n task))
    (breaks-before g.W.Write.contents c.args.page.now page1 first (steps ++ last) fault (c.in_err-write_first.ensures.text task.term begun).err))

pub returns-in_err-outcome-clause-text : goal.returns-in_err-outcome-clause-text
returns-in_err-outcome-clause-text g c =
    let y = c.args.engine.now.spec in
    let o = c.args.telling.now.options in
    let n = o.run.steps in
    let page1 = c.write_first.new.page in
    let page2 = c.write_firings.new.page in
    let fault = c.in_err-outcome.field-0.0 in
    let broken = subst (λ (z : Spec). (source : List ℕ) (t : Term) → IsTelling source z c.args.telling.now → IsTermOf z c.args.beginning t
    → WritesText {T = Outcome} g.W.Write.contents page1 page2 (joined (shown_lines (picks_by o.picked) (lines_of source z o t))) (Err fault))
    c.write_first.ensures.same.spec c.in_err-outcome.ensures.text in
    λ source task is begun notes.
    let first = first_text (shown_by o) (tree_of task.term) in
    let steps = joined (shown_lines (picks_by o.picked) (lines_of source y o task.term)) in
    let last = value_line o.run.count n task.notes (Trace y n task.term).outcome in
    writes-at g.W.Write.contents c.args.page.now page2 (task_text source y (shown_by o) n task) c.from_residual-in_err-outcome.result fault
    c.from_residual-in_err-outcome.ensures.1
    (subst (λ text. Breaks g.W.Write.contents c.args.page.now page2 text fault) (sym (task-parts source y (shown_by o) n task))
    (breaks-behind g.W.Write.contents c.args.page.now page1 page2 first (steps ++ last) fault (c.in_ok-write_first.ensures.text task.term begun).ok
    (breaks-before g.W.Write.contents page1 page2 steps last fault (broken source task.term is begun).err)))

pub returns-in_err-write_end-clause-text : goal.returns-in_err-write_end-clause-text
returns-in_err-write_end-clause-text g c =
    let y = c.args.engine.now.spec in
    let o = c.args.telling.now.options in
    let n = o.run.steps in
    let page1 = c.write_first.new.page in
    let page2 = c.write_firings.new.page in
    let page3 = c.write_end.new.page in
    let fault = c.in_err-write_end.field-0.0 in
    let written = subst (λ (z : Spec). (source : List ℕ) (t : Term) → IsTelling source z c.args.telling.now → IsTermOf z c.args.beginning t
    → WritesText {T = Outcome} g.W.Write.contents page1 page2 (joined (shown_lines (picks_by o.picked) (lines_of source z o t))) (Ok c.in_ok-outcome.outcome))
    c.write_first.ensures.same.spec c.in_ok-outcome.ensures.text in
    let ends = subst (λ (z : Spec). (t : Term) → IsTermOf z c.args.beginning t
    → EndsIn z (g.B.TermBank.store c.write_firings.new.engine.bank) n t c.in_ok-outcome.outcome) c.write_first.ensures.same.spec c.in_ok-outcome.ensures.end in
    λ source task is begun notes.
    let first = first_text (shown_by o) (tree_of task.term) in
    let steps = joined (shown_lines (picks_by o.picked) (lines_of source y o task.term)) in
    let last = value_line o.run.count n task.notes (Trace y n task.term).outcome in
    let end = ap (λ b. end_text (g.B.TermBank.store b) o.run.count n c.args.notes.now c.in_ok-outcome.outcome ++ codes "\n") c.bank.ensures
    ∙ value-end y (g.B.TermBank.store c.write_firings.new.engine.bank) o.run.count n task c.args.notes.now c.in_ok-outcome.outcome (ends task.term begun) notes in
    writes-at g.W.Write.contents c.args.page.now page3 (task_text source y (shown_by o) n task) c.from_residual-in_err-write_end.result fault
    c.from_residual-in_err-write_end.ensures.1
    (subst (λ text. Breaks g.W.Write.contents c.args.page.now page3 text fault) (sym (task-parts source y (shown_by o) n task))
    (breaks-behind g.W.Write.contents c.args.page.now page1 page3 first (steps ++ last) fault (c.in_ok-write_first.ensures.text task.term begun).ok
    (breaks-behind g.W.Write.contents page1 page2 page3 steps last fault (written source task.term is begun).ok
    (subst (λ text. Breaks g.W.Write.contents page2 page3 text fault) end c.in_err-write_end.ensures.err))))

pub returns-clause-text : goal.returns-clause-text
returns-clause-text g c =
    let y = c.args.engine.now.spec in
    let o = c.args.telling.now.options in
    let n = o.run.steps in
    let page1 = c.write_first.new.page in
    let page2 = c.write_firings.new.page in
    let page3 = c.write_end.new.page in
    let written = subst (λ (z : Spec). (source : List ℕ) (t : Term) → IsTelling source z c.args.telling.now → IsTermOf z c.args.beginning t
    → WritesText {T = Outcome} g.W.Write.contents page1 page2 (joined (shown_lines (picks_by o.picked) (lines_of source z o t))) (Ok c.in_ok-outcome.outcome))
    c.write_first.ensures.same.spec c.in_ok-outcome.ensures.text in
    let ends = subst (λ (z : Spec). (t : Term) → IsTermOf z c.args.beginning t
    → EndsIn z (g.B.TermBank.store c.write_firings.new.engine.bank) n t c.in_ok-outcome.outcome) c.write_first.ensures.same.spec c.in_ok-outcome.ensures.end in
    λ source task is begun notes.
    let first = first_text (shown_by o) (tree_of task.term) in
    let steps = joined (shown_lines (picks_by o.picked) (lines_of source y o task.term)) in
    let last = value_line o.run.count n task.notes (Trace y n task.term).outcome in
    let end = ap (λ b. end_text (g.B.TermBank.store b) o.run.count n c.args.notes.now c.in_ok-outcome.outcome ++ codes "\n") c.bank.ensures
    ∙ value-end y (g.B.TermBank.store c.write_firings.new.engine.bank) o.run.count n task c.args.notes.now c.in_ok-outcome.outcome (ends task.term begun) notes in
    writes-ok g.W.Write.contents c.args.page.now page3 (task_text source y (shown_by o) n task) c.is_limit.result
    (subst (λ text. Prints g.W.Write.contents c.args.page.now page3 text) (sym (task-parts source y (shown_by o) n task))
    (prints-both g.W.Write.contents c.args.page.now page1 page3 first (steps ++ last) (c.in_ok-write_first.ensures.text task.term begun).ok
    (prints-both g.W.Write.contents page1 page2 page3 steps last (written source task.term is begun).ok
    (subst (λ text. Prints g.W.Write.contents page2 page3 text) end c.in_ok-write_end.ensures.ok))))

pub returns-clause-limit : goal.returns-clause-limit
returns-clause-limit g c =
    let y = c.args.engine.now.spec in
    let o = c.args.telling.now.options in
    let n = o.run.steps in
    let ends = subst (λ (z : Spec). (t : Term) → IsTermOf z c.args.beginning t
    → EndsIn z (g.B.TermBank.store c.write_firings.new.engine.bank) n t c.in_ok-outcome.outcome) c.write_first.ensures.same.spec c.in_ok-outcome.ensures.end in
    λ task begun. c.is_limit.ensures
    ∙ ends-limited y (g.B.TermBank.store c.write_firings.new.engine.bank) n task c.in_ok-outcome.outcome (ends task.term begun)
