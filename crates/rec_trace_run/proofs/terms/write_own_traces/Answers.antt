use Rattle.std.proofs.Common.{[], ◌≡◌, ◌+◌, ◌-◌, ◌<◌, ◌≤◌, Bool, List, ap, arith, length, refl, subst, sym, take, ◌∙◌}
use Rattle.std.specs.Prelude.{ℕ, Err, Ok, count_by, flat_map}
use Rattle.rx_term.specs.Tree.{none}
use Rattle.rec_syntax.specs.Syntax.{Apply, Spec, Term, nameless}
use Rattle.rec_syntax.specs.Syntax as syntax
use Rattle.rx_run.proofs.ErrorLemmas.{if_err_at}
use Rattle.rec_trace.proofs.ListLemmas.{same_both}
use Rattle.rec_trace_run.specs.Inner.Pages.{Breaks, Prints, WritesText}
use Rattle.rec_trace_run.specs.Inner.Telling.{IsTelling, IsTermOf}
use Rattle.rec_trace_run.specs.declared.beginning.Beginning.TheVariants.{Eval}
use Rattle.rec_run.specs.Choice.{own_chosen}
use Rattle.rec_run.specs.Output.{Task, is_limited, notes_text}
use Rattle.rec_run.proofs.ChoiceLemmas.{own-at, own-length}
use Rattle.rec_run.proofs.LimitLineLemmas.{count-all, count-more, counts-own, one-line}
use Rattle.rec_run.specs.Reading.{own_task, term_at}
use Rattle.rec_run.specs.declared.options.ValueForm.TheVariants.{Plain}
use Rattle.rec_trace_run.specs.Traces.{shown_by, task_text}
use Rattle.rec_trace_run.proofs.TaskLemmas.{breaks-within, prints-all, prints-more, traces-own}
use Rattle.rec_trace_run.proofs.terms.write_own_traces.Goals as goal

pub write_trace-requires-clause-beginning : goal.write_trace-requires-clause-beginning
write_trace-requires-clause-beginning g c =
    let own : c.loop-i.i < length c.args.engine.now.spec.terms = omega (arith, c.eval_terms.ensures, c.window_of-window.ensures.within) in (
      term_at c.loop-i.engine.spec c.loop-i.i,
      (subst (λ (z : Spec). c.loop-i.i < length z.terms) (sym c.loop-i.invariant.same.spec) own, refl),
    )

pub returns-in_err-limited-clause-err : goal.returns-in_err-limited-clause-err
returns-in_err-limited-clause-err g c =
    let y = c.args.engine.now.spec in
    let telling = c.args.telling.now in
    let shown = shown_by telling.options in
    let n = telling.options.run.steps in
    let i = c.loop-i.invariant in
    let fault = c.in_err-limited.field-0.0 in
    let terms = telling.options.terms in
    let ts = own_chosen terms y.terms in
    let w = c.window_of-window.result in
    let j : ℕ = c.loop-i.i - w.from in
    let d : Term = Apply nameless syntax.none in
    let long = own-length terms y.terms c.eval_terms.result 0 w c.eval_terms.ensures c.window_of-window.ensures in
    let low : j < length ts = omega (arith, long) in
    let here = own-at terms y.terms c.eval_terms.result 0 w c.eval_terms.ensures c.window_of-window.ensures c.loop-i.i d (omega arith) (omega arith) in
    let own : c.loop-i.i < length y.terms = omega (arith, c.eval_terms.ensures, c.window_of-window.ensures.within) in
    let broken = subst (λ (z : Spec). (source : List ℕ) (task : Task) → IsTelling source z telling → IsTermOf z (Eval c.loop-i.i) task.term
    → [] ≡ notes_text task.notes
    → WritesText {T = Bool} g.W.Write.contents c.loop-i.page c.write_trace.new.page (task_text source z shown n task) (Err fault))
    i.same.spec c.in_err-limited.ensures.text in
    if_err_at c.from_residual.result _ fault c.from_residual.ensures.1
    (λ source is.
    let text : Term → List ℕ = λ t. task_text source y shown n (record { term = t; notes = none }) in
    subst (λ text. Breaks g.W.Write.contents c.args.page.now c.write_trace.new.page text fault) (sym (traces-own source y shown n))
    (breaks-within g.W.Write.contents text ts c.args.page.now c.loop-i.page c.write_trace.new.page j d fault low (i.printed source is)
    (subst (λ t. Breaks g.W.Write.contents c.loop-i.page c.write_trace.new.page (text t) fault) here (broken source (own_task y c.loop-i.i) is (own, refl) refl).err)))

pub loop-i-preserved : goal.loop-i-preserved
loop-i-preserved g c =
    let y = c.args.engine.now.spec in
    let telling = c.args.telling.now in
    let shown = shown_by telling.options in
    let n = telling.options.run.steps in
    let i = c.loop-i.invariant in
    let terms = telling.options.terms in
    let ts = own_chosen terms y.terms in
    let w = c.window_of-window.result in
    let j : ℕ = c.loop-i.i - w.from in
    let d : Term = Apply nameless syntax.none in
    let long = own-length terms y.terms c.eval_terms.result 0 w c.eval_terms.ensures c.window_of-window.ensures in
    let low : j < length ts = omega (arith, long) in
    let here = own-at terms y.terms c.eval_terms.result 0 w c.eval_terms.ensures c.window_of-window.ensures c.loop-i.i d (omega arith) (omega arith) in
    let next : c.loop-i.i + 1 - w.from ≡ j + 1 = omega arith in
    let own : c.loop-i.i < length y.terms = omega (arith, c.eval_terms.ensures, c.window_of-window.ensures.within) in
    let printed = subst (λ (z : Spec). (source : List ℕ) (task : Task) → IsTelling source z telling → IsTermOf z (Eval c.loop-i.i) task.term
    → [] ≡ notes_text task.notes
    → WritesText {T = Bool} g.W.Write.contents c.loop-i.page c.write_trace.new.page (task_text source z shown n task) (Ok c.in_ok-limited.limited))
    i.same.spec c.in_ok-limited.ensures.text in
    let limited : Term → Bool = λ t. is_limited y Plain n (record { term = t; notes = none }) in
    record {
      same = same_both i.same c.in_ok-limited.ensures.same;
      printed = λ source is.
          let text : Term → List ℕ = λ t. task_text source y shown n (record { term = t; notes = none }) in
          subst (λ k. Prints g.W.Write.contents c.args.page.now c.write_trace.new.page (flat_map text (take k ts))) (sym next)
          (prints-more g.W.Write.contents text ts c.args.page.now c.loop-i.page c.write_trace.new.page j d low (i.printed source is)
          (subst (λ t. Prints g.W.Write.contents c.loop-i.page c.write_trace.new.page (text t)) here (printed source (own_task y c.loop-i.i) is (own, refl) refl).ok));
      few = omega (arith, one-line c.in_ok-limited.limited, c.from-limit_lines.ensures, i.few);
      limits = count-more limited ts j d c.loop-i.limit_lines _ c.in_ok-limited.limited low i.limits c.from-limit_lines.ensures
          (subst (λ (z : Spec). (task : Task) → IsTermOf z (Eval c.loop-i.i) task.term → c.in_ok-limited.limited ≡ is_limited z Plain n task) i.same.spec
          c.in_ok-limited.ensures.limit (own_task y c.loop-i.i) (own, refl) ∙ ap limited here)
          ∙ ap (λ k. count_by limited (take k ts)) (sym next);
      refused = c.in_ok-limited.ensures.reports.0.1 ∙ i.refused;
      same_output = c.in_ok-limited.ensures.reports.0.0 ∙ i.same_output;
      same_page = c.in_ok-limited.ensures.reports.2 ∙ i.same_page;
    }

pub returns-clause-ok : goal.returns-clause-ok
returns-clause-ok g c =
    let y = c.args.engine.now.spec in
    let telling = c.args.telling.now in
    let shown = shown_by telling.options in
    let n = telling.options.run.steps in
    let i = c.loop-i.invariant in
    let terms = telling.options.terms in
    let ts = own_chosen terms y.terms in
    let w = c.window_of-window.result in
    let long = own-length terms y.terms c.eval_terms.result 0 w c.eval_terms.ensures c.window_of-window.ensures in
    let all : length ts ≤ c.loop-i.i - w.from = omega (arith, long) in
    λ source is. subst (λ text. Prints g.W.Write.contents c.args.page.now c.loop-i.page text) (sym (traces-own source y shown n))
    (prints-all g.W.Write.contents (λ (t : Term). task_text source y shown n (record { term = t; notes = none })) ts c.args.page.now c.loop-i.page
    (c.loop-i.i - w.from) all (i.printed source is))

pub returns-clause-counts : goal.returns-clause-counts
returns-clause-counts g c =
    let y = c.args.engine.now.spec in
    let n = c.args.telling.now.options.run.steps in
    let terms = c.args.telling.now.options.terms in
    let ts = own_chosen terms y.terms in
    let w = c.window_of-window.result in
    let long = own-length terms y.terms c.eval_terms.result 0 w c.eval_terms.ensures c.window_of-window.ensures in
    let all : length ts ≤ c.loop-i.i - w.from = omega (arith, long) in
    counts-own y Plain n terms c.from.result c.loop-i.limit_lines (omega (arith, long, c.from.ensures))
    (count-all (λ (t : Term). is_limited y Plain n (record { term = t; notes = none })) ts (c.loop-i.i - w.from) c.loop-i.limit_lines all
    c.loop-i.invariant.limits)
