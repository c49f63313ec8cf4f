use Rattle.std.proofs.Common.{◌≡◌, ◌∙◌, ◌+◌, ◌-◌, ◌<◌, ◌≤◌, ℕ, List, ap, arith, get_or, length, refl, subst, sym, take}
use Rattle.std.specs.Prelude.{Bool, Err, Ok, count_by}
use Rattle.rx_term.specs.Tree.{Tree, list_of, none}
use Rattle.rec_sorts.specs.Evaluation.{term_of}
use Rattle.rec_syntax.specs.Syntax.{Spec}
use Rattle.rx_run.proofs.ErrorLemmas.{if_err_at}
use Rattle.rec_engine.specs.Engine.{Spells}
use Rattle.rec_run.specs.Choice.{IsWindow, given_chosen}
use Rattle.rec_run.specs.Output.{Task, given_task, is_limited, notes_text}
use Rattle.rec_run.proofs.ChoiceLemmas.{given-length}
use Rattle.rec_run.proofs.ChoiceLemmas.{given-at as chosen-at}
use Rattle.rec_run.proofs.LimitLineLemmas.{count-all, count-more, counts_by, one-line}
use Rattle.rec_run.specs.declared.options.TermChoice.{TermChoice}
use Rattle.rec_run.specs.declared.options.ValueForm.TheVariants.{Plain}
use Rattle.rec_run.specs.declared.spec.window.Window.{Window}
use Rattle.rec_trace.proofs.ListLemmas.{same_both}
use Rattle.rec_trace_run.specs.Inner.Pages.{Breaks, Prints, WritesText}
use Rattle.rec_trace_run.specs.Inner.Telling.{AreGivenTerms, IsTelling, IsTermOf, given_traces}
use Rattle.rec_trace_run.specs.declared.beginning.Beginning.TheVariants.{Given}
use Rattle.rec_trace_run.specs.Traces.{shown_by, task_text}
use Rattle.rec_trace_run.specs.declared.given.GivenTerms.{GivenTerms}
use Rattle.rec_trace_run.proofs.GivenLemmas.{given-long, given-notes, given-spells, notes-long}
use Rattle.rec_trace_run.proofs.TaskLemmas.{breaks-within, prints-all, prints-more}
use Rattle.rec_trace_run.proofs.terms.write_given_traces.Goals as goal

-- the chosen term whose trace is next
record Turn (us vs : List Tree) (i j : ℕ) : Type 0 where
  pub low : j < length vs
  pub same : get_or us i (list_of none) ≡ get_or vs j (list_of none)

-- the ranges of the chosen terms of a list of given terms
module _ (choice : TermChoice) (y : Spec) (us : List Tree) (terms : GivenTerms) (count items : ℕ) (w : Window) (same : count ≡ length y.terms)
    (given : AreGivenTerms y us terms) (all : length terms.letters.items ≡ items) (is : IsWindow choice count items w) where
  fits : length us ≤ items
  fits = let long = given-long y us terms given in omega (arith, long, all)

  chosen-length : length (given_chosen choice (length y.terms) us) ≡ w.most
  chosen-length =
      let e = given-length choice (length y.terms) us count items w same fits is in
      let long = given-long y us terms given in
      omega (arith, e, long, all, is.few)

  turn : (i : ℕ) → w.skipped ≤ i → i < w.skipped + w.most → Turn us (given_chosen choice (length y.terms) us) i (i - w.skipped)
  turn i low high =
      let back : (i - w.skipped) + w.skipped ≡ i = omega (arith, low) in
      let less : i - w.skipped < w.most = omega (arith, low, high) in
      let long = chosen-length in
      record {
        low = omega (arith, less, long);
        same = sym (ap (λ k. get_or us k (list_of none)) back) ∙ chosen-at choice (length y.terms) us count items w same fits is (i - w.skipped) (list_of none) less;
      }

pub index-notes-requires : goal.index-notes-requires
index-notes-requires g c =
    let terms = c.args.terms.now in
    let long = notes-long c.args.engine.now.spec c.requires.given.0 terms c.requires.given.1 in
    let few = c.window_of-window.ensures.few in
    omega (arith, long, few, c.len-items.ensures, terms.letters.ok.0)

pub write_trace-requires-clause-beginning : goal.write_trace-requires-clause-beginning
write_trace-requires-clause-beginning g c =
    let y = c.args.engine.now.spec in
    let terms = c.args.terms.now in
    let few = c.window_of-window.ensures.few in
    let low : c.loop-i.i < length terms.letters.items = omega (arith, few, c.len-items.ensures, terms.letters.ok.0) in
    let u = get_or c.requires.given.0 c.loop-i.i (list_of none) in (
      term_of u,
      (
        u,
        subst (λ (z : Spec). Spells z c.deref.result.now u) (sym c.loop-i.invariant.same.spec)
            (given-spells y c.requires.given.0 terms c.loop-i.i c.index.result.now c.deref.result.now (list_of none) c.requires.given.1 low
            c.index.ensures c.deref.ensures.value),
        refl,
      ),
    )

pub returns-in_err-limited-clause-err : goal.returns-in_err-limited-clause-err
returns-in_err-limited-clause-err g c =
    let y = c.args.engine.now.spec in
    let terms = c.args.terms.now in
    let telling = c.args.telling.now in
    let shown = shown_by telling.options in
    let n = telling.options.run.steps in
    let i = c.loop-i.invariant in
    let w = c.window_of-window.result in
    let few = c.window_of-window.ensures.few in
    let all : length terms.letters.items ≡ c.len-items.result = omega (arith, c.len-items.ensures, terms.letters.ok.0) in
    let low : c.loop-i.i < length terms.letters.items = omega (arith, all, few) in
    let fault = c.in_err-limited.field-0.0 in
    let beginning = Given c.deref.result in
    let broken = subst (λ (z : Spec). (source : List ℕ) (task : Task) → IsTelling source z telling → IsTermOf z beginning task.term
    → c.deref-in-loop-i.result.now ≡ notes_text task.notes
    → WritesText {T = Bool} g.W.Write.contents c.loop-i.page c.write_trace.new.page (task_text source z shown n task) (Err fault))
    i.same.spec c.in_err-limited.ensures.text in
    if_err_at c.from_residual.result _ fault c.from_residual.ensures.1
    (λ source us is given.
    let vs = given_chosen telling.options.terms (length y.terms) us in
    let here = turn telling.options.terms y us terms c.eval_terms.result c.len-items.result w c.eval_terms.ensures given all c.window_of-window.ensures c.loop-i.i (omega arith) (omega arith) in
    let text : Tree → List ℕ = λ u. task_text source y shown n (given_task u) in
    breaks-within g.W.Write.contents text vs c.args.page.now c.loop-i.page c.write_trace.new.page
    (c.loop-i.i - w.skipped) (list_of none) fault here.low (i.printed source us is given)
    (subst (λ u. Breaks g.W.Write.contents c.loop-i.page c.write_trace.new.page (text u) fault) here.same
    (broken source (given_task (get_or us c.loop-i.i (list_of none))) is (
      get_or us c.loop-i.i (list_of none),
      given-spells y us terms c.loop-i.i c.index.result.now c.deref.result.now (list_of none) given low
          c.index.ensures c.deref.ensures.value,
      refl,
    )
    (given-notes y us terms c.loop-i.i c.index-notes.result.now c.deref-in-loop-i.result.now (list_of none) given low c.index-notes.ensures
    c.deref-in-loop-i.ensures.value)).err))

pub loop-i-preserved : goal.loop-i-preserved
loop-i-preserved g c =
    let y = c.args.engine.now.spec in
    let terms = c.args.terms.now in
    let telling = c.args.telling.now in
    let shown = shown_by telling.options in
    let n = telling.options.run.steps in
    let i = c.loop-i.invariant in
    let w = c.window_of-window.result in
    let few = c.window_of-window.ensures.few in
    let all : length terms.letters.items ≡ c.len-items.result = omega (arith, c.len-items.ensures, terms.letters.ok.0) in
    let low : c.loop-i.i < length terms.letters.items = omega (arith, all, few) in
    let j : ℕ = c.loop-i.i - w.skipped in
    let next : c.loop-i.i + 1 - w.skipped ≡ j + 1 = omega arith in
    let beginning = Given c.deref.result in
    let printed = subst (λ (z : Spec). (source : List ℕ) (task : Task) → IsTelling source z telling → IsTermOf z beginning task.term
    → c.deref-in-loop-i.result.now ≡ notes_text task.notes
    → WritesText {T = Bool} g.W.Write.contents c.loop-i.page c.write_trace.new.page (task_text source z shown n task) (Ok c.in_ok-limited.limited))
    i.same.spec c.in_ok-limited.ensures.text in
    record {
      same = same_both i.same c.in_ok-limited.ensures.same;
      printed = λ source us is given.
          let vs = given_chosen telling.options.terms (length y.terms) us in
          let here = turn telling.options.terms y us terms c.eval_terms.result c.len-items.result w c.eval_terms.ensures given all c.window_of-window.ensures c.loop-i.i (omega arith) (omega arith) in
          let text : Tree → List ℕ = λ u. task_text source y shown n (given_task u) in
          subst (λ k. Prints g.W.Write.contents c.args.page.now c.write_trace.new.page (given_traces source y shown n (take k vs))) (sym next)
          (prints-more g.W.Write.contents text vs c.args.page.now c.loop-i.page c.write_trace.new.page
          j (list_of none) here.low (i.printed source us is given)
          (subst (λ u. Prints g.W.Write.contents c.loop-i.page c.write_trace.new.page (text u)) here.same
          (printed source (given_task (get_or us c.loop-i.i (list_of none))) is (
            get_or us c.loop-i.i (list_of none),
            given-spells y us terms c.loop-i.i c.index.result.now c.deref.result.now (list_of none) given low
                c.index.ensures c.deref.ensures.value,
            refl,
          )
          (given-notes y us terms c.loop-i.i c.index-notes.result.now c.deref-in-loop-i.result.now (list_of none) given low c.index-notes.ensures
          c.deref-in-loop-i.ensures.value)).ok));
      few = omega (arith, one-line c.in_ok-limited.limited, c.from-limit_lines.ensures, i.few);
      limits = λ us given.
          let vs = given_chosen telling.options.terms (length y.terms) us in
          let here = turn telling.options.terms y us terms c.eval_terms.result c.len-items.result w c.eval_terms.ensures given all c.window_of-window.ensures c.loop-i.i (omega arith) (omega arith) in
          let spells = given-spells y us terms c.loop-i.i c.index.result.now c.deref.result.now (list_of none) given low c.index.ensures
          c.deref.ensures.value in
          let limited : Tree → Bool = λ u. is_limited y Plain n (given_task u) in
          let is = subst (λ (z : Spec). (task : Task) → IsTermOf z beginning task.term → c.in_ok-limited.limited ≡ is_limited z Plain n task)
          i.same.spec c.in_ok-limited.ensures.limit in
          count-more limited vs j (list_of none) c.loop-i.limit_lines _ c.in_ok-limited.limited
          here.low (i.limits us given) c.from-limit_lines.ensures
          (is (given_task (get_or us c.loop-i.i (list_of none))) (get_or us c.loop-i.i (list_of none), spells, refl) ∙ ap limited here.same)
          ∙ ap (λ k. count_by limited (take k vs)) (sym next);
      refused = c.in_ok-limited.ensures.reports.0.1 ∙ i.refused;
      same_output = c.in_ok-limited.ensures.reports.0.0 ∙ i.same_output;
      same_page = c.in_ok-limited.ensures.reports.2 ∙ i.same_page;
    }

pub returns-clause-ok : goal.returns-clause-ok
returns-clause-ok g c =
    let y = c.args.engine.now.spec in
    let terms = c.args.terms.now in
    let telling = c.args.telling.now in
    let shown = shown_by telling.options in
    let n = telling.options.run.steps in
    let w = c.window_of-window.result in
    let all : length terms.letters.items ≡ c.len-items.result = omega (arith, c.len-items.ensures, terms.letters.ok.0) in
    λ source us is given.
    let vs = given_chosen telling.options.terms (length y.terms) us in
    let long = chosen-length telling.options.terms y us terms c.eval_terms.result c.len-items.result w c.eval_terms.ensures given all c.window_of-window.ensures in
    prints-all g.W.Write.contents (λ u. task_text source y shown n (given_task u)) vs c.args.page.now c.loop-i.page
    (c.loop-i.i - w.skipped) (omega (arith, long)) (c.loop-i.invariant.printed source us is given)

pub returns-clause-counts : goal.returns-clause-counts
returns-clause-counts g c =
    let y = c.args.engine.now.spec in
    let terms = c.args.terms.now in
    let telling = c.args.telling.now in
    let n = telling.options.run.steps in
    let w = c.window_of-window.result in
    let all : length terms.letters.items ≡ c.len-items.result = omega (arith, c.len-items.ensures, terms.letters.ok.0) in
    λ us given.
    let vs = given_chosen telling.options.terms (length y.terms) us in
    let long = chosen-length telling.options.terms y us terms c.eval_terms.result c.len-items.result w c.eval_terms.ensures given all c.window_of-window.ensures in
    counts_by (sym long) (count-all (λ u. is_limited y Plain n (given_task u)) vs (c.loop-i.i - w.skipped) c.loop-i.limit_lines (omega (arith, long))
    (c.loop-i.invariant.limits us given))
