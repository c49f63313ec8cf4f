use Rattle.std.proofs.Common.{◌≡◌, ◌++◌, ◌+◌, ◌-◌, ℕ, ◌<◌, ◌≤◌, ◌^◌, [], arith, length, subst, sym, ◌∙◌}
use Rattle.std.specs.Prelude.{Bool, List, codes, count_by, flat_map, take}
use Rattle.std.specs.Io.KnownBytes.{Appends}
use Rattle.rx_term.proofs.KeepLemmas.{Keeps-trans}
use Rattle.rx_text.specs.Written.{AppendsFront}
use Rattle.rec_syntax.specs.Syntax.{Apply, nameless}
use Rattle.rec_syntax.specs.Syntax as syntax
use Rattle.rec_run.specs.EvaluatedLines.{due_before, fault_after}
use Rattle.rec_run.specs.Choice.{own_chosen}
use Rattle.rec_run.specs.Output.{lines, own_shown, shown_of}
use Rattle.rec_run.specs.Reading.{line_text, text_at}
use Rattle.rx_run.specs.Run.{Stops}
use Rattle.rec_run.proofs.EvaluatedLemmas.{lines_stopped, fault_after-same, line_lacks, same_engine_both}
use Rattle.rx_run.proofs.LineFrontLemmas.{appends_all, appends_more, lines_of}
use Rattle.rec_run.proofs.SpecLineLemmas.{line_text-newlines, lines-bare}
use Rattle.rec_run.proofs.ChoiceLemmas.{length-own, own-at, own-length}
use Rattle.rec_run.proofs.EvaluatedLemmas.{after_reports, no_reader}
use Rattle.rx_run.specs.declared.ending.RunFault.{RunFault}
use Rattle.rec_run.proofs.DepthLemmas.{after-deep, depth-line}
use Rattle.rec_run.specs.Depth.{KeepsDepth}
use Rattle.std.proofs.Common.{ap}
use Rattle.rx_term.specs.Tree.{none}
use Rattle.rec_syntax.specs.Syntax.{Spec, Term}
use Rattle.rec_run.specs.Reading.{own_task}
use Rattle.rec_run.specs.Reports.{value_report}
use Rattle.rec_run.specs.Output.{chosen, is_limited}
use Rattle.rec_run.proofs.LimitLineLemmas.{count-all, count-more, counts-own, one-line}
use Rattle.rec_run.proofs.ReportLemmas.{report-own, told-all, told-more}
use Rattle.rec_run.proofs.spec.lines.write_own_lines.Goals as goal

pub returns-in-Err-clause-keeps : goal.returns-in-Err-clause-keeps
returns-in-Err-clause-keeps g c = Keeps-trans c.loop-i.invariant.keeps c.in-Err.ensures.keeps

pub returns-in-Err-clause-err : goal.returns-in-Err-clause-err
returns-in-Err-clause-err g c =
    let y = c.args.engine.now.spec in
    let n = c.args.run.settings.options.steps in
    let terms = c.args.run.settings.terms in
    let ts = own_chosen terms y.terms in
    let bare = own_shown (shown_of c.args.run.settings) in
    let show = line_text y bare n in
    let w = c.window_of-window.result in
    let j : ℕ = c.loop-i.i - w.from in
    let old = g.W.Write.contents c.args.out.now.writer.now in
    let new = g.W.Write.contents c.write_own_line.new.out.writer.now in
    let long = own-length terms y.terms c.eval_terms.result 0 w c.eval_terms.ensures c.window_of-window.ensures in
    let low : j < length ts = omega (arith, long) in
    let here = own-at terms y.terms c.eval_terms.result 0 w c.eval_terms.ensures c.window_of-window.ensures c.loop-i.i
    (Apply nameless syntax.none) (omega arith) (omega arith) in
    let few : n < 2 ^ 64 = omega (arith, c.args.run.settings.options.steps_in_range) in
    let f : RunFault = c.in-Err.fault in
    let stop = c.after.result in
    let fault : stop ≡ fault_after f j = fault_after-same f c.from.result j stop c.after.ensures (omega arith) in
    subst (λ stop. Stops stop (lines y [] (shown_of c.args.run.settings) n) old new) (sym fault)
    (subst (λ text. Stops (fault_after f j) text old new) (sym (lines-bare y (shown_of c.args.run.settings) n))
    (lines_stopped f show ts j (Apply nameless syntax.none) _ _ _ (no_reader c.in-Err.fault c.in-Err.ensures.reports.1)
    (line_text-newlines y bare n few ts) low c.loop-i.invariant.written
    (subst (λ t. AppendsFront (due_before f (show t)) (g.W.Write.contents c.loop-i.out.writer.now) new) here
    (subst (λ z. AppendsFront (due_before f (text_at z bare n c.loop-i.i))
    (g.W.Write.contents c.loop-i.out.writer.now) new) c.loop-i.invariant.same.spec c.in-Err.ensures.err))))

pub returns-in-Err-clause-room : goal.returns-in-Err-clause-room
returns-in-Err-clause-room g c =
    let e = c.write_own_line.new.engine in
    line_lacks (g.B.TermBank.store e.bank) e.work e.memo c.in-Err.fault _ c.after.result
    c.after.ensures c.in-Err.ensures.room

pub loop-i-preserved : goal.loop-i-preserved
loop-i-preserved g c =
    let y = c.args.engine.now.spec in
    let n = c.args.run.settings.options.steps in
    let terms = c.args.run.settings.terms in
    let ts = own_chosen terms y.terms in
    let bare = own_shown (shown_of c.args.run.settings) in
    let w = c.window_of-window.result in
    let j : ℕ = c.loop-i.i - w.from in
    let next : c.loop-i.i + 1 - w.from ≡ j + 1 = omega arith in
    let d : Term = Apply nameless syntax.none in
    let long = own-length terms y.terms c.eval_terms.result 0 w c.eval_terms.ensures c.window_of-window.ensures in
    let low : j < length ts = omega (arith, long) in
    let here = own-at terms y.terms c.eval_terms.result 0 w c.eval_terms.ensures c.window_of-window.ensures c.loop-i.i d (omega arith) (omega arith) in
    record {
      same = same_engine_both c.loop-i.invariant.same c.in-Ok.ensures.same;
      keeps = Keeps-trans c.loop-i.invariant.keeps c.in-Ok.ensures.keeps;
      written = subst (λ k. Appends (g.W.Write.contents c.args.out.now.writer.now) (g.W.Write.contents c.write_own_line.new.out.writer.now)
          (lines_of (line_text y bare n) (take k ts))) (sym next)
          (appends_more (line_text y bare n) ts j d _ _ _ low c.loop-i.invariant.written
          (subst (λ t. Appends (g.W.Write.contents c.loop-i.out.writer.now) (g.W.Write.contents c.write_own_line.new.out.writer.now)
          (line_text y bare n t ++ codes "\n")) here
          (subst (λ z. Appends (g.W.Write.contents c.loop-i.out.writer.now) (g.W.Write.contents c.write_own_line.new.out.writer.now)
          (text_at z bare n c.loop-i.i ++ codes "\n")) c.loop-i.invariant.same.spec c.in-Ok.ensures.ok)));
      refused = c.in-Ok.ensures.reports.0.1 ∙ c.loop-i.invariant.refused;
      same_output = c.in-Ok.ensures.reports.0.0 ∙ c.loop-i.invariant.same_output;
      ready = λ source ready.
          subst (λ (z : Spec). g.S.Reporter.is_ready c.loop-i.observer.reporter source z → g.S.Reporter.is_ready c.write_own_line.new.observer.reporter source z)
          c.loop-i.invariant.same.spec (c.in-Ok.ensures.ready source) (c.loop-i.invariant.ready source ready);
      told = λ source ready.
          let says = g.S.Reporter.says in
          let told = g.S.Reporter.told in
          let report : Term → List ℕ = λ t. value_report says source y n (record { term = t; notes = none }) in
          let more = subst (λ (z : Spec). g.S.Reporter.is_ready c.loop-i.observer.reporter source z
          → told c.write_own_line.new.observer.reporter ≡ told c.loop-i.observer.reporter ++ value_report says source z n (own_task z c.loop-i.i))
          c.loop-i.invariant.same.spec (c.in-Ok.ensures.told source) (c.loop-i.invariant.ready source ready) in
          told-more report ts j d (told c.args.observer.now.reporter) (told c.loop-i.observer.reporter) (told c.write_own_line.new.observer.reporter) low
          (c.loop-i.invariant.told source ready) (more ∙ ap (λ t. told c.loop-i.observer.reporter ++ report t) here)
          ∙ ap (λ k. told c.args.observer.now.reporter ++ flat_map report (take k ts)) (sym next);
      few = omega (arith, one-line c.in-Ok.limited, c.from-limit_lines.ensures, c.loop-i.invariant.few);
      bound = subst (λ k. KeepsDepth k c.args.run.settings.depth c.args.engine.now c.write_own_line.new.engine) (sym next)
          (depth-line j _ _ _ c.in-Ok.ensures.bound);
      limits =
          let limited : Term → Bool = λ t. is_limited y c.args.run.settings.form n (record { term = t; notes = none }) in
          count-more limited ts j d c.loop-i.limit_lines _ c.in-Ok.limited low c.loop-i.invariant.limits c.from-limit_lines.ensures
          (subst (λ z. c.in-Ok.limited ≡ is_limited z c.args.run.settings.form n (own_task z c.loop-i.i)) c.loop-i.invariant.same.spec c.in-Ok.ensures.limit
          ∙ ap limited here)
          ∙ ap (λ k. count_by limited (take k ts)) (sym next);
    }

pub returns-clause-ok : goal.returns-clause-ok
returns-clause-ok g c =
    let y = c.args.engine.now.spec in
    let n = c.args.run.settings.options.steps in
    let ts = own_chosen c.args.run.settings.terms y.terms in
    let w = c.window_of-window.result in
    let long = own-length c.args.run.settings.terms y.terms c.eval_terms.result 0 w c.eval_terms.ensures c.window_of-window.ensures in
    let all : length ts ≤ c.loop-i.i - w.from = omega (arith, long) in
    subst (λ text. Appends (g.W.Write.contents c.args.out.now.writer.now) (g.W.Write.contents c.loop-i.out.writer.now) text)
    (sym (lines-bare y (shown_of c.args.run.settings) n))
    (appends_all (line_text y (own_shown (shown_of c.args.run.settings)) n) ts (c.loop-i.i - w.from) _ _ all
    c.loop-i.invariant.written)

pub returns-in-Err-clause-reports : goal.returns-in-Err-clause-reports
returns-in-Err-clause-reports g c = after_reports c.args.out.now c.loop-i.out c.write_own_line.new.out c.in-Err.fault _ c.after.result c.after.ensures
    c.loop-i.invariant.same_output c.loop-i.invariant.refused c.in-Err.ensures.reports

pub returns-in-Err-clause-deep : goal.returns-in-Err-clause-deep
returns-in-Err-clause-deep g c = after-deep c.in-Err.fault _ c.after.result c.after.ensures c.write_own_line.new.engine.waiting c.args.run.settings.depth
    c.in-Err.ensures.deep

pub write_own_line-requires-clause-ready : goal.write_own_line-requires-clause-ready
write_own_line-requires-clause-ready g c =
    let source = c.requires.ready.0 in (
      source,
      subst (λ (z : Spec). g.S.Reporter.is_ready c.loop-i.observer.reporter source z) (sym c.loop-i.invariant.same.spec)
          (c.loop-i.invariant.ready source c.requires.ready.1),
    )

pub returns-in-Err-clause-ready : goal.returns-in-Err-clause-ready
returns-in-Err-clause-ready g c = λ source ready.
    subst (λ (z : Spec). g.S.Reporter.is_ready c.loop-i.observer.reporter source z → g.S.Reporter.is_ready c.write_own_line.new.observer.reporter source z)
    c.loop-i.invariant.same.spec (c.in-Err.ensures.ready source) (c.loop-i.invariant.ready source ready)

pub returns-clause-told : goal.returns-clause-told
returns-clause-told g c =
    let y = c.args.engine.now.spec in
    let n = c.args.run.settings.options.steps in
    let says = g.S.Reporter.says in
    let told = g.S.Reporter.told in
    let terms = c.args.run.settings.terms in
    let ts = own_chosen terms y.terms in
    let w = c.window_of-window.result in
    let long = own-length terms y.terms c.eval_terms.result 0 w c.eval_terms.ensures c.window_of-window.ensures in
    let all : length ts ≤ c.loop-i.i - w.from = omega (arith, long) in
    λ source ready.
    told-all (λ (t : Term). value_report says source y n (record { term = t; notes = none })) ts (c.loop-i.i - w.from) (told c.args.observer.now.reporter)
    (told c.loop-i.observer.reporter) all (c.loop-i.invariant.told source ready)
    ∙ ap (λ t. told c.args.observer.now.reporter ++ t) (sym (report-own says source y n terms))

pub returns-clause-counts : goal.returns-clause-counts
returns-clause-counts g c =
    let y = c.args.engine.now.spec in
    let n = c.args.run.settings.options.steps in
    let terms = c.args.run.settings.terms in
    let ts = own_chosen terms y.terms in
    let w = c.window_of-window.result in
    let long = own-length terms y.terms c.eval_terms.result 0 w c.eval_terms.ensures c.window_of-window.ensures in
    let all : length ts ≤ c.loop-i.i - w.from = omega (arith, long) in
    counts-own y c.args.run.settings.form n terms c.from-2.result c.loop-i.limit_lines (omega (arith, long, c.from-2.ensures))
    (count-all (λ (t : Term). is_limited y c.args.run.settings.form n (record { term = t; notes = none })) ts (c.loop-i.i - w.from) c.loop-i.limit_lines all
    c.loop-i.invariant.limits)

pub returns-clause-bound : goal.returns-clause-bound
returns-clause-bound g c =
    let y = c.args.engine.now.spec in
    let terms = c.args.run.settings.terms in
    let w = c.window_of-window.result in
    let long = own-length terms y.terms c.eval_terms.result 0 w c.eval_terms.ensures c.window_of-window.ensures in
    let same = length-own terms y in
    let all : c.loop-i.i - w.from ≡ length (chosen terms y []) = omega (arith, long, same) in
    subst (λ k. KeepsDepth k c.args.run.settings.depth c.args.engine.now c.loop-i.engine) all c.loop-i.invariant.bound
