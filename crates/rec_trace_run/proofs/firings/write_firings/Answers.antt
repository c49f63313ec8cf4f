use Rattle.std.proofs.Common.{[], ◌≡◌, ◌++◌, ◌∙◌, IfOk, List, append-nil, arith, drop, length, refl, subst, sym, ℕ}
use Rattle.std.proofs.lemmas.List.{drop_all}
use Rattle.rec_syntax.specs.Syntax.{Spec, Term}
use Rattle.rec_engine.specs.declared.engine.Outcome.{Outcome}
use Rattle.rec_trace.specs.Lines.{joined}
use Rattle.rec_trace_run.specs.Inner.Pages.{Breaks, Prints, WritesText}
use Rattle.rec_trace_run.specs.Inner.Telling.{EndsIn, IsTelling, IsTermOf, lines_of, section_lines}
use Rattle.rec_trace_run.specs.Picks.{left_out_count, more_line, picks_by, rest_lines, shown_lines}
use Rattle.rec_trace_run.proofs.FiringLemmas.{shown-parts}
use Rattle.rec_trace_run.proofs.PageLemmas.{breaks-before, breaks-behind, prints-both, writes-at, writes-behind, writes-ok}
use Rattle.rec_trace_run.proofs.firings.write_firings.Goals as goal

pub returns-in_err-outcome-clause-text : goal.returns-in_err-outcome-clause-text
returns-in_err-outcome-clause-text g c =
    let y = c.args.engine.now.spec in
    let o = c.args.telling.now.options in
    let p = picks_by o.picked in
    let page1 = c.write_section.new.page in
    let fault = c.in_err-outcome.field-0.0 in
    λ source t is begun.
    let ls = lines_of source y o t in
    let first = section_lines c.front-front.result ls in
    let k = left_out_count p ls in
    let last = drop k (rest_lines p ls) in
    writes-at g.W.Write.contents c.args.page.now page1 (joined (shown_lines p ls)) c.from_residual.result fault c.from_residual.ensures.1
    (subst (λ text. Breaks g.W.Write.contents c.args.page.now page1 text fault)
    (shown-parts p ls first last k (c.front-front.ensures.lines ls) refl refl)
    (breaks-before g.W.Write.contents c.args.page.now page1 (joined first) (joined (more_line k) ++ joined last) fault
    (c.in_err-outcome.ensures.text source t is begun).err))

pub returns-in_err-write_more-clause-text : goal.returns-in_err-write_more-clause-text
returns-in_err-write_more-clause-text g c =
    let y = c.args.engine.now.spec in
    let o = c.args.telling.now.options in
    let p = picks_by o.picked in
    let page1 = c.write_section.new.page in
    let page2 = c.write_more.new.page in
    let rest = c.rest_of-rest.result in
    let fault = c.in_err-write_more.field-0.0 in
    λ source t is begun.
    let ls = lines_of source y o t in
    let first = section_lines c.front-front.result ls in
    let last = drop rest.from ls in
    let seen = c.in_ok-outcome.ensures.seen source t is begun in
    writes-at g.W.Write.contents c.args.page.now page2 (joined (shown_lines p ls)) c.from_residual-in_err-write_more.result fault
    c.from_residual-in_err-write_more.ensures.1
    (subst (λ text. Breaks g.W.Write.contents c.args.page.now page2 text fault)
    (shown-parts p ls first last rest.left_out (c.front-front.ensures.lines ls) (c.rest_of-rest.ensures.left_out ls seen)
    (c.rest_of-rest.ensures.last ls seen))
    (breaks-behind g.W.Write.contents c.args.page.now page1 page2 (joined first) (joined (more_line rest.left_out) ++ joined last) fault
    (c.in_ok-outcome.ensures.text source t is begun).ok
    (breaks-before g.W.Write.contents page1 page2 (joined (more_line rest.left_out)) (joined last) fault c.in_err-write_more.ensures.err)))

pub returns-then-rest-front-clause-text : goal.returns-then-rest-front-clause-text
returns-then-rest-front-clause-text g c =
    let y = c.args.engine.now.spec in
    let o = c.args.telling.now.options in
    let p = picks_by o.picked in
    let page1 = c.write_section.new.page in
    let page2 = c.write_more.new.page in
    let rest = c.rest_of-rest.result in
    λ source t is begun.
    let ls = lines_of source y o t in
    let first = section_lines c.front-front.result ls in
    let seen = c.in_ok-outcome.ensures.seen source t is begun in
    let all : rest.from ≡ length ls = c.if-rest-front.true ∙ seen in
    let none = sym (drop_all rest.from ls (omega (arith, all))) ∙ c.rest_of-rest.ensures.last ls seen in
    writes-ok g.W.Write.contents c.args.page.now page2 (joined (shown_lines p ls)) c.in_ok-outcome.outcome
    (subst (λ text. Prints g.W.Write.contents c.args.page.now page2 text)
    (shown-parts p ls first [] rest.left_out (c.front-front.ensures.lines ls) (c.rest_of-rest.ensures.left_out ls seen) none)
    (prints-both g.W.Write.contents c.args.page.now page1 page2 (joined first) (joined (more_line rest.left_out) ++ [])
    (c.in_ok-outcome.ensures.text source t is begun).ok
    (subst (λ text. Prints g.W.Write.contents page1 page2 text) (sym (append-nil (joined (more_line rest.left_out)))) c.in_ok-write_more.ensures.ok)))

pub returns-clause-end : goal.returns-clause-end
returns-clause-end g c =
    let w = g.B.TermBank.store c.write_section-2.new.engine.bank in
    let n = c.args.telling.now.options.run.steps in
    subst (λ (z : Spec). IfOk c.write_section-2.result (λ (o : Outcome). (t : Term) → IsTermOf z c.args.beginning t → EndsIn z w n t o))
    c.write_section.ensures.same.spec c.write_section-2.ensures.end

pub returns-clause-text : goal.returns-clause-text
returns-clause-text g c =
    let y = c.args.engine.now.spec in
    let o = c.args.telling.now.options in
    let p = picks_by o.picked in
    let page1 = c.write_section.new.page in
    let page2 = c.write_more.new.page in
    let page3 = c.write_section-2.new.page in
    let rest = c.rest_of-rest.result in
    let back = c.back-back.result in
    let result = c.write_section-2.result in
    let written = subst (λ (z : Spec). (source : List ℕ) (t : Term) → IsTelling source z c.args.telling.now → IsTermOf z c.args.beginning t
    → WritesText g.W.Write.contents page2 page3 (joined (section_lines back (lines_of source z o t))) result)
    c.write_section.ensures.same.spec c.write_section-2.ensures.text in
    λ source t is begun.
    let ls = lines_of source y o t in
    let first = section_lines c.front-front.result ls in
    let last = section_lines back ls in
    let seen = c.in_ok-outcome.ensures.seen source t is begun in
    subst (λ text. WritesText g.W.Write.contents c.args.page.now page3 text result)
    (shown-parts p ls first last rest.left_out (c.front-front.ensures.lines ls) (c.rest_of-rest.ensures.left_out ls seen)
    (c.back-back.ensures.lines ls ∙ c.rest_of-rest.ensures.last ls seen))
    (writes-behind g.W.Write.contents c.args.page.now page1 page3 (joined first) (joined (more_line rest.left_out) ++ joined last) result
    (c.in_ok-outcome.ensures.text source t is begun).ok
    (writes-behind g.W.Write.contents page1 page2 page3 (joined (more_line rest.left_out)) (joined last) result c.in_ok-write_more.ensures.ok
    (written source t is begun)))
