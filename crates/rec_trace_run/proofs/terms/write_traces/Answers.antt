use Rattle.std.proofs.Common.{◌≡◌, List, [], ap, length, subst, sym, ◌∙◌}
use Rattle.std.specs.Prelude.{ℕ, ◌+◌, ◌++◌}
use Rattle.rx_term.specs.Tree.{Tree}
use Rattle.rx_run.specs.declared.ending.RunFault.TheVariants.{Memory}
use Rattle.rx_run.proofs.ErrorLemmas.{if_err_at}
use Rattle.rec_syntax.specs.Syntax.{Spec}
use Rattle.rec_run.specs.Choice.{HasCounts, given_chosen}
use Rattle.rec_run.proofs.LimitLineLemmas.{counts-both}
use Rattle.rec_run.specs.declared.options.ValueForm.TheVariants.{Plain}
use Rattle.rec_trace_run.specs.Inner.Pages.{Breaks, Prints}
use Rattle.rec_trace_run.specs.Inner.Telling.{AreGivenTerms, IsTelling, given_traces}
use Rattle.rec_trace_run.specs.Traces.{shown_by, traces}
use Rattle.rec_trace_run.proofs.PageLemmas.{breaks-before, breaks-behind, breaks-whole, prints-both}
use Rattle.rec_trace_run.proofs.TaskLemmas.{traces-both}
use Rattle.rec_trace_run.proofs.terms.write_traces.Goals as goal

pub write_given_traces-requires-clause-given : goal.write_given_traces-requires-clause-given
write_given_traces-requires-clause-given g c = (
  c.requires.given.0,
  subst (λ (z : Spec). AreGivenTerms z c.requires.given.0 c.args.terms.now) (sym c.write_own_traces.ensures.same.spec) c.requires.given.1,
)

pub returns-in_err-own-clause-err : goal.returns-in_err-own-clause-err
returns-in_err-own-clause-err g c =
    let y = c.args.engine.now.spec in
    let telling = c.args.telling.now in
    let shown = shown_by telling.options in
    let n = telling.options.run.steps in
    let page = c.args.page.now in
    let page1 = c.write_own_traces.new.page in
    let fault = c.in_err-own.field-0.0 in
    if_err_at c.from_residual.result _ fault c.from_residual.ensures.1
    (λ source us is given. subst (λ text. Breaks g.W.Write.contents page page1 text fault) (sym (traces-both source y shown n us))
    (breaks-before g.W.Write.contents page page1 (traces source y [] shown n) (given_traces source y shown n (given_chosen shown.terms (length y.terms) us)) fault (c.in_err-own.ensures.err source is)))

pub returns-in_err-given-clause-err : goal.returns-in_err-given-clause-err
returns-in_err-given-clause-err g c =
    let y = c.args.engine.now.spec in
    let telling = c.args.telling.now in
    let shown = shown_by telling.options in
    let n = telling.options.run.steps in
    let page = c.args.page.now in
    let page1 = c.write_own_traces.new.page in
    let page2 = c.write_given_traces.new.page in
    let fault = c.in_err-given.field-0.0 in
    let broken = subst (λ (z : Spec). (source : List ℕ) (us : List Tree) → IsTelling source z telling → AreGivenTerms z us c.args.terms.now
    → Breaks g.W.Write.contents page1 page2 (given_traces source z shown n (given_chosen shown.terms (length z.terms) us)) fault) c.write_own_traces.ensures.same.spec c.in_err-given.ensures.err in
    if_err_at c.from_residual-in_err-given.result _ fault c.from_residual-in_err-given.ensures.1
    (λ source us is given. subst (λ text. Breaks g.W.Write.contents page page2 text fault) (sym (traces-both source y shown n us))
    (breaks-behind g.W.Write.contents page page1 page2 (traces source y [] shown n) (given_traces source y shown n (given_chosen shown.terms (length y.terms) us)) fault
    (c.in_ok-own.ensures.ok source is) (broken source us is given)))

pub returns-in-None-clause-err : goal.returns-in-None-clause-err
returns-in-None-clause-err g c =
    let y = c.args.engine.now.spec in
    let telling = c.args.telling.now in
    let shown = shown_by telling.options in
    let n = telling.options.run.steps in
    let page = c.args.page.now in
    let page1 = c.write_own_traces.new.page in
    let page2 = c.write_given_traces.new.page in
    let printed = subst (λ (z : Spec). (source : List ℕ) (us : List Tree) → IsTelling source z telling → AreGivenTerms z us c.args.terms.now
    → Prints g.W.Write.contents page1 page2 (given_traces source z shown n (given_chosen shown.terms (length z.terms) us))) c.write_own_traces.ensures.same.spec c.in_ok-given.ensures.ok in
    λ source us is given. subst (λ text. Breaks g.W.Write.contents page page2 text (Memory page2.lines)) (sym (traces-both source y shown n us))
    (breaks-whole g.W.Write.contents page page2 (traces source y [] shown n ++ given_traces source y shown n (given_chosen shown.terms (length y.terms) us))
    (prints-both g.W.Write.contents page page1 page2 (traces source y [] shown n) (given_traces source y shown n (given_chosen shown.terms (length y.terms) us))
    (c.in_ok-own.ensures.ok source is) (printed source us is given)))

pub returns-in-Some-clause-ok : goal.returns-in-Some-clause-ok
returns-in-Some-clause-ok g c =
    let y = c.args.engine.now.spec in
    let telling = c.args.telling.now in
    let shown = shown_by telling.options in
    let n = telling.options.run.steps in
    let page = c.args.page.now in
    let page1 = c.write_own_traces.new.page in
    let page2 = c.write_given_traces.new.page in
    let printed = subst (λ (z : Spec). (source : List ℕ) (us : List Tree) → IsTelling source z telling → AreGivenTerms z us c.args.terms.now
    → Prints g.W.Write.contents page1 page2 (given_traces source z shown n (given_chosen shown.terms (length z.terms) us))) c.write_own_traces.ensures.same.spec c.in_ok-given.ensures.ok in
    λ source us is given. subst (λ text. Prints g.W.Write.contents page page2 text) (sym (traces-both source y shown n us))
    (prints-both g.W.Write.contents page page1 page2 (traces source y [] shown n) (given_traces source y shown n (given_chosen shown.terms (length y.terms) us))
    (c.in_ok-own.ensures.ok source is) (printed source us is given))

pub returns-in-Some-clause-counts : goal.returns-in-Some-clause-counts
returns-in-Some-clause-counts g c =
    let y = c.args.engine.now.spec in
    let n = c.args.telling.now.options.run.steps in
    let terms = c.args.telling.now.options.terms in
    let own = c.in_ok-own.own in
    let given = c.in_ok-given.given in
    let counted = subst (λ (z : Spec). (us : List Tree) → AreGivenTerms z us c.args.terms.now
    → HasCounts Plain n z (given_chosen terms (length z.terms) us) given) c.write_own_traces.ensures.same.spec c.in_ok-given.ensures.counts in
    let sum : c.in-Some.lines ≡ own.lines + given.lines = c.in-Some.ensures.1 in
    λ us are. ap (λ k. record { lines = k; limit_lines = own.limit_lines + given.limit_lines }) sum
    ∙ counts-both y Plain n terms us own given c.in_ok-own.ensures.counts (counted us are)
