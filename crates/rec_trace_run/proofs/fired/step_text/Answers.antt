use Rattle.std.proofs.Common.{◌-◌, Some, ap, is_some, sym, ◌∙◌}
use Rattle.rx_term.specs.Store.{tree_at}
use Rattle.rec_trace_run.specs.Traces.{shown_by}
use Rattle.rec_trace_run.proofs.StepLemmas.{fired-spot, line-fired, line-whole}
use Rattle.rec_trace_run.proofs.fired.step_text.Goals as goal

pub firing_line-requires-clause-contractum : goal.firing_line-requires-clause-contractum
firing_line-requires-clause-contractum g c =
    let f = c.requires.fired.2 in
    ap is_some (ap (λ b. tree_at (g.B.TermBank.store b) c.in_ok-rewrite.rewrite.contractum) c.bank-else-telling.ensures
    ∙ c.in_ok-rewrite.ensures.contractum f.firing.redex f.firing.contractum f.redex_is f.rewrites)

pub returns-in-Ok-clause-text : goal.returns-in-Ok-clause-text
returns-in-Ok-clause-text g c = λ source w t is f.
    let telling = c.args.telling.now in
    let n = telling.options.run.steps in
    let spot = c.index-spot.result.now in
    let whole = ap (λ b. tree_at (g.B.TermBank.store b) c.in_ok-whole.whole) c.bank.ensures ∙ c.in_ok-whole.ensures.whole ∙ ap Some (sym f.after_is) in
    c.in-Ok.ensures f.firing.after whole
    ∙ line-whole source (shown_by telling.options) n f.firing spot _ _ (n - c.left.result)
    (c.index-spot.ensures ∙ fired-spot source c.args.engine.now.spec telling c.args.fired.rule f.firing.found.rule spot is f.rule_is)
    c.look-look.ensures.counted c.look-look.ensures.width (ap (λ k. n - k) (c.left.ensures ∙ sym f.left_is)) c.if-telling.true

pub returns-in-Ok-firing_line-clause-text : goal.returns-in-Ok-firing_line-clause-text
returns-in-Ok-firing_line-clause-text g c = λ source w t is f.
    let telling = c.args.telling.now in
    let n = telling.options.run.steps in
    let spot = c.index-spot.result.now in
    let made = c.in_ok-rewrite.rewrite in
    let redex = ap (λ b. tree_at (g.B.TermBank.store b) made.redex) c.bank-else-telling.ensures ∙ c.in_ok-rewrite.ensures.redex ∙ f.redex_is in
    let contractum = ap (λ b. tree_at (g.B.TermBank.store b) made.contractum) c.bank-else-telling.ensures
    ∙ c.in_ok-rewrite.ensures.contractum f.firing.redex f.firing.contractum f.redex_is f.rewrites in
    c.in-Ok-firing_line.ensures f.firing.redex f.firing.contractum redex contractum
    ∙ line-fired source (shown_by telling.options) n f.firing spot _ _ (n - c.left.result)
    (c.index-spot.ensures ∙ fired-spot source c.args.engine.now.spec telling c.args.fired.rule f.firing.found.rule spot is f.rule_is)
    c.look-look.ensures.counted c.look-look.ensures.width (ap (λ k. n - k) (c.left.ensures ∙ sym f.left_is)) c.if-telling.false
