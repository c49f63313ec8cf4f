use Rattle.std.proofs.Common.{Some, [], ap, subst, sym, true, ◌∙◌, ◌∷◌}
use Rattle.rx_term.specs.Store.{tree_at}
use Rattle.rec_trace_run.specs.Inner.Telling.{AddsIf}
use Rattle.rec_trace_run.proofs.NextLemmas.{one-picked, takes-line}
use Rattle.rec_trace_run.proofs.next.next_line.Goals as goal

pub returns-clause-line : goal.returns-clause-line
returns-clause-line g c = λ source w t before is seen f.
    let options = c.args.telling.now.options in
    let section = c.args.section.now in
    let redex = ap (λ b. tree_at (g.B.TermBank.store b) c.args.fired.redex) c.bank.ensures ∙ f.redex_is in
    let picked = sym (c.is_picked.ensures source c.args.engine.now.spec f.firing is f.rule_is redex) ∙ c.if-not-is_picked.false in
    takes-line source options before f.firing section c.take.new.self true (Some c.in_ok-line.line) (one-picked source options before f.firing picked)
    (subst (AddsIf section) c.if-not-here.false c.in_ok-here.ensures.line) c.in_ok-here.ensures.counted
    (ap (λ l. l ∷ []) (c.in_ok-line.ensures.text source w t is f)) seen
