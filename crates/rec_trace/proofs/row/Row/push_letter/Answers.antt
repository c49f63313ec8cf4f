use Rattle.std.proofs.Common.{◌++◌, ◌-◌, ◌∷◌, ◌∙◌, [], ap, arith, length, subst}
use Rattle.std.specs.Prelude.{◌≡◌, if◌then◌else◌}
use Rattle.std.proofs.lemmas.Option.{get_or_from_slice_get}
use Rattle.rx_term.specs.Walks.{held_tree}
use Rattle.rec_trace.specs.Inner.Sides.{HasValues}
use Rattle.rec_trace.specs.Inner.Spreading.{top_of}
use Rattle.rec_trace.specs.declared.row.Step.TheVariants as step
use Rattle.rec_trace.proofs.SpreadLemmas.{pushes-variable}
use Rattle.rec_trace.proofs.row.Row.push_letter.Goals as goal

pub returns-in_ok-push-in-Variable-clause-pushed : goal.returns-in_ok-push-in-Variable-clause-pushed
returns-in_ok-push-in-Variable-clause-pushed g c =
    let a = c.args.self.now in
    let w = g.B.TermBank.store c.args.engine.now.bank in
    let t = c.binding-value.result in
    let top : top_of c.args.self.now ≡ c.top-whole.result =
    get_or_from_slice_get a.values.items (length a.values.items - 1) c.top-whole.result (record { 0 = 0 }) c.top-whole.ensures in
    let n = c.len-at.ensures in
    let long = a.values.ok.0 in
    let place : c.len-at.result - 1 ≡ length c.args.self.now.values.items - 1 = omega (arith, n, long) in
    pushes-variable c.args.engine.now.spec w a c.push.new.self c.args.rule c.args.letter c.args.bind.now c.args.pushed c.in-Variable.variable t
    c.in-Variable.is (c.requires.can.3.within t c.binding-value.ensures.among)
    (λ r s match values. c.binding-value.ensures.value r s (held_tree w (top_of a)) match (subst (λ z. HasValues w z c.args.bind.now s) top values))
    (c.in_ok-push-in-Variable.ensures.steps
    ∙ ap (λ x. a.steps.items ++ x ∷ []) (c.giving.ensures ∙ ap (λ k. if c.args.pushed then step.Give t else step.GiveLast t k) place))
