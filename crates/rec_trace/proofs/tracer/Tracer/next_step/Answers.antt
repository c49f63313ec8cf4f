use Rattle.std.proofs.Common.{◌≡◌, subst}
use Rattle.std.specs.Prelude.{Some}
use Rattle.rx_term.specs.Tree.{Tree}
use Rattle.rx_term.specs.Store.{tree_at}
use Rattle.rec_syntax.specs.Syntax.{Spec}
use Rattle.rec_trace.specs.Tracing.{Rewrites, rest_of, whole_of}
use Rattle.rec_trace.proofs.ListLemmas.{stays-trans}
use Rattle.rec_trace.proofs.StepLemmas.{event-fired}
use Rattle.rec_trace.proofs.tracer.Tracer.next_step.Goals as goal

pub returns-in_err-redex-in-Fired-clause-spares : goal.returns-in_err-redex-in-Fired-clause-spares
returns-in_err-redex-in-Fired-clause-spares g c = stays-trans c.next_event.ensures.spares c.rewrite.ensures.spares

pub returns-in_ok-redex-in-Fired-clause-spares : goal.returns-in_ok-redex-in-Fired-clause-spares
returns-in_ok-redex-in-Fired-clause-spares g c = stays-trans c.next_event.ensures.spares c.rewrite.ensures.spares

pub returns-in_ok-redex-in-Fired-clause-turn : goal.returns-in_ok-redex-in-Fired-clause-turn
returns-in_ok-redex-in-Fired-clause-turn g c =
    let y = c.args.engine.now.spec in
    let w = g.B.TermBank.store c.args.engine.now.bank in
    let w1 = g.B.TermBank.store c.next_event.new.engine.bank in
    let w2 = g.B.TermBank.store c.rewrite.new.engine.bank in
    let b = c.next_event.new.self in
    let d = c.rewrite.new.self in
    let same = c.next_event.ensures.same.spec in
    let made = c.in_ok-redex-in-Fired.ensures in
    let contractum = c.in_ok-redex-in-Fired.field-0.contractum in
    event-fired y w w1 w2 c.args.self.now b d c.in_ok-next_event.field-0 c.in-Fired.rule c.in-Fired.redex c.in_ok-redex-in-Fired.field-0.redex contractum
    c.in-Fired.is c.in_ok-next_event.ensures.event c.rewrite.ensures.left (subst (λ (z : Spec). rest_of z w2 d ≡ rest_of z w1 b) same c.rewrite.ensures.rest)
    (subst (λ (z : Spec). whole_of z w2 d ≡ whole_of z w1 b) same c.rewrite.ensures.whole) made.redex
    (subst (λ (z : Spec). (u v : Tree) → tree_at w1 c.in-Fired.redex ≡ Some u → Rewrites z c.in-Fired.rule u v → tree_at w2 contractum ≡ Some v) same
    made.contractum)
