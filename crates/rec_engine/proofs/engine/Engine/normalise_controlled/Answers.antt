use Rattle.std.proofs.Common.{◌∷◌, [], subst, sym, ap, ◌≡◌, ◌∙◌, Some}
use Rattle.std.specs.Prelude.{IfOk, IfSome}
use Rattle.rx_term.specs.Tree.{Tree}
use Rattle.rx_term.specs.Store.{tree_at}
use Rattle.rx_term.specs.Steps.{Keeps}
use Rattle.rec_engine.specs.Control.{IfEnded}
use Rattle.rec_engine.specs.declared.engine.Controlled.TheVariants.{Stopped}
use Rattle.rec_engine.specs.Engine.{IsKept, IsOutcome, IsNormalised}
use Rattle.rec_engine.proofs.LimitLemmas.{limited-ok, limited-room, limited-obeys}
use Rattle.rec_engine.proofs.EngineLemmas.{all-held, ok-stays, room-stays, rewriting-all, given-kept, kept-roots}
use Rattle.rec_engine.proofs.engine.Engine.normalise_controlled.Goals as goal

pub returns-clause-keeps : goal.returns-clause-keeps
returns-clause-keeps g c =
    subst (λ b. Keeps (g.B.TermBank.store b) (g.B.TermBank.store c.normalise-outcome.new.self.heap.bank) []) (ap (λ e. e.bank) c.self.view_is)
    (kept-roots (g.B.TermBank.store c.self.inside.machine.heap.bank) (g.B.TermBank.store c.normalise-outcome.new.self.heap.bank) (c.args.t ∷ [])
    c.normalise-outcome.ensures.keeps)

pub returns-clause-given : goal.returns-clause-given
returns-clause-given g c =
    given-kept (g.B.TermBank.store c.args.self.now.bank) (g.B.TermBank.store c.normalise-outcome.new.self.heap.bank) c.args.t c.requires.tree c.requires.held
    (subst (λ b. Keeps (g.B.TermBank.store b) (g.B.TermBank.store c.normalise-outcome.new.self.heap.bank) (c.args.t ∷ []))
    (ap (λ e. e.bank) c.self.view_is) c.normalise-outcome.ensures.keeps)

pub returns-clause-outcome : goal.returns-clause-outcome
returns-clause-outcome g c =
    let w' = g.B.TermBank.store c.normalise-outcome.new.self.heap.bank in
    let x = c.normalise-outcome.result in
    limited-ok _ c.args.limits.depth x c.limit.result c.limit.ensures
    (subst (λ z. IfOk x (λ r. IfSome r (IfEnded (λ o. (u : Tree) → tree_at (g.B.TermBank.store c.args.self.now.bank) c.args.t ≡ Some u
    → IsOutcome z w' c.args.limits.steps u o)))) (sym c.normalise-outcome.ensures.spec)
    (subst (λ b. IfOk x (λ r. IfSome r (IfEnded (λ o. (u : Tree) → tree_at (g.B.TermBank.store b) c.args.t ≡ Some u
    → IsOutcome c.self.inside.machine.checked.spec w' c.args.limits.steps u o)))) (ap (λ e. e.bank) c.self.view_is) c.normalise-outcome.ensures.outcome))

pub returns-clause-rewriting : goal.returns-clause-rewriting
returns-clause-rewriting g c =
    let y = c.self.inside.machine.checked.spec in
    let w = g.B.TermBank.store c.args.self.now.bank in
    let w' = g.B.TermBank.store c.normalise-outcome.new.self.heap.bank in
    let x = c.normalise-outcome.result in
    limited-ok _ c.args.limits.depth x c.limit.result c.limit.ensures
    (subst (λ z. IfOk x (λ r. IfSome r (IfEnded (λ o. (u : Tree) → tree_at w c.args.t ≡ Some u → IsNormalised z w' c.args.limits.steps u o)))) (sym c.normalise-outcome.ensures.spec)
    (rewriting-all y c.self.invariant.1.code.kept w w' c.args.t c.args.limits.steps x
    (subst (λ b. IfOk x (λ r. IfSome r (IfEnded (λ o. (u : Tree) → tree_at (g.B.TermBank.store b) c.args.t ≡ Some u → IsOutcome y w' c.args.limits.steps u o))))
    (ap (λ e. e.bank) c.self.view_is) c.normalise-outcome.ensures.outcome)))

pub returns-clause-kept : goal.returns-clause-kept
returns-clause-kept g c = limited-ok (IfEnded (IsKept c.let_go.new.work.items)) c.args.limits.depth c.normalise-outcome.result c.limit.result c.limit.ensures
    (ok-stays c.normalise-outcome.new.self.heap.work.items c.let_go.new.work.items c.normalise-outcome.result (λ r work. IfSome r (IfEnded (IsKept work)))
    c.let_go.ensures c.normalise-outcome.ensures.kept)

pub returns-clause-held : goal.returns-clause-held
returns-clause-held g c = all-held c.normalise-outcome.new.self.heap.work.items c.let_go.new.work.items c.normalise-outcome.result
    (g.B.TermBank.store c.normalise-outcome.new.self.heap.bank) c.normalise-outcome.new.self.heap.pace.memo c.let_go.ensures
    c.normalise-outcome.ensures.held c.normalise-outcome.ensures.room

pub returns-clause-fault : goal.returns-clause-fault
returns-clause-fault g c = limited-room (g.B.TermBank.store c.normalise-outcome.new.self.heap.bank) c.let_go.new.work.items
    c.normalise-outcome.new.self.heap.pace.memo c.normalise-outcome.new.self.state c.args.limits.depth c.normalise-outcome.result c.limit.result
    c.limit.ensures (c.normalise-outcome.ensures.depth ∙ c.restart.ensures) c.normalise-outcome.ensures.deep
    (room-stays c.normalise-outcome.new.self.heap.work.items c.let_go.new.work.items c.normalise-outcome.result
    (g.B.TermBank.store c.normalise-outcome.new.self.heap.bank) c.normalise-outcome.new.self.heap.pace.memo c.let_go.ensures c.normalise-outcome.ensures.room)

pub returns-clause-bound : goal.returns-clause-bound
returns-clause-bound g c = record { bound = c.normalise-outcome.ensures.depth ∙ c.restart.ensures; within = c.normalise-outcome.new.self.state.bounded }

pub returns-clause-obeys : goal.returns-clause-obeys
returns-clause-obeys g c = limited-obeys Stopped c.args.limits.depth c.normalise-outcome.result c.limit.result c.limit.ensures
    c.normalise-outcome.ensures.obeys
