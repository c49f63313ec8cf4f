use Rattle.std.proofs.Common.{not, refl, ap, ◌∙◌}
use Rattle.rx_arena.specs.Inner.Pool.{PoolState}
use Rattle.rx_arena.proofs.PoolStepLemmas.{same-step, step_pool, step_state}
use Rattle.rx_arena.proofs.pool.Pool.turn.Goals as goal

pub invariant_of-self : goal.invariant_of-self
invariant_of-self c =
    let st = same-step c.self.inside c.self.invariant c.self.inside.store refl in
    step_pool st c.self-1.given.0

pub returns-clause-after : goal.returns-clause-after
returns-clause-after c =
    let st = same-step c.self.inside c.self.invariant c.self.inside.store refl in
    step_state st c.self-1.given.0 _
    ∙ ap (λ (v : PoolState). record v { turned = not v.turned }) c.self.view_is
