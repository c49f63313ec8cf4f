use Rattle.std.proofs.Common.{Some, ◌≡◌, ◌+◌, ◌-◌, ◌∷◌, None, sym, ap, subst, ◌∙◌, arith, min}
use Rattle.rx_arena.specs.Inner.Held.{IsHeld}
use Rattle.rx_arena.specs.Put.{put, filled}
use Rattle.rx_arena.specs.Inner.Pool.{PoolState, spare_of, cells_of}
use Rattle.rx_arena.proofs.PoolStepLemmas.{Step, cells_in, pool_room, given_back-step, given_back_some}
use Rattle.rx_arena.proofs.PoolStepLemmas.{first_small, held_in_store, step_pool, step_state}
use Rattle.rx_arena.proofs.pool.Pool.give_back.Goals.{After-give_back}
use Rattle.rx_arena.proofs.pool.Pool.give_back.Goals as goal

pub give_back-requires-clause-held : goal.give_back-requires-clause-held
give_back-requires-clause-held c =
    let h = subst (λ (v : PoolState). IsHeld v.cells c.args.slot) (sym c.self.view_is) c.requires in
    held_in_store c.self.inside c.self.invariant c.args.slot h

pub give_back-requires-clause-small : goal.give_back-requires-clause-small
give_back-requires-clause-small c = first_small c.self.inside c.self.invariant

pub overflow_sub-self : goal.overflow_sub-self
overflow_sub-self c =
    let h = subst (λ (v : PoolState). IsHeld v.cells c.args.slot) (sym c.self.view_is) c.requires in
    given_back_some c.self.inside c.self.invariant c.args.slot h

-- what the call makes of the parts
stepped : (c : After-give_back) → Step c.give_back.new.self (Some c.args.slot) (c.args.slot ∷ c.self.inside.listed.0) c.self.inside.fresh
    (c.self.inside.taken - 1) c.self.inside.room c.self.inside.cap (put (cells_in c.self.inside) c.args.slot None)
stepped c =
    let h = subst (λ (v : PoolState). IsHeld v.cells c.args.slot) (sym c.self.view_is) c.requires in
    given_back-step c.self.inside c.self.invariant c.give_back.new.self c.args.slot h c.give_back.ensures

pub invariant_of-self-inside : goal.invariant_of-self-inside
invariant_of-self-inside c =
    let st = stepped (goal.at.invariant_of-self-inside c).After-give_back in
    ((c.args.slot ∷ c.self.inside.listed.0, st.chain), tt)

pub invariant_of-self : goal.invariant_of-self
invariant_of-self c = step_pool (stepped (goal.at.invariant_of-self c).After-give_back) c.self-1.given.0

pub returns-clause-after : goal.returns-clause-after
returns-clause-after c =
    step_state (stepped (goal.at.returns-clause-after c).After-give_back) c.self-1.given.0 _
    ∙ ap (λ (v : PoolState). record v { cells = put v.cells c.args.slot None; free = c.args.slot ∷ v.free }) c.self.view_is

pub returns-clause-spare : goal.returns-clause-spare
returns-clause-spare c =
    let h = subst (λ (v : PoolState). IsHeld v.cells c.args.slot) (sym c.self.view_is) c.requires in
    let new = pool_room (step_pool (stepped (goal.at.returns-clause-spare c).After-give_back) c.self-1.given.0) in
    let old = pool_room c.self.invariant in
    let some = given_back_some c.self.inside c.self.invariant c.args.slot h in
    subst (λ (v : PoolState). (min c.self.inside.cap c.self.inside.room - filled
    (cells_of c.give_back.new.self c.self-1.given.0.0 c.self.inside.fresh)) ≡ spare_of v + 1) c.self.view_is (omega (arith, new, old, some))
