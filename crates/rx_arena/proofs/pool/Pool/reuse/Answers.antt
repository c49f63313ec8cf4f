use Rattle.std.proofs.Common.{◌≡◌, ◌+◌, ◌<◌, ◌≤◌, ◌∷◌, List, ℕ, Some, None, get_or, set, false, refl, sym, ap, subst, ◌∙◌}
use Rattle.rx_arena.specs.Inner.Node.{mark_of, lone}
use Rattle.rx_arena.specs.Put.{put, filled}
use Rattle.rx_arena.specs.Inner.Pool.{PoolState}
use Rattle.rx_arena.specs.Inner.Pool.{spare_of}
use Rattle.rx_arena.proofs.ChainLemmas.{ended}
use Rattle.rx_arena.proofs.PutLemmas.{within_some}
use Rattle.rx_arena.proofs.PoolStepLemmas.{Step, cells_in, mark_of_small, reused-step, step_pool, step_free, step_cells, same_pool}
use Rattle.rx_arena.proofs.PoolStepLemmas.{front, front_held, front_split, front_free, front_below, pool_fits}
use Rattle.rx_arena.proofs.pool.Pool.reuse.Goals.{After-fill}
use Rattle.rx_arena.proofs.pool.Pool.reuse.Goals as goal

pub next-self-inside-requires : goal.next-self-inside-requires
next-self-inside-requires c = front_held c.self.inside c.self.invariant c.in-Some.slot c.in-Some.is

pub fill-requires-clause-mark : goal.fill-requires-clause-mark
fill-requires-clause-mark c = subst (λ k. k ≤ 1) (sym c.mark_of.ensures) (mark_of_small c.self.inside.turned false)

pub fill-requires-clause-slot : goal.fill-requires-clause-slot
fill-requires-clause-slot c = let h = front_held c.self.inside c.self.invariant c.in-Some.slot c.in-Some.is in
    within_some c.self.inside.store c.in-Some.slot h.0 h.1

-- what the call makes of the parts
stepped : (c : After-fill) → Step c.fill.new.self c.next-self-inside.result (front c.self.inside c.self.invariant c.in-Some.slot c.in-Some.is).0
    c.self.inside.fresh (c.self.inside.taken + 1) c.self.inside.room c.self.inside.cap
    (put (cells_in c.self.inside) c.in-Some.slot (Some (lone (mark_of c.self.inside.turned false) c.args.body)))
stepped c =
    reused-step c.self.inside c.self.invariant c.in-Some.slot c.in-Some.is c.fill.new.self (lone (mark_of c.self.inside.turned false) c.args.body)
    c.next-self-inside.result (mark_of_small c.self.inside.turned false) c.next-self-inside.ensures
    (c.fill.ensures ∙ ap (λ k. set c.self.inside.store c.in-Some.slot (Some (lone k c.args.body))) c.mark_of.ensures)

pub invariant_of-self-inside : goal.invariant_of-self-inside
invariant_of-self-inside c =
    let st = stepped (goal.at.invariant_of-self-inside c).After-fill in
    (((front c.self.inside c.self.invariant c.in-Some.slot c.in-Some.is).0, st.chain), tt)

pub invariant_of-self : goal.invariant_of-self
invariant_of-self c = step_pool (stepped (goal.at.invariant_of-self c).After-fill) c.self-1.given.0

pub returns-in-Some-clause-listed : goal.returns-in-Some-clause-listed
returns-in-Some-clause-listed c = ap (λ (v : PoolState). v.free) (sym c.self.view_is)
    ∙ front_split c.self.inside c.self.invariant c.in-Some.slot c.in-Some.is
    ∙ ap (λ (z : List ℕ). c.in-Some.slot ∷ z) (sym (step_free (stepped (goal.at.returns-in-Some-clause-listed c).After-fill) c.self-1.given.0))

pub returns-in-Some-clause-was_free : goal.returns-in-Some-clause-was_free
returns-in-Some-clause-was_free c = subst (λ (v : PoolState). get_or v.cells c.in-Some.slot None ≡ None) c.self.view_is
    (front_free c.self.inside c.self.invariant c.in-Some.slot c.in-Some.is)

pub returns-in-Some-clause-below : goal.returns-in-Some-clause-below
returns-in-Some-clause-below c = subst (λ (v : PoolState). c.in-Some.slot < v.cap) c.self.view_is
    (front_below c.self.inside c.self.invariant c.in-Some.slot c.in-Some.is)

pub returns-in-Some-clause-some : goal.returns-in-Some-clause-some
returns-in-Some-clause-some c =
    same_pool _ _ _ _ _ _ _ _ (step_cells (stepped (goal.at.returns-in-Some-clause-some c).After-fill) c.self-1.given.0) refl
    ∙ ap (λ (v : PoolState). record v {
      cells = put v.cells c.in-Some.slot (Some (lone (mark_of v.turned false) c.args.body));
      free =
          c.self-1.given.0.0;
    }) c.self.view_is

pub returns-in-Some-clause-fits : goal.returns-in-Some-clause-fits
returns-in-Some-clause-fits c = pool_fits (step_pool (stepped (goal.at.returns-in-Some-clause-fits c).After-fill) c.self-1.given.0)

pub returns-in-None-clause-listed : goal.returns-in-None-clause-listed
returns-in-None-clause-listed c = ap (λ (v : PoolState). v.free) (sym c.self.view_is) ∙ ended _ _ _ c.self.inside.listed.1 c.in-None.is

pub returns-in-None-clause-fits : goal.returns-in-None-clause-fits
returns-in-None-clause-fits c = subst (λ (v : PoolState). spare_of v + filled v.cells ≤ v.cap) c.self.view_is (pool_fits c.self.invariant)
