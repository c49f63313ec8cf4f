use Rattle.std.proofs.Common.{◌≤◌, sym, ap, subst, ◌∙◌}
use Rattle.rx_arena.specs.Inner.Node.{mark_of, with_mark, changed}
use Rattle.rx_arena.specs.Inner.Held.{IsHeld}
use Rattle.rx_arena.specs.Put.{altered}
use Rattle.rx_arena.specs.Inner.Pool.{PoolState}
use Rattle.rx_arena.proofs.PoolStepLemmas.{Keeps, cells_in, mark_of_small, kept-step, step_pool, step_state, held_in_store, small_there}
use Rattle.rx_arena.proofs.pool.Pool.set_mark.Goals.{After-set_mark}
use Rattle.rx_arena.proofs.pool.Pool.set_mark.Goals as goal

pub set_mark-requires-clause-held : goal.set_mark-requires-clause-held
set_mark-requires-clause-held c =
    let h = subst (λ (v : PoolState). IsHeld v.cells c.args.slot) (sym c.self.view_is) c.requires in
    held_in_store c.self.inside c.self.invariant c.args.slot h

pub set_mark-requires-clause-taken : goal.set_mark-requires-clause-taken
set_mark-requires-clause-taken c =
    let h = subst (λ (v : PoolState). IsHeld v.cells c.args.slot) (sym c.self.view_is) c.requires in
    small_there c.self.inside c.self.invariant c.args.slot h

pub set_mark-requires-clause-mark : goal.set_mark-requires-clause-mark
set_mark-requires-clause-mark c = subst (λ k. k ≤ 1) (sym c.mark_of.ensures) (mark_of_small c.self.inside.turned c.args.marked)

-- what the call makes of the parts
stepped : (c : After-set_mark) → Keeps c.self.inside c.set_mark.new.self
    (altered c.args.slot (with_mark (mark_of c.self.inside.turned c.args.marked)) (cells_in c.self.inside))
stepped c =
    let h = subst (λ (v : PoolState). IsHeld v.cells c.args.slot) (sym c.self.view_is) c.requires in
    kept-step c.self.inside c.self.invariant c.set_mark.new.self c.args.slot (with_mark (mark_of c.self.inside.turned c.args.marked)) (λ n le.
    mark_of_small c.self.inside.turned c.args.marked) h (c.set_mark.ensures
    ∙ ap (λ k. changed c.args.slot (with_mark k) c.self.inside.store) c.mark_of.ensures)

pub invariant_of-self-inside : goal.invariant_of-self-inside
invariant_of-self-inside c =
    let st = stepped (goal.at.invariant_of-self-inside c).After-set_mark in
    ((c.self.inside.listed.0, st.chain), tt)

pub invariant_of-self : goal.invariant_of-self
invariant_of-self c = step_pool (stepped (goal.at.invariant_of-self c).After-set_mark) c.self-1.given.0

pub returns : goal.returns
returns c =
    step_state (stepped (goal.at.returns c).After-set_mark) c.self-1.given.0 _
    ∙ ap (λ (v : PoolState). record v { cells = altered c.args.slot (with_mark (mark_of v.turned c.args.marked)) v.cells }) c.self.view_is
