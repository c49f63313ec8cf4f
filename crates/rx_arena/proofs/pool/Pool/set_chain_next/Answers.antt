use Rattle.std.proofs.Common.{IfSome, sym, ap, subst, ◌∙◌}
use Rattle.rx_arena.specs.Inner.Node.{with_chain}
use Rattle.rx_arena.specs.Inner.Held.{IsHeld}
use Rattle.rx_arena.specs.Put.{altered}
use Rattle.rx_arena.specs.Inner.Pool.{PoolState}
use Rattle.rx_arena.proofs.PoolStepLemmas.{Keeps, cells_in, kept-step, step_pool, step_state, held_in_store, within_links}
use Rattle.rx_arena.proofs.pool.Pool.set_chain_next.Goals.{After-set_chain_next}
use Rattle.rx_arena.proofs.pool.Pool.set_chain_next.Goals as goal

pub set_chain_next-requires-clause-held : goal.set_chain_next-requires-clause-held
set_chain_next-requires-clause-held c =
    let asked = subst (λ (v : PoolState). IsHeld v.cells c.args.slot × IfSome c.args.next (IsHeld v.cells)) (sym c.self.view_is) c.requires.held in
    (held_in_store c.self.inside c.self.invariant c.args.slot asked.0, within_links c.self.inside c.self.invariant c.args.next asked.1)

-- what the call makes of the parts
stepped : (c : After-set_chain_next) → Keeps c.self.inside c.set_chain_next.new.self (altered c.args.slot (with_chain c.args.next) (cells_in c.self.inside))
stepped c =
    let asked = subst (λ (v : PoolState). IsHeld v.cells c.args.slot × IfSome c.args.next (IsHeld v.cells)) (sym c.self.view_is) c.requires.held in
    kept-step c.self.inside c.self.invariant c.set_chain_next.new.self c.args.slot (with_chain c.args.next) (λ n le. le) asked.0 c.set_chain_next.ensures

pub invariant_of-self-inside : goal.invariant_of-self-inside
invariant_of-self-inside c =
    let st = stepped (goal.at.invariant_of-self-inside c).After-set_chain_next in
    ((c.self.inside.listed.0, st.chain), tt)

pub invariant_of-self : goal.invariant_of-self
invariant_of-self c = step_pool (stepped (goal.at.invariant_of-self c).After-set_chain_next) c.self-1.given.0

pub returns : goal.returns
returns c =
    step_state (stepped (goal.at.returns c).After-set_chain_next) c.self-1.given.0 _
    ∙ ap (λ (v : PoolState). record v { cells = altered c.args.slot (with_chain c.args.next) v.cells }) c.self.view_is
