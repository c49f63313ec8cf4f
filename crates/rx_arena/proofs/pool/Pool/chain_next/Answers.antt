use Rattle.std.proofs.Common.{◌≡◌, None, IfSome, get_or, sym, subst}
use Rattle.rx_arena.specs.Inner.Held.{IsHeld}
use Rattle.rx_arena.specs.Inner.Pool.{PoolState}
use Rattle.rx_arena.proofs.PoolStepLemmas.{held_in_store, shown, link_held}
use Rattle.rx_arena.proofs.pool.Pool.chain_next.Goals as goal

pub chain_next-requires : goal.chain_next-requires
chain_next-requires c =
    let asked = subst (λ (v : PoolState). IsHeld v.cells c.args.slot
    × IfSome (get_or v.cells c.args.slot None) (λ n. IfSome n.chain (IsHeld v.cells))) (sym c.self.view_is) c.requires in (
      held_in_store c.self.inside c.self.invariant c.args.slot asked.0,
      link_held c.self.inside c.self.invariant c.args.slot asked.0 asked.1,
    )

pub returns : goal.returns
returns c =
    let asked = subst (λ (v : PoolState). IsHeld v.cells c.args.slot
    × IfSome (get_or v.cells c.args.slot None) (λ n. IfSome n.chain (IsHeld v.cells))) (sym c.self.view_is) c.requires in
    subst (λ (v : PoolState). IfSome (get_or v.cells c.args.slot None) (λ n. c.chain_next.result ≡ n.chain)) c.self.view_is
    (shown c.self.inside c.self.invariant (λ n. c.chain_next.result ≡ n.chain) c.args.slot asked.0 c.chain_next.ensures)
