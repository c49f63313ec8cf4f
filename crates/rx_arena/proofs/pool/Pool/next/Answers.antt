use Rattle.std.proofs.Common.{◌≡◌, None, IfSome, get_or, sym, subst}
use Rattle.rx_arena.specs.Inner.Held.{IsHeld}
use Rattle.rx_arena.specs.Inner.Pool.{PoolState}
use Rattle.rx_arena.proofs.PoolStepLemmas.{held_in_store, shown}
use Rattle.rx_arena.proofs.pool.Pool.next.Goals as goal

pub next-requires : goal.next-requires
next-requires c =
    let h = subst (λ (v : PoolState). IsHeld v.cells c.args.slot) (sym c.self.view_is) c.requires in
    held_in_store c.self.inside c.self.invariant c.args.slot h

pub returns : goal.returns
returns c =
    let h = subst (λ (v : PoolState). IsHeld v.cells c.args.slot) (sym c.self.view_is) c.requires in
    subst (λ (v : PoolState). IfSome (get_or v.cells c.args.slot None) (λ n. c.next.result ≡ n.next)) c.self.view_is
    (shown c.self.inside c.self.invariant (λ n. c.next.result ≡ n.next) c.args.slot h c.next.ensures)
