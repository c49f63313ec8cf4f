use Rattle.std.proofs.Common.{◌≡◌, None, IfSome, get_or, sym, subst}
use Rattle.rx_arena.specs.Inner.Held.{IsHeld}
use Rattle.rx_arena.specs.Faces.{word_of}
use Rattle.rx_arena.specs.Inner.Pool.{PoolState}
use Rattle.rx_arena.proofs.PoolStepLemmas.{within_store, word_there}
use Rattle.rx_arena.proofs.pool.Pool.word.Goals as goal

pub word-requires : goal.word-requires
word-requires c =
    let h = subst (λ (v : PoolState). IsHeld v.cells c.args.slot) (sym c.self.view_is) c.requires in
    within_store c.self.inside c.self.invariant c.args.slot h

pub returns : goal.returns
returns c =
    let h = subst (λ (v : PoolState). IsHeld v.cells c.args.slot) (sym c.self.view_is) c.requires in
    subst (λ (v : PoolState). IfSome (get_or v.cells c.args.slot None) (λ n. c.word.result ≡ word_of n.body)) c.self.view_is
    (word_there c.self.inside c.self.invariant c.args.slot h c.word.result c.word.ensures)
