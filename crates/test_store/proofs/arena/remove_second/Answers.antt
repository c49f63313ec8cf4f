use Rattle.std.proofs.Common.{◌<◌, ◌∷◌, [], sym, ap, subst, ◌∙◌, arith}
use Rattle.std.specs.Prelude.{IfSome}
use Rattle.rx_arena.specs.Put.{times}
use Rattle.rx_arena.specs.Arena.{chain_at, InChain, IsFirst}
use Rattle.rx_arena.proofs.PutLemmas.{one_if-same}
use Rattle.rx_arena.proofs.ArenaCallLemmas.{first_chained}
use Rattle.test_store.proofs.arena.remove_second.Goals as goal

pub chain_next-requires : goal.chain_next-requires
chain_next-requires g c =
    subst (λ o. IfSome o (λ s. InChain c.args.arena.now s.0)) c.expect-first.ensures
    (first_chained c.args.arena.now c.args.chain c.chain_first.result c.chain_first.ensures.first)

pub chain_remove-requires-clause-there : goal.chain_remove-requires-clause-there
chain_remove-requires-clause-there g c =
    let one = subst (λ o. IsFirst o (chain_at c.args.arena.now c.args.chain)) c.expect-first.ensures c.chain_first.ensures.first in
    let two = subst (λ o. IsFirst o one.0) c.expect-second.ensures (c.chain_next.ensures.next c.args.chain [] one.0 one.1) in
    subst (λ z. 0 < times c.expect-second.result.0 z) (sym (one.1 ∙ ap (λ z. c.expect-first.result.0 ∷ z) two.1))
    (omega (arith, one_if-same c.expect-second.result.0))
