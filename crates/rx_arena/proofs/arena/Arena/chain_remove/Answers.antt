use Rattle.std.proofs.Common.{◌≡◌, ◌∷◌, List, ℕ, subst}
use Rattle.std.specs.Prelude.{IfNone}
use Rattle.rx_arena.specs.Arena.{chain_at}
use Rattle.rx_arena.proofs.RemovingLemmas.{popped_slot}
use Rattle.rx_arena.proofs.arena.Arena.chain_remove.Goals as goal

pub returns-in-None-clause-after : goal.returns-in-None-clause-after
returns-in-None-clause-after c =
    let row = subst (λ z. IfNone z ((rest : List ℕ) × (chain_at c.args.self.now c.args.chain ≡ c.args.slot.0 ∷ rest))) c.in-None.is
    c.chain_before.ensures.first in
    popped_slot c.args.self.now c.chain_pop.new.self c.args.chain c.args.slot.0 c.chain_pop.result c.chain_before.ensures.law row
    c.chain_pop.ensures.first c.chain_pop.ensures.rest
