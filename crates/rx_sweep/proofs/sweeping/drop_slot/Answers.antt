use Rattle.std.proofs.Common.{◌≡◌, ◌<◌, ◌+◌, ◌%◌, ℕ, length, set, None, IfSome, sym, ap, subst, ◌∙◌}
use Rattle.rx_arena.specs.Put.{times, put}
use Rattle.rx_arena.specs.declared.CellBody.{CellBody}
use Rattle.rx_arena.specs.Arena.{ArenaState, taken_at, IsTaken, chain_at, besides}
use Rattle.rx_arena.proofs.DealingLemmas.{hash_of}
use Rattle.rx_sweep.specs.Reach.{home}
use Rattle.rx_sweep.proofs.HomingLemmas.{home_some, home_below, left_loose}
use Rattle.rx_sweep.proofs.sweeping.drop_slot.Goals as goal

-- the chain that is looked up is the slot's own
named : (a : ArenaState) (k to : ℕ) (body : CellBody) → IsTaken a k → IfSome (taken_at a k) (λ t. body ≡ t.body) → to ≡ body.hash % length a.chains
    → to ≡ home a k
named a k to body taken read is = is ∙ ap (λ z. z % length a.chains) (hash_of a k body taken read)

pub home-chain-requires : goal.home-chain-requires
home-chain-requires c = record { some = home_some c.args.arena.now c.args.slot.0 c.requires.there }

pub chain_remove-requires-clause-chain : goal.chain_remove-requires-clause-chain
chain_remove-requires-clause-chain c =
    let is = named c.args.arena.now c.args.slot.0 c.home-chain.result c.read.result c.requires.taken c.read.ensures c.home-chain.ensures.value in
    subst (λ z. z < length c.args.arena.now.chains) (sym is) (home_below c.args.arena.now c.args.slot.0 c.requires.there)

pub chain_remove-requires-clause-there : goal.chain_remove-requires-clause-there
chain_remove-requires-clause-there c =
    let is = named c.args.arena.now c.args.slot.0 c.home-chain.result c.read.result c.requires.taken c.read.ensures c.home-chain.ensures.value in
    subst (λ z. 0 < times c.args.slot.0 (chain_at c.args.arena.now z)) (sym is) c.requires.there

pub give_back-requires-clause-loose : goal.give_back-requires-clause-loose
give_back-requires-clause-loose c =
    let is = named c.args.arena.now c.args.slot.0 c.home-chain.result c.read.result c.requires.taken c.read.ensures c.home-chain.ensures.value in
    let after = c.chain_remove.ensures.after
    ∙ ap (λ z. record c.args.arena.now { chains = set c.args.arena.now.chains z (besides c.args.slot.0 (chain_at c.args.arena.now z)) }) is in
    left_loose c.args.arena.now c.args.slot.0 c.requires.there c.chain_remove.new.self (ap (λ (v : ArenaState). v.chains) after) c.home-chain.ensures.law

pub returns-clause-after : goal.returns-clause-after
returns-clause-after c =
    let is = named c.args.arena.now c.args.slot.0 c.home-chain.result c.read.result c.requires.taken c.read.ensures c.home-chain.ensures.value in
    let after = c.chain_remove.ensures.after
    ∙ ap (λ z. record c.args.arena.now { chains = set c.args.arena.now.chains z (besides c.args.slot.0 (chain_at c.args.arena.now z)) }) is in
    c.give_back.ensures.after ∙ ap (λ (v : ArenaState). record v { cells = put v.cells c.args.slot.0 None; spare = v.spare + 1 }) after
