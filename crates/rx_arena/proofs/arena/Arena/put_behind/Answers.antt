use Rattle.std.proofs.Common.{◌≡◌, ◌+◌, ◌<◌, [], List, ℕ, None, get_or, set, length, sym, ap, subst, ◌∙◌, arith}
use Rattle.std.specs.Prelude.{Option, replicate}
use Rattle.std.proofs.lemmas.List.{length-replicate}
use Rattle.rx_arena.specs.Arena.{ArenaState, chain_at}
use Rattle.std.specs.Prelude.{IfSome}
use Rattle.rx_arena.proofs.ArenaStepLemmas.{ArenaStep, opened, behind_step, within_heads, held_small, head_held, step_law, step_state}
use Rattle.rx_arena.proofs.TotalLemmas.{total-behind}
use Rattle.rx_arena.proofs.arena.Arena.put_behind.Goals.{After-set}
use Rattle.rx_arena.proofs.arena.Arena.put_behind.Goals as goal

pub get-head-requires : goal.get-head-requires
get-head-requires c =
    let one = subst (λ (v : ArenaState). length v.chains ≡ 1) (sym c.self.view_is) c.requires.one in
    within_heads c.self.inside c.self.invariant 0 (omega (arith, one))

pub set-requires-clause-chain : goal.set-requires-clause-chain
set-requires-clause-chain c =
    let none : Option ℕ = None in
    let long = ap length c.requires.empty in
    omega (arith, long, length-replicate (c.args.count + 1) none)

pub set-requires-clause-small : goal.set-requires-clause-small
set-requires-clause-small c =
    let head : c.get-head.result ≡ get_or c.self.inside.heads 0 None = c.get-head.ensures in
    subst (λ z. IfSome z (λ t. t < 4294967295)) (sym head) (held_small c.self.inside c.self.invariant (get_or c.self.inside.heads 0 None)
    (head_held c.self.inside c.self.invariant 0))

-- what the call makes of the parts
stepped : (c : After-set) → ArenaStep c.self.inside.pool c.set.new.self c.self.inside.gray_first
    (record (opened c.self.inside) { chains = set (replicate (c.args.count + 1) []) c.args.count (get_or c.self.inside.chained.0 0 []) })
stepped c = behind_step c.self.inside c.self.invariant c.set.new.self c.args.count c.get-head.result c.get-head.ensures c.requires.count
    (c.set.ensures ∙ ap (λ (z : List (Option ℕ)). set z c.args.count c.get-head.result) c.requires.empty)

pub invariant_of-self-inside : goal.invariant_of-self-inside
invariant_of-self-inside c =
    let st = stepped (goal.at.invariant_of-self-inside c).After-set in
    let one = subst (λ (v : ArenaState). length v.chains ≡ 1) (sym c.self.view_is) c.requires.one in (
      (set (replicate (c.args.count + 1) []) c.args.count (get_or c.self.inside.chained.0 0 []), st.chained),
      ((c.self.inside.grayed.0, st.grayed), (total-behind c.self.inside.linked c.args.count c.self.inside.chained.0 one c.self.inside.counted, tt)),
    )

pub invariant_of-self : goal.invariant_of-self
invariant_of-self c = step_law (stepped (goal.at.invariant_of-self c).After-set) c.self-1.given.0 c.self-1.given.1.0

pub returns-clause-after : goal.returns-clause-after
returns-clause-after c = step_state (stepped (goal.at.returns-clause-after c).After-set) c.self-1.given.0 c.self-1.given.1.0
    ∙ ap (λ (v : ArenaState). record v { chains = set (replicate (c.args.count + 1) []) c.args.count (chain_at v 0) }) c.self.view_is

pub returns-clause-law : goal.returns-clause-law
returns-clause-law c = step_law (stepped (goal.at.returns-clause-law c).After-set) c.self-1.given.0 c.self-1.given.1.0
