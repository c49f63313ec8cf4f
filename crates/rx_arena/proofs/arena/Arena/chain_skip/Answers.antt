use Rattle.std.proofs.Common.{◌≡◌, ◌<◌, ◌∷◌, ◌++◌, List, ℕ, set, length, sym, ap, subst, ◌∙◌}
use Rattle.rx_arena.specs.Put.{total}
use Rattle.rx_arena.specs.Arena.{ArenaState, chain_at, besides}
use Rattle.rx_arena.proofs.ArenaReadLemmas.{chain_asked}
use Rattle.rx_arena.proofs.ArenaStepLemmas.{ArenaStep, opened, step_law, step_state}
use Rattle.rx_arena.proofs.RemovingLemmas.{besides-second, once, slot_in, before_held, next_held, next_apart, skips, total-skipped}
use Rattle.rx_arena.proofs.arena.Arena.chain_skip.Goals.{After-set_chain_next}
use Rattle.rx_arena.proofs.arena.Arena.chain_skip.Goals as goal

-- if two slots are in a chain
abbrev Row : ArenaState → ℕ → ℕ → ℕ → Type 0
Row a c b s = (front : List ℕ) × (rest : List ℕ) × (chain_at a c ≡ front ++ b ∷ s ∷ rest)

pub chain_next-next-requires : goal.chain_next-next-requires
chain_next-next-requires c =
    let r = subst (λ v. Row v c.args.chain c.args.before.0 c.args.slot.0) (sym c.self.view_is) c.requires.row in
    chain_asked c.self.inside c.self.invariant c.args.slot.0 (slot_in c.self.inside c.self.invariant c.args.chain c.args.before.0 c.args.slot.0 r.0 r.1 r.2)

pub set_chain_next-requires-clause-held : goal.set_chain_next-requires-clause-held
set_chain_next-requires-clause-held c =
    let r = subst (λ v. Row v c.args.chain c.args.before.0 c.args.slot.0) (sym c.self.view_is) c.requires.row in (
      before_held c.self.inside c.self.invariant c.args.chain c.args.before.0 c.args.slot.0 r.0 r.1 r.2,
      next_held c.self.inside c.self.invariant c.args.chain c.args.before.0 c.args.slot.0 r.0 r.1 r.2 c.chain_next-next.result c.chain_next-next.ensures,
    )

pub set_chain_next-requires-clause-apart : goal.set_chain_next-requires-clause-apart
set_chain_next-requires-clause-apart c =
    let r = subst (λ v. Row v c.args.chain c.args.before.0 c.args.slot.0) (sym c.self.view_is) c.requires.row in
    next_apart c.self.inside c.self.invariant c.args.chain c.args.before.0 c.args.slot.0 r.0 r.1 r.2 c.chain_next-next.result c.chain_next-next.ensures

pub overflow_sub-self : goal.overflow_sub-self
overflow_sub-self c =
    let lt = subst (λ (v : ArenaState). c.args.chain < length v.chains) (sym c.self.view_is) c.requires.chain in
    let r = subst (λ v. Row v c.args.chain c.args.before.0 c.args.slot.0) (sym c.self.view_is) c.requires.row in
    (total-skipped c.self.inside.linked c.self.inside.chained.0 c.args.chain c.args.before.0 c.args.slot.0 r.0 r.1 lt r.2 c.self.inside.counted).0

-- what the call makes of the parts
stepped : (c : After-set_chain_next) → ArenaStep c.set_chain_next.new.self c.self.inside.heads c.self.inside.gray_first
    (record (opened c.self.inside) { chains = set c.self.inside.chained.0 c.args.chain (besides c.args.slot.0 (chain_at (opened c.self.inside) c.args.chain)) })
stepped c =
    let lt = subst (λ (v : ArenaState). c.args.chain < length v.chains) (sym c.self.view_is) c.requires.chain in
    let r = subst (λ v. Row v c.args.chain c.args.before.0 c.args.slot.0) (sym c.self.view_is) c.requires.row in
    let left = ap (besides c.args.slot.0) r.2 ∙ besides-second c.args.before.0 c.args.slot.0 r.0 r.1
    (once c.self.inside c.self.invariant c.args.chain c.args.before.0 c.args.slot.0 r.0 r.1 r.2) in
    subst (λ z. ArenaStep c.set_chain_next.new.self c.self.inside.heads c.self.inside.gray_first
    (record (opened c.self.inside) { chains = set c.self.inside.chained.0 c.args.chain z })) (sym left)
    (skips c.self.inside c.self.invariant c.args.chain c.args.before.0 c.args.slot.0 r.0 r.1 r.2 c.chain_next-next.result c.chain_next-next.ensures
    c.set_chain_next.new.self lt c.set_chain_next.ensures)

pub invariant_of-self-inside : goal.invariant_of-self-inside
invariant_of-self-inside c =
    let st = stepped (goal.at.invariant_of-self-inside c).After-set_chain_next in
    let lt = subst (λ (v : ArenaState). c.args.chain < length v.chains) (sym c.self.view_is) c.requires.chain in
    let r = subst (λ v. Row v c.args.chain c.args.before.0 c.args.slot.0) (sym c.self.view_is) c.requires.row in
    let left = ap (besides c.args.slot.0) r.2 ∙ besides-second c.args.before.0 c.args.slot.0 r.0 r.1
    (once c.self.inside c.self.invariant c.args.chain c.args.before.0 c.args.slot.0 r.0 r.1 r.2) in
    let count = (total-skipped c.self.inside.linked c.self.inside.chained.0 c.args.chain c.args.before.0 c.args.slot.0 r.0 r.1 lt r.2
    c.self.inside.counted).1 in (
      (set c.self.inside.chained.0 c.args.chain (besides c.args.slot.0 (chain_at (opened c.self.inside) c.args.chain)), st.chained),
      ((c.self.inside.grayed.0, st.grayed), (count ∙ ap (λ z. total (set c.self.inside.chained.0 c.args.chain z)) (sym left), tt)),
    )

pub invariant_of-self : goal.invariant_of-self
invariant_of-self c = step_law (stepped (goal.at.invariant_of-self c).After-set_chain_next) c.self-1.given.0 c.self-1.given.1.0

pub returns-clause-after : goal.returns-clause-after
returns-clause-after c = step_state (stepped (goal.at.returns-clause-after c).After-set_chain_next) c.self-1.given.0 c.self-1.given.1.0
    ∙ ap (λ (v : ArenaState). record v { chains = set v.chains c.args.chain (besides c.args.slot.0 (chain_at v c.args.chain)) }) c.self.view_is

pub returns-clause-law : goal.returns-clause-law
returns-clause-law c = step_law (stepped (goal.at.returns-clause-law c).After-set_chain_next) c.self-1.given.0 c.self-1.given.1.0
