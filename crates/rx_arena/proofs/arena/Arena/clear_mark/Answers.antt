use Rattle.std.proofs.Common.{◌≡◌, refl, sym, ap, subst, ◌∙◌, arith, false}
use Rattle.rx_arena.specs.Inner.Node.{mark_of, with_mark}
use Rattle.rx_arena.specs.Put.{times, altered}
use Rattle.rx_arena.specs.Arena.{ArenaState, IsTaken, with_marking}
use Rattle.rx_arena.proofs.ArenaLawLemmas.{altered_law}
use Rattle.rx_arena.proofs.ArenaStepLemmas.{ArenaStep, opened, shown-marked, altered_step, step_law, step_state, held_taken}
use Rattle.rx_arena.proofs.arena.Arena.clear_mark.Goals.{After-set_mark}
use Rattle.rx_arena.proofs.arena.Arena.clear_mark.Goals as goal

pub set_mark-requires : goal.set_mark-requires
set_mark-requires c =
    let h = subst (λ (v : ArenaState). IsTaken v c.args.slot.0) (sym c.self.view_is) c.requires.taken in
    held_taken c.self.inside c.self.invariant c.args.slot.0 h

-- what the call makes of the parts
stepped : (c : After-set_mark) → ArenaStep c.set_mark.new.self c.self.inside.heads c.self.inside.gray_first
    (record (opened c.self.inside) { cells = altered c.args.slot.0 (with_marking false) (opened c.self.inside).cells })
stepped c =
    let h = subst (λ (v : ArenaState). IsTaken v c.args.slot.0) (sym c.self.view_is) c.requires.taken in
    let away = subst (λ (v : ArenaState). times c.args.slot.0 v.gray ≡ 0) (sym c.self.view_is) c.requires.not_gray in
    altered_step c.self.inside c.self.invariant c.set_mark.new.self c.args.slot.0 (with_mark (mark_of c.self.inside.pool.turned false))
    (with_marking false) h c.set_mark.ensures (λ n. (shown-marked c.self.inside.pool.turned false n, refl, refl))
    (altered_law _ c.self.invariant c.args.slot.0 (with_marking false) h.0 h.1 (λ g. absurd (omega (arith, g, away))))

pub invariant_of-self-inside : goal.invariant_of-self-inside
invariant_of-self-inside c =
    let st = stepped (goal.at.invariant_of-self-inside c).After-set_mark in
    ((c.self.inside.chained.0, st.chained), ((c.self.inside.grayed.0, st.grayed), (c.self.inside.counted, tt)))

pub invariant_of-self : goal.invariant_of-self
invariant_of-self c = step_law (stepped (goal.at.invariant_of-self c).After-set_mark) c.self-1.given.0 c.self-1.given.1.0

pub returns-clause-after : goal.returns-clause-after
returns-clause-after c = step_state (stepped (goal.at.returns-clause-after c).After-set_mark) c.self-1.given.0 c.self-1.given.1.0
    ∙ ap (λ (v : ArenaState). record v { cells = altered c.args.slot.0 (with_marking false) v.cells }) c.self.view_is

pub returns-clause-law : goal.returns-clause-law
returns-clause-law c = step_law (stepped (goal.at.returns-clause-law c).After-set_mark) c.self-1.given.0 c.self-1.given.1.0
