use Rattle.std.proofs.Common.{Some, ◌≡◌, ◌∷◌, sym, ap, subst, ◌∙◌, true, false}
use Rattle.rx_arena.specs.Put.{altered}
use Rattle.rx_arena.specs.Arena.{ArenaState, IsTaken, marked_at, with_marking}
use Rattle.rx_arena.proofs.ArenaLawLemmas.{unmarked_away}
use Rattle.rx_arena.proofs.ArenaStepLemmas.{ArenaStep, opened, gray_push_step, gray_push_held, gray_small, step_law, step_state, held_taken}
use Rattle.rx_arena.proofs.arena.Arena.gray_push.Goals.{After-set_next}
use Rattle.rx_arena.proofs.arena.Arena.gray_push.Goals as goal

pub set_mark-requires : goal.set_mark-requires
set_mark-requires c =
    let h = subst (λ (v : ArenaState). IsTaken v c.args.slot.0) (sym c.self.view_is) c.requires.taken in
    held_taken c.self.inside c.self.invariant c.args.slot.0 h

pub set_next-requires-clause-held : goal.set_next-requires-clause-held
set_next-requires-clause-held c =
    let h = subst (λ (v : ArenaState). IsTaken v c.args.slot.0) (sym c.self.view_is) c.requires.taken in
    let unmarked = subst (λ (v : ArenaState). marked_at v c.args.slot.0 ≡ false) (sym c.self.view_is) c.requires.unmarked in
    gray_push_held c.self.inside c.self.invariant c.set_mark.new.self c.set_mark.new.self c.args.slot.0 h
    (unmarked_away _ c.self.invariant c.args.slot.0 unmarked) c.set_mark.ensures

pub set_next-requires-clause-small : goal.set_next-requires-clause-small
set_next-requires-clause-small c = gray_small c.self.inside c.self.invariant

-- what the call makes of the parts
stepped : (c : After-set_next) → ArenaStep c.set_next.new.self c.self.inside.heads (Some c.args.slot.0)
    (record (opened c.self.inside) {
      cells = altered c.args.slot.0 (with_marking true) (opened c.self.inside).cells;
      gray =
          c.args.slot.0 ∷ (opened c.self.inside).gray;
    })
stepped c =
    let h = subst (λ (v : ArenaState). IsTaken v c.args.slot.0) (sym c.self.view_is) c.requires.taken in
    let unmarked = subst (λ (v : ArenaState). marked_at v c.args.slot.0 ≡ false) (sym c.self.view_is) c.requires.unmarked in
    gray_push_step c.self.inside c.self.invariant c.set_mark.new.self c.set_next.new.self c.args.slot.0 h
    (unmarked_away _ c.self.invariant c.args.slot.0 unmarked) c.set_mark.ensures c.set_next.ensures

pub invariant_of-self-inside : goal.invariant_of-self-inside
invariant_of-self-inside c =
    let st = stepped (goal.at.invariant_of-self-inside c).After-set_next in
    ((c.self.inside.chained.0, st.chained), ((c.args.slot.0 ∷ c.self.inside.grayed.0, st.grayed), (c.self.inside.counted, tt)))

pub invariant_of-self : goal.invariant_of-self
invariant_of-self c = step_law (stepped (goal.at.invariant_of-self c).After-set_next) c.self-1.given.0 c.self-1.given.1.0

pub returns-clause-after : goal.returns-clause-after
returns-clause-after c = step_state (stepped (goal.at.returns-clause-after c).After-set_next) c.self-1.given.0 c.self-1.given.1.0
    ∙ ap (λ (v : ArenaState). record v { cells = altered c.args.slot.0 (with_marking true) v.cells; gray = c.args.slot.0 ∷ v.gray }) c.self.view_is

pub returns-clause-law : goal.returns-clause-law
returns-clause-law c = step_law (stepped (goal.at.returns-clause-law c).After-set_next) c.self-1.given.0 c.self-1.given.1.0
