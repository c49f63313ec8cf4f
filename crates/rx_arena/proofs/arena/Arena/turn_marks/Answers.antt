use Rattle.std.proofs.Common.{◌≡◌, ℕ, [], map, false, sym, ap, subst, ◌∙◌}
use Rattle.std.specs.Option.{option_map}
use Rattle.rx_arena.specs.Arena.{ArenaState, IsTaken, IsMarked, with_marking}
use Rattle.rx_arena.proofs.ArenaStepLemmas.{ArenaStep, opened, turn_step, step_law, step_state}
use Rattle.rx_arena.proofs.arena.Arena.turn_marks.Goals.{After-turn}
use Rattle.rx_arena.proofs.arena.Arena.turn_marks.Goals as goal

-- what the call makes of the parts
stepped : (c : After-turn) → ArenaStep c.turn.new.self c.self.inside.heads c.self.inside.gray_first
    (record (opened c.self.inside) { cells = map (option_map (with_marking false)) (opened c.self.inside).cells })
stepped c =
    let all = subst (λ (v : ArenaState). (s : ℕ) → IsTaken v s → IsMarked v s) (sym c.self.view_is) c.requires.marked in
    let none = subst (λ (v : ArenaState). v.gray ≡ []) (sym c.self.view_is) c.requires.no_gray in
    turn_step c.self.inside c.self.invariant c.turn.new.self c.turn.ensures.after c.turn.ensures.two all none

pub invariant_of-self-inside : goal.invariant_of-self-inside
invariant_of-self-inside c =
    let st = stepped (goal.at.invariant_of-self-inside c).After-turn in
    ((c.self.inside.chained.0, st.chained), ((c.self.inside.grayed.0, st.grayed), (c.self.inside.counted, tt)))

pub invariant_of-self : goal.invariant_of-self
invariant_of-self c = step_law (stepped (goal.at.invariant_of-self c).After-turn) c.self-1.given.0 c.self-1.given.1.0

pub returns-clause-after : goal.returns-clause-after
returns-clause-after c = step_state (stepped (goal.at.returns-clause-after c).After-turn) c.self-1.given.0 c.self-1.given.1.0
    ∙ ap (λ (v : ArenaState). record v { cells = map (option_map (with_marking false)) v.cells }) c.self.view_is

pub returns-clause-law : goal.returns-clause-law
returns-clause-law c = step_law (stepped (goal.at.returns-clause-law c).After-turn) c.self-1.given.0 c.self-1.given.1.0
