use Rattle.std.proofs.Common.{◌∷◌, refl, sym, ap, ◌∙◌}
use Rattle.rx_arena.specs.Arena.{ArenaState}
use Rattle.rx_sweep.proofs.MarkStepLemmas.{marks_one}
use Rattle.rx_sweep.proofs.marking.mark_ahead.Goals as goal

pub returns-clause-marks : goal.returns-clause-marks
returns-clause-marks c =
    let taken = c.requires.taken in
    marks_one c.args.arena.now (record c.mark.new.self { gray = c.args.slot.0 ∷ c.mark.new.self.gray }) c.args.slot.0 taken.0 taken.1
    (sym c.marked.ensures ∙ c.if-marked.false)
    (ap (λ (v : ArenaState). record v { gray = c.args.slot.0 ∷ v.gray }) c.mark.ensures.after)

pub returns-clause-marked : goal.returns-clause-marked
returns-clause-marked c =
    let taken = c.requires.taken in
    let m = marks_one c.args.arena.now (record c.mark.new.self { gray = c.args.slot.0 ∷ c.mark.new.self.gray }) c.args.slot.0 taken.0 taken.1
    (sym c.marked.ensures ∙ c.if-marked.false)
    (ap (λ (v : ArenaState). record v { gray = c.args.slot.0 ∷ v.gray }) c.mark.ensures.after) in
    m.marked c.args.slot.0 refl
