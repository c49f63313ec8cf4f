use Rattle.std.proofs.Common.{◌∙◌, ap, drop, arith, rules}
use Rattle.std.specs.Prelude.{◌<◌, ◌-◌, length}
use Rattle.std.proofs.lemmas.List.{get_or_default, length-drop, take_all}
use Rattle.rec_sorts.specs.Letters.{misplaced}
use Rattle.rec_sorts.proofs.TurnLemmas.{ill_sorted_turn}
use Rattle.rec_sorts.proofs.scope.Scope.ill_sorted_place.Goals as goal

pub loop-placed-preserved : goal.loop-placed-preserved
loop-placed-preserved c =
    let s = c.args.self.now in
    let letters = c.args.letters.now in
    let i = c.loop-placed.placed-index in
    let base = c.saturating_sub-base.result in
    let sorts = c.arguments-sorts.result.now in
    let heads = c.deref.result.now in
    let lt : i < length letters = omega arith in
    ill_sorted_turn s letters i _ c.loop-placed.heads.items c.truncate.new.self.items c.push.new.self.items base c.loop-placed.least
    c.misplaced_place.result c.earlier_place-least.result _
    lt (get_or_default letters i _ _ lt) (search rules)
    (c.misplaced_place.ensures
    ∙ ap (λ ps. misplaced s ps sorts) (take_all (length heads - base) (drop base heads) (let l = length-drop base heads in omega (arith, l))
    ∙ ap (drop base) c.deref.ensures.value)
    ∙ ap (misplaced s (drop base c.loop-placed.heads.items)) c.arguments-sorts.ensures)
    c.earlier_place-least.ensures (search rules) c.in_ok-push.ensures.items c.loop-placed.invariant
